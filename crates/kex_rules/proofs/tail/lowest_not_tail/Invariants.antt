use Rattle.kex_rules.specs.Tables.{IsLeastOffset}
use Rattle.kex_rules.proofs.Apart.{ApartBefore}
use Rattle.kex_rules.proofs.tail.lowest_not_tail.Given as goal

abbrev pub invariant-loop-n : goal.invariant-loop-n
invariant-loop-n l = IsLeastOffset (ApartBefore l.program l.apart.items l.n) l.found
