use Rattle.kex_rules.specs.Tables.{IsLeastOffset}
use Rattle.kex_rules.proofs.NodeFlags.{UnknownBefore}
use Rattle.kex_rules.proofs.names.unknown_call.Given as goal

abbrev pub invariant-loop-n : goal.invariant-loop-n
invariant-loop-n l = IsLeastOffset (UnknownBefore l.program l.within l.n) l.found
