use Rattle.std.proofs.Common.{◌≡◌, ◌++◌, take}
use Rattle.std.specs.List.{concat}
use Rattle.kex_each.specs.Desks.{answers_of}
use Rattle.kex_each.proofs.desks.Desks.write_into.Given as goal

abbrev pub invariant-desks : goal.invariant-desks
invariant-desks l = l.out.items ≡ l.fn.out.items ++ concat (answers_of (take l.desk-index l.all))
