use Rattle.std.proofs.Common.{◌≡◌, ◌++◌, map, take}
use Rattle.kex_each.specs.Desks.{answers_of}
use Rattle.kex_each.proofs.desks.Desks.unpack_into.Given as goal

abbrev pub invariant-desks : goal.invariant-desks
invariant-desks l = map (λ v. v.items) l.all.items ≡ map (λ v. v.items) l.fn.all.items ++ answers_of (take l.desk-index l.desks)
