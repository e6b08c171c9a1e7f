use Rattle.std.proofs.Common.{◌≡◌, ◌++◌, map, take}
use Rattle.kex_each.proofs.texts.Texts.unpack_into.Given as goal

abbrev pub invariant-loop-i : goal.invariant-loop-i
invariant-loop-i l = map (λ v. v.items) l.all.items ≡ map (λ v. v.items) l.initial.all.items ++ take l.i l.self
