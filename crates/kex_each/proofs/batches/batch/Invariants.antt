use Rattle.std.proofs.Common.{◌≡◌, map, take}
use Rattle.kex_each.proofs.batches.batch.Given as goal

abbrev pub invariant-lines : goal.invariant-lines
invariant-lines g l = l.packed ≡ map (λ v. v.items) (take l.line-index l.lines)
