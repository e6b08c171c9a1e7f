use Rattle.kex_held.specs.Slices.{AreKept}
use Rattle.kex_held.proofs.keep.points_to_keep.Given as goal

abbrev pub invariant-points : goal.invariant-points
invariant-points l = AreKept l.point l.keep.items
