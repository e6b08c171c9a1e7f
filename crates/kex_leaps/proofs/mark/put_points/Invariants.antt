use Rattle.std.proofs.Common.{◌≡◌, take}
use Rattle.kex_held.specs.Slices.{marks_by}
use Rattle.kex_held.specs.Windows.{points_at}
use Rattle.kex_leaps.proofs.mark.put_points.Given as goal

abbrev pub invariant-points : goal.invariant-points
invariant-points l = record {
  out : l.out.items ≡ marks_by (points_at l.at l.marks) (take l.number-index l.keep);
}
