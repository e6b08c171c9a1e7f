use Rattle.std.proofs.Common.{length, ◌-◌, ◌<◌, ◌≤◌, All, take}
use Rattle.kex_moves.specs.declared.edge.EdgeKind.TheVariants.{Drop}
use Rattle.kex_moves.specs.Runs.{HasKind}
use Rattle.kex_moves.proofs.run.skip.Given as goal

abbrev pub invariant-loop-count : goal.invariant-loop-count
invariant-loop-count l = record {
  some : 0 < l.count;
  within : l.count ≤ length l.piece;
  dropped : All (HasKind l.classes l.edges Drop) (take l.count l.piece);
}

abbrev pub decreases-loop-count : goal.decreases-loop-count
decreases-loop-count l = length l.piece - l.count
