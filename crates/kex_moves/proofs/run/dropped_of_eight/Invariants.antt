use Rattle.std.proofs.Common.{◌+◌, ◌-◌, ◌≤◌, All, take}
use Rattle.kex_moves.specs.declared.edge.EdgeKind.TheVariants.{Drop}
use Rattle.kex_moves.specs.Runs.{HasKind}
use Rattle.kex_moves.proofs.run.dropped_of_eight.Given as goal

abbrev pub invariant-loop-count : goal.invariant-loop-count
invariant-loop-count l = record {
  within : l.count ≤ 8;
  dropped : All (HasKind l.classes l.edges Drop) (take (l.at + l.count) l.piece);
}

abbrev pub decreases-loop-count : goal.decreases-loop-count
decreases-loop-count l = 8 - l.count
