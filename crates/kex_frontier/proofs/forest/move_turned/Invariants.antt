use Rattle.std.proofs.Common.{◌≡◌, ◌++◌, map, reverse}
use Rattle.kex_frontier.specs.Edges.{with_label_turned}
use Rattle.kex_frontier.specs.Views.{edges_at}
use Rattle.kex_frontier.proofs.forest.move_turned.Given as goal

abbrev pub invariant-loop-edge : goal.invariant-loop-edge
invariant-loop-edge l = edges_at l.to.items ++ map with_label_turned (edges_at (reverse l.from.items)) ≡ edges_at l.fn.to.items ++ map with_label_turned (edges_at l.fn.from.items)

abbrev pub decreases-loop-edge : goal.decreases-loop-edge
decreases-loop-edge l = goal.left-loop-edge l
