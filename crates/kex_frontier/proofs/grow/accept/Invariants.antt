use Rattle.std.proofs.Common.{◌≡◌, ℕ, [], length}
use Rattle.kex_code.specs.declared.symbol.Symbol.{Symbol}
use Rattle.kex_model.specs.Labelled.{Labelled}
use Rattle.kex_machine.specs.Nodes.{node_moves}
use Rattle.kex_frontier.specs.Edges.{edges_of}
use Rattle.kex_frontier.specs.Views.{edges_at}
use Rattle.kex_frontier.proofs.AdvanceLoop.{left_of, EachTip, Ends}
use Rattle.kex_frontier.proofs.grow.accept.Given as goal

abbrev pub invariant-loop-edge : goal.invariant-loop-edge
invariant-loop-edge l = record {
  tips : EachTip (length l.nodes) (left_of l.tree.items);
  ends : (t : Labelled Symbol ℕ) → edges_at l.fn.tree.items ≡ edges_of t [] → Ends (node_moves l.nodes) t (left_of l.tree.items) l.found;
}

abbrev pub decreases-loop-edge : goal.decreases-loop-edge
decreases-loop-edge l = goal.left-loop-edge l
