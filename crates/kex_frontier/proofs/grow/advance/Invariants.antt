use Rattle.std.proofs.Common.{◌≡◌, ℕ, [], length}
use Rattle.kex_code.specs.declared.symbol.Symbol.{Symbol}
use Rattle.kex_model.specs.Labelled.{Labelled}
use Rattle.kex_machine.specs.Nodes.{node_moves}
use Rattle.kex_frontier.specs.Edges.{edges_of}
use Rattle.kex_frontier.specs.Views.{edges_at}
use Rattle.kex_frontier.proofs.AdvanceLoop.{left_of, EachTip, Grows}
use Rattle.kex_frontier.proofs.grow.advance.Given as goal

abbrev pub invariant-loop-edge : goal.invariant-loop-edge
invariant-loop-edge l = record {
  long : length l.tools.marks ≡ length l.nodes;
  tips : EachTip (length l.nodes) (left_of l.tree.items);
  grows : (t : Labelled Symbol ℕ) → edges_at l.fn.tree.items ≡ edges_of t [] → Grows (node_moves l.nodes) l.byte l.fn.tools.marks t l.tools.marks (left_of l.tree.items) l.grown;
}

abbrev pub decreases-loop-edge : goal.decreases-loop-edge
decreases-loop-edge l = goal.left-loop-edge l
