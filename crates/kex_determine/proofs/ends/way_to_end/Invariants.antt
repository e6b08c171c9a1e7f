use Rattle.std.proofs.Common.{◌≡◌, ℕ, length}
use Rattle.kex_model.specs.Labelled.{Shape}
use Rattle.kex_machine.specs.Nodes.{node_moves}
use Rattle.kex_machine.specs.Advancing.{first_accepting, EachPlace}
use Rattle.kex_sst.specs.Parts.{numbered_tree}
use Rattle.kex_paths.specs.Nexts.{inner_of, places_of}
use Rattle.kex_determine.specs.Rows.{way_to}
use Rattle.kex_determine.specs.Ways.{IsOnWay}
use Rattle.kex_determine.proofs.ends.way_to_end.Given as goal

abbrev pub invariant-loop-node : goal.invariant-loop-node
invariant-loop-node l = (s : Shape ℕ) → l.shape ≡ inner_of s → l.leaves ≡ places_of s → EachPlace (length l.nodes) s → IsOnWay (node_moves l.nodes) (length l.nodes) l.shape l.leaves (way_to (first_accepting (node_moves l.nodes) (numbered_tree 0 s))) l.node l.leaf l.way.items l.forks.items
