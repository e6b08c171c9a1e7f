use Rattle.std.proofs.Common.{take}
use Rattle.kex_machine.specs.Nodes.{node_moves}
use Rattle.kex_paths.specs.Alikes.{LeadAlikeFrom}
use Rattle.kex_paths.proofs.tree.PathTree.goes_on_alike.Given as goal

abbrev pub invariant-loop-place : goal.invariant-loop-place
invariant-loop-place l = LeadAlikeFrom (node_moves l.nodes) l.byte l.twin (take l.place-index l.place-items)
