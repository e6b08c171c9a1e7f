use Rattle.std.proofs.Common.{List}
use Rattle.kex_sst.specs.declared.parts.Part.{Part}
use Rattle.kex_paths.specs.Forests.{IsLabel}
use Rattle.kex_paths.proofs.forest.PathEdges.hash_label.Given as goal

abbrev pub invariant-loop-left : goal.invariant-loop-left
invariant-loop-left l = (xs : List Part) × IsLabel l.self.cells l.left xs

abbrev pub decreases-loop-left : goal.decreases-loop-left
decreases-loop-left l = l.left
