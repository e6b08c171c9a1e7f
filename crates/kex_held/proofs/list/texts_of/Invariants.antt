use Rattle.std.proofs.Common.{take}
use Rattle.kex_held.specs.LearntEdges.{AreListsOf}
use Rattle.kex_held.proofs.list.texts_of.Given as goal

abbrev pub invariant-tracked : goal.invariant-tracked
invariant-tracked l = AreListsOf l.machine.nodes l.texts l.marks (take l.new-index l.tracked) l.all.items
