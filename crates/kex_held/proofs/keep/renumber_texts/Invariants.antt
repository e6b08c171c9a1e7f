use Rattle.std.proofs.Common.{take}
use Rattle.kex_held.specs.LearntEdges.{AreRenumbered}
use Rattle.kex_held.proofs.keep.renumber_texts.Given as goal

abbrev pub invariant-texts : goal.invariant-texts
invariant-texts l = AreRenumbered l.last l.keep (take l.text-index l.texts) l.all.items
