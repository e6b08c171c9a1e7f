use Rattle.std.proofs.Common.{take}
use Rattle.kex_held.specs.LearntEdges.{AreTrackedAny}
use Rattle.kex_held.proofs.track.ListTracker.track_edges.Given as goal

abbrev pub invariant-lists : goal.invariant-lists
invariant-lists l = AreTrackedAny l.self.machine.now.nodes l.self.texts.now (take l.parts-index l.lists) l.all.items
