use Rattle.std.proofs.Common.{◌≡◌, List, take}
use Rattle.kex_sst.specs.declared.parts.Part.{Part}
use Rattle.kex_paths.specs.Updates.{AreLabels}
use Rattle.kex_paths.proofs.updates.update_of.Given as goal

abbrev pub invariant-loop-label : goal.invariant-loop-label
invariant-loop-label l = (xs : List (List Part)) → AreLabels l.edges.cells l.labels xs → l.regs.items ≡ take l.label-index xs
