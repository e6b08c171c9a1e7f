use Rattle.std.proofs.Common.{◌≡◌, List, take}
use Rattle.kex_sst.specs.declared.parts.Part.{Part}
use Rattle.kex_paths.specs.Updates.{AreLabels}
use Rattle.kex_paths.proofs.updates.is_update.Given as goal

abbrev pub invariant-loop-register : goal.invariant-loop-register
invariant-loop-register l = (xs : List (List Part)) → AreLabels l.edges.cells l.labels xs → take l.register l.regs ≡ take l.register xs
