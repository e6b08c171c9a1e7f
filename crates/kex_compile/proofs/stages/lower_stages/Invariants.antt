use Rattle.std.proofs.Common.{◌≡◌, take, map}
use Rattle.kex_model.specs.Trees.{root_of}
use Rattle.kex_compile.specs.Stages.{AreLowered, HasEachMachine}
use Rattle.kex_compile.proofs.stages.lower_stages.Given as goal

abbrev pub invariant-stages : goal.invariant-stages
invariant-stages l = record {
  roots : l.lowering.roots.items ≡ map (λ s. root_of l.program s.name) (take l.start-index l.program.stages);
  each : HasEachMachine l.lowering.roots.items l.lowering.firsts l.lowering.lowered;
  lowered : AreLowered l.program l.lowering.roots.items l.lowering.firsts l.lowering.lowered;
}
