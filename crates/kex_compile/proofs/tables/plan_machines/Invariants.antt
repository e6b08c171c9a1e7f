use Rattle.std.proofs.Common.{◌≡◌, ◌+◌, ◌++◌, ◌*◌, ◌^◌, ◌<◌, ◌≤◌, length}
use Rattle.kex_compile.specs.Stages.{HasEachPlan, HavePlansOrFirst, StandAtNumbers, asked_telling, stage_of}
use Rattle.kex_compile.proofs.tables.plan_machines.Given as goal

abbrev pub invariant-machines : goal.invariant-machines
invariant-machines l = record {
  machines : l.fn.lowered.machines ≡ l.yielded ++ l.machine-iterator.rest.items;
  stand : StandAtNumbers stage_of l.fn.lowered.machines;
  count : length l.fn.lowered.machines < 2 ^ 32;
  places : l.planning.compiled.places ≡ l.fn.lowered.places;
  stage : l.stage ≡ length l.yielded;
  told : l.planning.compiled.telling ≡ asked_telling l.limits;
  plans : HavePlansOrFirst l.limits l.yielded l.planning.too_many_pairs l.planning.compiled;
  few : l.planning.compiled.states ≤ l.stage * (2 ^ 32);
  each : HasEachPlan (l.stage + 1) l.planning.too_many_pairs l.planning.compiled;
}
