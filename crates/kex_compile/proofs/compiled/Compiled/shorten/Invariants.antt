use Rattle.std.proofs.Common.{◌≡◌, ◌++◌, ◌<◌, ◌^◌, length, map}
use Rattle.kex_plan.specs.Plans.{AllTell, machine_of}
use Rattle.kex_compile.specs.Stages.{StandAtNumbers, stage_in, table_of}
use Rattle.kex_compile.proofs.compiled.Compiled.shorten.Given as goal

abbrev pub invariant-plans : goal.invariant-plans
invariant-plans l = record {
  machines : l.fn.self.stages ≡ map machine_of (l.yielded ++ l.plan-iterator.rest.items);
  tables : l.fn.self.tables ≡ map table_of (l.yielded ++ l.plan-iterator.rest.items);
  told : AllTell l.fn.self.telling (l.yielded ++ l.plan-iterator.rest.items);
  few : length (l.yielded ++ l.plan-iterator.rest.items) < 2 ^ 32;
  stand : StandAtNumbers stage_in (l.yielded ++ l.plan-iterator.rest.items);
  same : l.stages.items ≡ l.yielded;
}
