use Rattle.std.proofs.Common.{◌≡◌, ◌++◌, map}
use Rattle.kex_compile.proofs.lowered.Lowered.into_machines.Given as goal

abbrev pub invariant-stages : goal.invariant-stages
invariant-stages l = record {
  stages : l.fn.self.machines ≡ map (λ s. s.machine) (l.yielded ++ l.stage-iterator.rest.items);
  same : l.machines.items ≡ map (λ s. s.machine) l.yielded;
}
