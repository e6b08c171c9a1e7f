use Rattle.std.proofs.Common.{◌≡◌, ◌++◌}
use Rattle.kex_tabfile.proofs.checked.Checked.shorten.Given as goal

abbrev pub invariant-plans : goal.invariant-plans
invariant-plans l = record {
  plans : l.fn.self ≡ l.yielded ++ l.plan-iterator.rest.items;
  same : l.stages.items ≡ l.yielded;
}
