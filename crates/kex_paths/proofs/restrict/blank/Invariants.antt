use Rattle.std.proofs.Common.{◌≡◌, ◌≤◌, [], replicate}
use Rattle.kex_paths.proofs.restrict.blank.Given as goal

abbrev pub invariant-loop : goal.invariant-loop
invariant-loop l = record {
  within : l.counter ≤ l.count;
  empty : l.regs.items ≡ replicate l.counter [];
}
