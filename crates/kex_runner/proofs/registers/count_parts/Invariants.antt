use Rattle.std.proofs.Common.{◌≡◌, ◌+◌}
use Rattle.kex_runner.proofs.registers.count_parts.Given as goal

abbrev pub invariant-loop : goal.invariant-loop
invariant-loop g l = l.steps ≡ l.initial.steps + l.index
