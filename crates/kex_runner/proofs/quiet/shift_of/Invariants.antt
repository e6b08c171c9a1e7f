use Rattle.std.proofs.Common.{◌≤◌, ◌-◌}
use Rattle.kex_runner.proofs.quiet.shift_of.Given as goal

abbrev pub invariant-loop-shift : goal.invariant-loop-shift
invariant-loop-shift l = l.shift ≤ 8

abbrev pub decreases-loop-shift : goal.decreases-loop-shift
decreases-loop-shift l = 8 - l.shift
