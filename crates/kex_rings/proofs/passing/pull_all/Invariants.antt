use Rattle.std.proofs.Common.{◌≤◌, ◌-◌}
use Rattle.kex_rings.specs.Passing.{ComesOut}
use Rattle.kex_rings.proofs.passing.pull_all.Given as goal

abbrev pub invariant-runs : goal.invariant-runs
invariant-runs l = record { out : ComesOut l.fn.inbox l.inbox l.fn.ring l.ring l.count; within : l.count ≤ l.all }

abbrev pub decreases-runs : goal.decreases-runs
decreases-runs l = l.all - l.count
