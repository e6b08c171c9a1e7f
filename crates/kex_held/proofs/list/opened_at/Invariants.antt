use Rattle.std.proofs.Common.{◌≤◌, length, drop}
use Rattle.kex_held.specs.Sealed.{AreWriting}
use Rattle.kex_held.proofs.list.opened_at.Given as goal

abbrev pub invariant-loop-at : goal.invariant-loop-at
invariant-loop-at l = record { within : l.at ≤ length l.items; writes : AreWriting l.machine.nodes (drop l.at l.items) }

abbrev pub decreases-loop-at : goal.decreases-loop-at
decreases-loop-at l = l.at
