use Rattle.std.proofs.Common.{◌≤◌, length}
use Rattle.kex_frontier.proofs.RowSteps.{Entering}
use Rattle.kex_frontier.proofs.matcher.step.Given as goal

abbrev pub invariant-places : goal.invariant-places
invariant-places l = record { within : l.left ≤ length l.nodes; so_far : Entering l.nodes l.byte l.now l.initial.next l.next l.left }

abbrev pub decreases-places : goal.decreases-places
decreases-places l = l.left
