use Rattle.std.proofs.Common.{◌≤◌, length}
use Rattle.kex_cover.proofs.MarkedPlaces.{IsListedFrom}
use Rattle.kex_cover.proofs.sets.marked_places.Given as goal

abbrev pub invariant-places : goal.invariant-places
invariant-places l = record { within : l.left ≤ length l.nodes; listed : IsListedFrom l.nodes l.row l.left l.places.items }

abbrev pub decreases-places : goal.decreases-places
decreases-places l = l.left
