use Rattle.std.proofs.Common.{◌≡◌, ◌-◌, ◌≤◌, length}
use Rattle.kex_tabfile.specs.PlaceNumbers.{WalksPlaces, IsOrder}
use Rattle.kex_tabfile.proofs.places.number_places.Given as goal

abbrev pub invariant-loop-left : goal.invariant-loop-left
invariant-loop-left l = record {
  walked : WalksPlaces l.machine l.left l.places.order.items;
  order : IsOrder l.places.order.items l.places.numbers.items;
  long : length l.places.numbers.items ≡ length l.nodes;
  within : l.left ≤ length l.places.order.items;
}

abbrev pub decreases-loop-left : goal.decreases-loop-left
decreases-loop-left l = length l.nodes - l.left
