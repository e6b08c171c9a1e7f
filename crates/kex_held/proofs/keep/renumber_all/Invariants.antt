use Rattle.std.proofs.Common.{◌≡◌, ◌+◌, take, length}
use Rattle.kex_held.specs.Slices.{AreItemsWithin, items_by_number}
use Rattle.kex_held.proofs.keep.renumber_all.Given as goal

abbrev pub invariant-loop-item : goal.invariant-loop-item
invariant-loop-item l = record {
  number : items_by_number l.last l.keep l.renumbered.items ≡ take l.item-index l.items;
  within : AreItemsWithin (length l.keep + 1) l.renumbered.items;
}
