use Rattle.std.proofs.Common.{take}
use Rattle.kex_held.specs.Slices.{AreItemsWithin}
use Rattle.kex_held.proofs.end.are_within.Given as goal

abbrev pub invariant-items : goal.invariant-items
invariant-items l = AreItemsWithin l.count (take l.item-index l.items)
