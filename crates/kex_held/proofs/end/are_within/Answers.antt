use Rattle.std.proofs.Common.{◌∷◌, [], get_or, take, refl, sym, subst}
use Rattle.std.proofs.lemmas.List.{take_more}
use Rattle.kex_held.specs.declared.item.HeldItem.TheVariants.{Slice}
use Rattle.kex_held.specs.Slices.{AreItemsWithin}
use Rattle.kex_held.proofs.ListJoins.{within_append}
use Rattle.kex_held.proofs.end.are_within.Goals as goal

pub items-preserved : goal.items-preserved
items-preserved c =
    let count = c.args.count in
    let items = c.args.items.now in
    let i = c.items.item-index in
    subst (AreItemsWithin count) (sym (take_more items i (Slice 0 0) c.items-test.true)) (within_append count (take i items) (get_or items i (Slice 0 0) ∷ []) c.items.invariant (c.if-not-is_within.ensures {u = tt} refl, tt))
