use Rattle.std.proofs.Common.{◌≡◌, ◌∙◌, ◌+◌, ◌++◌, ◌∷◌, [], length, sym, ap, ap₂, subst}
use Rattle.std.proofs.lemmas.List.{take_more, map-append}
use Rattle.kex_held.specs.declared.item.HeldItem.TheVariants.{Slice}
use Rattle.kex_held.specs.Slices.{AreItemsWithin, item_by_number, items_by_number}
use Rattle.kex_held.proofs.ListJoins.{within_append}
use Rattle.kex_held.proofs.keep.renumber_all.Goals as goal

pub loop-item-preserved : goal.loop-item-preserved
loop-item-preserved c =
    let keep = c.args.keep.now in
    let last = c.args.last in
    let items = c.args.items.now in
    let i = c.loop-item.item-index in
    let xs = c.loop-item.renumbered.items in
    let x = c.in-Some.item in
    let pushed : c.push.new.self.items ≡ xs ++ x ∷ [] = (c.in_ok-push.ensures {u = tt}).items in
    let one = c.in-Some.ensures {u = tt} in
    record {
      number = ap (items_by_number last keep) pushed ∙ map-append (λ j. item_by_number last keep j) xs (x ∷ []) ∙ ap₂ (λ a b. a ++ b ∷ []) c.loop-item.invariant.number one.number ∙ sym (take_more items i (Slice 0 0) c.loop-item-test.true);
      within = subst (AreItemsWithin (length keep + 1)) (sym pushed) (within_append (length keep + 1) xs (x ∷ []) c.loop-item.invariant.within (one.within, tt));
    }
