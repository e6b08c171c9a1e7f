use Rattle.std.proofs.Common.{◌≡◌, ◌∙◌, ◌+◌, ◌++◌, ◌∷◌, [], take, length, sym, ap, ap₂, subst}
use Rattle.std.specs.Prelude.{IfSome}
use Rattle.std.proofs.lemmas.List.{take_more}
use Rattle.kex_held.specs.Tracks.{HeldList}
use Rattle.kex_held.specs.Slices.{AreItemsWithin, items_by_number}
use Rattle.kex_held.specs.LearntEdges.{AreRenumbered}
use Rattle.kex_held.proofs.EdgeLists.{renumbered_push}
use Rattle.kex_held.proofs.keep.renumber_texts.Goals as goal

pub texts-preserved : goal.texts-preserved
texts-preserved c =
    let keep = c.args.keep.now in
    let last = c.args.last in
    let xs = c.args.texts.now in
    let i = c.texts.text-index in
    let x = c.text-item.result in
    let all = c.texts.all.items in
    let items = c.in-Some.items.items in
    let new = c.push.new.self.items in
    let text : c.new.result ≡ record { from = x.from; to = x.to; items = items } = c.new.ensures ∙ ap₂ (λ a b. let x : HeldList = record { from = a; to = b; items = items } in x) c.from.ensures c.to.ensures in
    let number : items_by_number last keep items ≡ x.items = subst (λ o. IfSome o (λ xs. items_by_number last keep xs.items ≡ c.items.result.now)) c.in-Some.is (c.in_ok-items.ensures {u = tt}).number ∙ c.items.ensures in
    let within : AreItemsWithin (length keep + 1) items = subst (λ o. IfSome o (λ xs. AreItemsWithin (length keep + 1) xs.items)) c.in-Some.is (c.in_ok-items.ensures {u = tt}).within in
    let pushed : new ≡ all ++ (record { from = x.from; to = x.to; items = items }) ∷ [] = (c.in_ok-push.ensures {u = tt}).items ∙ ap (λ y. all ++ y ∷ []) text in
    let read = take_more xs i x c.texts-test.true ∙ ap (λ y. take i xs ++ y ∷ []) (sym c.text-item.is) in
    subst (λ l. AreRenumbered last keep l new) (sym read) (subst (AreRenumbered last keep (take i xs ++ x ∷ [])) (sym pushed) (renumbered_push last keep (take i xs) all x items c.texts.invariant number within))
