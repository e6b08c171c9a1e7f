use Rattle.std.proofs.Common.{◌≡◌, ◌∙◌, ◌++◌, ◌∷◌, [], sym, ap, subst}
use Rattle.std.specs.Prelude.{option_to_list}
use Rattle.kex_held.specs.declared.item.HeldItem.TheVariants.{Slice}
use Rattle.kex_held.specs.Slices.{ListGoesOn}
use Rattle.kex_held.proofs.ListJoins.{list_joined}
use Rattle.kex_held.proofs.list.push_slice.Goals as goal

pub returns-in_ok-push-in-Some-Slice : goal.returns-in_ok-push-in-Some-Slice
returns-in_ok-push-in-Some-Slice c = λ nodes.
    let front = c.pop-last.new.self.items in
    let a = c.in-Some-Slice.first in
    let m = c.in-Some-Slice.end in
    let b = c.args.to in
    let new = c.push-in-Some-Slice.new.self.items in
    let last : c.in-Some-Slice.field-0 ≡ Slice a m = rw c.in-Some-Slice.is at c.in-Some-Slice.field-0-is in
    let old : c.args.items.now.items ≡ front ++ Slice a m ∷ [] = c.pop-last.ensures.items ∙ ap (λ o. front ++ option_to_list o) c.in-Some-Slice.is ∙ ap (λ x. front ++ x ∷ []) last in
    let now : new ≡ front ++ Slice a b ∷ [] = (c.in_ok-push-in-Some-Slice.ensures {u = tt}).items in
    let all = subst (λ e. ListGoesOn nodes (front ++ Slice a m ∷ []) (Slice e b ∷ []) (front ++ Slice a b ∷ [])) c.if-end-from.true (list_joined nodes front a m b) in
    subst (λ l. ListGoesOn nodes l (Slice c.args.from b ∷ []) new) (sym old) (subst (λ l. ListGoesOn nodes (front ++ Slice a m ∷ []) (Slice c.args.from b ∷ []) l) (sym now) all)
