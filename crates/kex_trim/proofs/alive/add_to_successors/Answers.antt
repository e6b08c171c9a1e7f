use Rattle.std.proofs.Common.{◌≡◌, ◌<◌, [], ◌∷◌, ◌++◌, inl, inr, length, get_or, refl, sym, ap, subst, ◌∙◌, length-set}
use Rattle.std.proofs.lemmas.Result.{IfOk-weaker}
use Rattle.kex_code.specs.Codes.{IsAmong}
use Rattle.kex_trim.specs.Ways.{listed_successors, AddsToLists}
use Rattle.kex_trim.proofs.EndMarks.{adds_one, adds_both}
use Rattle.kex_trim.proofs.alive.add_to_successors.Goals as goal
use Rattle.kex_trim.proofs.alive.add_to_successors.Goals.{In-Two}

pub add_source-requires : goal.add_source-requires
add_source-requires c = c.requires c.in-One.next (subst (λ w. IsAmong (listed_successors w) c.in-One.next) (sym c.in-One.is) (inl refl))

left_in : (c : In-Two) → c.in-Two.left < length c.args.into.now.items
left_in c = c.requires c.in-Two.left (subst (λ w. IsAmong (listed_successors w) c.in-Two.left) (sym c.in-Two.is) (inl refl))

right_in : (c : In-Two) → c.in-Two.right < length c.args.into.now.items
right_in c = c.requires c.in-Two.right (subst (λ w. IsAmong (listed_successors w) c.in-Two.right) (sym c.in-Two.is) (inr (inl refl)))

pub add_source-requires-in-Two : goal.add_source-requires-in-Two
add_source-requires-in-Two c = left_in (goal.at.add_source-requires-in-Two c).In-Two

pub add_source-requires-in-Two-2 : goal.add_source-requires-in-Two-2
add_source-requires-in-Two-2 c =
    let old = c.args.into.now.items in
    let same : length c.add_source-in-Two.new.into.items ≡ length old = ap length c.in_ok-add_source-in-Two.ensures ∙ length-set old c.in-Two.left (get_or old c.in-Two.left [] ++ c.args.from ∷ []) in
    subst (λ z. c.in-Two.right < z) (sym same) (right_in (goal.at.add_source-requires-in-Two-2 c).In-Two)

pub returns-in-One : goal.returns-in-One
returns-in-One c = IfOk-weaker c.add_source.result _ _
    (λ v e. subst (λ w. AddsToLists (listed_successors w) c.args.from c.args.into.now.items c.add_source.new.into.items) (sym c.in-One.is) (subst (λ z. AddsToLists (c.in-One.next ∷ []) c.args.from c.args.into.now.items z) (sym e) (adds_one c.args.into.now.items c.in-One.next c.args.from (c.requires c.in-One.next (subst (λ w. IsAmong (listed_successors w) c.in-One.next) (sym c.in-One.is) (inl refl))))))
    c.add_source.ensures

pub returns-in_ok-add_source-in-Two : goal.returns-in_ok-add_source-in-Two
returns-in_ok-add_source-in-Two c =
    let top = (goal.at.returns-in_ok-add_source-in-Two c).In-Two in
    let old = c.args.into.now.items in
    let mid = c.add_source-in-Two.new.into.items in
    let first : AddsToLists (c.in-Two.left ∷ []) c.args.from old mid = subst (λ z. AddsToLists (c.in-Two.left ∷ []) c.args.from old z) (sym c.in_ok-add_source-in-Two.ensures) (adds_one old c.in-Two.left c.args.from (left_in top)) in
    IfOk-weaker c.add_source-in-Two-2.result _ _
    (λ v e. subst (λ w. AddsToLists (listed_successors w) c.args.from old c.add_source-in-Two-2.new.into.items) (sym c.in-Two.is)
    (adds_both (c.in-Two.left ∷ []) (c.in-Two.right ∷ []) c.args.from old mid c.add_source-in-Two-2.new.into.items first
    (subst (λ z. AddsToLists (c.in-Two.right ∷ []) c.args.from mid z) (sym e) (adds_one mid c.in-Two.right c.args.from (subst (λ z. c.in-Two.right < z) (sym first.long) (right_in top))))))
    c.add_source-in-Two-2.ensures
