-- Actions, one after another.
use Rattle.std.proofs.Common.{◌≡◌, ℕ, ◌<◌, ◌+◌, List, [], ◌∷◌, ◌++◌, length, take, get_or, refl, ap, ◌∙◌}
use Rattle.std.proofs.lemmas.List.{take_more}
use Rattle.kex_model.specs.Acting.{ActingState}
use Rattle.kex_machine.specs.declared.MNode.{MNode}
use Rattle.kex_action.specs.Actions.{after_action, after_actions}
use Rattle.kex_action.specs.declared.action.Action.{Action}

pub done-append : (nodes : List MNode) (b : ℕ) (xs ys : List Action) (s : ActingState) → after_actions nodes b (xs ++ ys) s ≡ after_actions nodes b ys (after_actions nodes b xs s)
done-append nodes b [] ys s = refl
done-append nodes b (x ∷ xs) ys s = done-append nodes b xs ys (after_action nodes b x s)

-- one action more
pub done-more : (nodes : List MNode) (b : ℕ) (xs : List Action) (i : ℕ) (d : Action) (s : ActingState) → i < length xs → after_actions nodes b (take (i + 1) xs) s ≡ after_action nodes b (get_or xs i d) (after_actions nodes b (take i xs) s)
done-more nodes b xs i d s h = ap (λ l. after_actions nodes b l s) (take_more xs i d h) ∙ done-append nodes b (take i xs) (get_or xs i d ∷ []) s
