use Rattle.std.proofs.Common.{◌≡◌, ◌∙◌, ◌∷◌, [], ℕ, List, IfSome, IsTrue, set, sym, ap, subst}
use Rattle.kex_model.specs.Acting.{ActingState}
use Rattle.kex_machine.specs.declared.MNode.{MNode}
use Rattle.kex_action.specs.Holdings.{with_bytes}
use Rattle.kex_action.specs.Actions.{after_actions}
use Rattle.kex_action.specs.Deeds.{after_deeds}
use Rattle.kex_action.specs.Sheets.{with_buffer}
use Rattle.kex_moves.specs.declared.edge.Edge.{Edge}
use Rattle.kex_moves.specs.Known.{Settles}
use Rattle.kex_moves.proofs.PlacedTexts.{settles_same, map_ok}
use Rattle.kex_moves.proofs.settle.settle.Goals as goal

pub returns-in-Some-clause-settles : goal.returns-in-Some-clause-settles
returns-in-Some-clause-settles c =
    let ns = c.args.machine.now.nodes in
    let k = c.text_edge.new.self in
    let bytes = c.deref.result.now in
    let p = c.in-Some.place in
    let did = subst (λ o. IfSome o (λ p. (b : ℕ) (s : ActingState) → after_actions ns b c.args.actions.now s ≡ with_bytes (set c.text_of.new.bytes.items p b) s)) c.in-Some.is (c.in_ok-place.ensures {u = tt}).done in
    map_ok (λ (e : Edge). (nodes : List MNode) → Settles nodes k c.args.next (λ b. with_bytes (set bytes p b)) e) (λ (e : Edge). Settles ns k c.args.next (λ b. after_actions ns b c.args.actions.now) e) c.text_edge.result
    (λ e h. settles_same ns k c.args.next (λ b. with_bytes (set bytes p b)) (λ b. after_actions ns b c.args.actions.now) e (λ b s. did b s ∙ ap (λ l. with_bytes (set l p b) s) (sym c.deref.ensures.value)) (h ns))
    c.text_edge.ensures.settles

pub returns-clause-settles : goal.returns-clause-settles
returns-clause-settles c =
    let ns = c.args.machine.now.nodes in
    let k = c.acts_edge.new.self in
    let deeds = c.deref-in-None-3.result.now in
    let same = λ (b : ℕ) (s : ActingState). c.in_ok-kept-in-None.ensures {u = tt} b s ∙ ap (λ l. after_actions ns b l s) (sym c.deref-in-None.ensures.value) ∙ c.in_ok-deeds-in-None.ensures {u = tt} b s ∙ ap (λ l. after_deeds ns b l s) (sym c.deref-in-None-3.ensures.value) in
    let told = λ (q : IsTrue c.only_open-opens.result) (b : ℕ) (s : ActingState). ap (λ l. after_deeds ns b l s) (c.deref-in-None-3.ensures.value ∙ sym c.deref-in-None-2.ensures.value) ∙ c.only_open-opens.ensures q ns b s in
    map_ok (λ (e : Edge). (nodes : List MNode) → (IsTrue c.only_open-opens.result → (b : ℕ) (s : ActingState) → after_deeds nodes b deeds s ≡ with_buffer (b ∷ []) s) → Settles nodes k c.args.next (λ b. after_deeds nodes b deeds) e) (λ (e : Edge). Settles ns k c.args.next (λ b. after_actions ns b c.args.actions.now) e) c.acts_edge.result (λ e h. settles_same ns k c.args.next (λ b. after_deeds ns b deeds) (λ b. after_actions ns b c.args.actions.now) e same (h ns told)) c.acts_edge.ensures.settles
