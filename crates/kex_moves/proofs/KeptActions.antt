-- Actions that are kept.
use Rattle.std.proofs.Common.{◌≡◌, ℕ, List, [], ◌∷◌, ◌++◌, Option, Some, None, length, sym, ap, ◌∙◌, subst, arith, length-append}
use Rattle.std.proofs.lemmas.List.{take-append-le}
use Rattle.std.proofs.Math.Seq.{take-length}
use Rattle.kex_model.specs.Moves.{open_buffer}
use Rattle.kex_model.specs.Acting.{ActingState, after_effect}
use Rattle.kex_machine.specs.declared.MNode.{MNode}
use Rattle.kex_action.specs.declared.action.Action.{Action}
use Rattle.kex_action.specs.Holdings.{with_bytes}
use Rattle.kex_action.specs.Actions.{after_action, after_actions}
use Rattle.kex_action.proofs.Actions.{done-append}
use Rattle.kex_moves.specs.Drafts.{with_buffers, KeepsActions}

-- an action more
more_done : (nodes : List MNode) (kept : List Action) (a : Action) (b : ℕ) (s z : ActingState) → z ≡ after_actions nodes b kept s → after_action nodes b a z ≡ after_actions nodes b (kept ++ a ∷ []) s
more_done nodes kept a b s z e = ap (after_action nodes b a) e ∙ sym (done-append nodes b kept (a ∷ []) s)

pub keeps_more : (nodes : List MNode) (kept all : List Action) (place : Option ℕ) (a : Action) (b : ℕ) (s z : ActingState) → all ≡ kept ++ a ∷ [] → KeepsActions nodes kept place b s z → KeepsActions nodes all None b s (after_action nodes b a z)
keeps_more nodes kept all place a b s z e h = subst (λ l. KeepsActions nodes l None b s (after_action nodes b a z)) (sym e) (record { all = more_done nodes kept a b s z h.all; front = tt })

pub keeps_opened : (nodes : List MNode) (kept all : List Action) (place : Option ℕ) (end : ℕ) (a : Action) (b : ℕ) (s z : ActingState) → all ≡ kept ++ a ∷ [] → end ≡ length kept → after_action nodes b a z ≡ after_effect open_buffer z → KeepsActions nodes kept place b s z → KeepsActions nodes all (Some end) b s (after_action nodes b a z)
keeps_opened nodes kept all place end a b s z e n opens h = subst (λ l. KeepsActions nodes l (Some end) b s (after_action nodes b a z)) (sym e) (subst (λ i. KeepsActions nodes (kept ++ a ∷ []) (Some i) b s (after_action nodes b a z)) (sym n) (record {
  all = more_done nodes kept a b s z h.all;
  front = (omega (arith, length-append kept (a ∷ [])), [], opens ∙ ap (after_effect open_buffer) (h.all ∙ ap (λ l. after_actions nodes b l s) (sym (take-append-le (length kept) kept (a ∷ []) (omega arith) ∙ take-length kept))));
}))

pub keeps_written : (nodes : List MNode) (kept all : List Action) (at : ℕ) (a : Action) (more : List ℕ) (b : ℕ) (s z : ActingState) → all ≡ kept ++ a ∷ [] → after_action nodes b a z ≡ with_bytes more z → KeepsActions nodes kept (Some at) b s z → KeepsActions nodes all (Some at) b s (after_action nodes b a z)
keeps_written nodes kept all at a more b s z e writes h = subst (λ l. KeepsActions nodes l (Some at) b s (after_action nodes b a z)) (sym e) (record {
  all = more_done nodes kept a b s z h.all;
  front = (omega (arith, h.front.0, length-append kept (a ∷ [])), h.front.1 ++ more, writes ∙ ap (with_bytes more) h.front.2 ∙ ap (λ l. with_buffers ((h.front.1 ++ more) ∷ []) (after_actions nodes b l s)) (sym (take-append-le at kept (a ∷ []) h.front.0)));
})
