use Rattle.std.proofs.Common.{ℕ, IfSome, take, get_or, sym, subst}
use Rattle.kex_model.specs.Acting.{ActingState}
use Rattle.kex_action.specs.declared.action.Action.TheVariants.{Byte}
use Rattle.kex_action.specs.Actions.{after_action, after_actions}
use Rattle.kex_action.proofs.Actions.{done-more}
use Rattle.kex_moves.specs.Drafts.{IsDraft, Drafts}
use Rattle.kex_moves.proofs.settle.text_of.Goals as goal

pub loop-action-preserved : goal.loop-action-preserved
loop-action-preserved c =
    let ns = c.args.machine.now.nodes in
    let ds = c.args.actions.now in
    let i = c.loop-action.action-index in
    let old = c.loop-action.bytes.items in
    let new = c.add.new.bytes.items in
    let d = c.loop-action.draft in
    let did = subst (λ o. IfSome o (λ n. (b : ℕ) (s z : ActingState) → Drafts old d b s z → Drafts new n b s (after_action ns b (get_or ds i Byte) z))) c.in-Some.is (c.in_ok-new.ensures {u = tt}).drafts in
    record {
      draft = subst (λ o. IfSome o (IsDraft new)) c.in-Some.is (c.in_ok-new.ensures {u = tt}).draft;
      drafts = λ b s. subst (λ z. Drafts new c.in-Some.new b s z) (sym (done-more ns b ds i Byte s c.loop-action-test.true)) (did b s (after_actions ns b (take i ds) s) (c.loop-action.invariant.drafts b s));
    }
