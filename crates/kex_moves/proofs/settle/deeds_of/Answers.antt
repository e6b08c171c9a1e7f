use Rattle.std.proofs.Common.{◌∙◌, ◌∷◌, [], take, sym, ap}
use Rattle.kex_action.specs.declared.action.Action.TheVariants.{Byte}
use Rattle.kex_action.specs.Actions.{after_actions}
use Rattle.kex_action.specs.Deeds.{after_deed, after_deeds}
use Rattle.kex_action.proofs.Actions.{done-more}
use Rattle.kex_action.proofs.Deeds.{deeds-append}
use Rattle.kex_moves.proofs.settle.deeds_of.Goals as goal

pub loop-action-preserved : goal.loop-action-preserved
loop-action-preserved c = λ b s.
    let nodes = c.args.machine.now.nodes in
    let xs = c.args.actions.now in
    let i = c.loop-action.action-index in
    ap (λ l. after_deeds nodes b l s) (c.in_ok-push.ensures {u = tt}).items
    ∙ deeds-append nodes b c.loop-action.deeds.items (c.deed_of.result ∷ []) s
    ∙ ap (after_deed nodes b c.deed_of.result) (c.loop-action.invariant b s)
    ∙ c.deed_of.ensures b (after_actions nodes b (take i xs) s)
    ∙ sym (done-more nodes b xs i Byte s c.loop-action-test.true)
