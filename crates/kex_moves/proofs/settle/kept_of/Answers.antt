use Rattle.std.proofs.Common.{take, sym, subst}
use Rattle.kex_action.specs.declared.action.Action.TheVariants.{Byte}
use Rattle.kex_action.specs.Actions.{after_actions}
use Rattle.kex_action.proofs.Actions.{done-more}
use Rattle.kex_moves.specs.Drafts.{KeepsActions}
use Rattle.kex_moves.proofs.settle.kept_of.Goals as goal

pub loop-action-preserved : goal.loop-action-preserved
loop-action-preserved c = λ b s.
    let nodes = c.args.machine.now.nodes in
    let xs = c.args.actions.now in
    let i = c.loop-action.action-index in
    subst (λ z. KeepsActions nodes c.keep.new.kept.items c.in_ok-place.place b s z) (sym (done-more nodes b xs i Byte s c.loop-action-test.true)) (c.in_ok-place.ensures {u = tt} b s (after_actions nodes b (take i xs) s) (c.loop-action.invariant b s))
