use Rattle.std.proofs.Common.{[], ◌∷◌, ◌++◌, sym, ap, ap₂, ◌∙◌}
use Rattle.kex_constants.specs.Clearing.{cleared_state}
use Rattle.kex_constants.proofs.Lists.{states_more}
use Rattle.kex_constants.proofs.rewrite.clear_states.Goals as goal

pub loop-number-preserved : goal.loop-number-preserved
loop-number-preserved c =
    c.in_ok-push.ensures.items
    ∙ ap₂ (λ y z. y ++ z ∷ []) c.loop-number.invariant (c.in_ok-clear_state.ensures ∙ ap (λ z. cleared_state c.args.constants.now z c.index-states-number.result) c.known.ensures)
    ∙ sym (states_more c.args.constants.now c.args.states.now c.loop-number.number c.index-states-number.result c.loop-number-test.true c.index-states-number.is)
