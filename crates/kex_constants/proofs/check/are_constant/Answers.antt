use Rattle.std.proofs.Common.{◌≤◌, [], ap, subst, ◌∙◌, arith, length, get_or}
use Rattle.std.specs.Prelude.{slice_get}
use Rattle.kex_constants.specs.Clearing.{GivesConstants}
use Rattle.kex_constants.proofs.Certificates.{hold_always, all_states, StateGives}
use Rattle.kex_constants.proofs.check.are_constant.Goals as goal

pub returns : goal.returns
returns c = λ yes.
    hold_always c.args.table.now c.args.constants.now
    (subst (λ z. GivesConstants [] c.args.table.now.initial z) (c.constants.ensures ∙ c.known-first.ensures)
    (subst (λ z. GivesConstants [] z c.constants.result.now) c.initial.ensures.same (c.in_ok-gives.ensures c.if-not-branch.false)))
    (let past : length c.args.table.now.states ≤ c.loop-number.number = omega (arith, c.loop-number-test.false, ap length c.states-states.ensures.same) in
    all_states c.args.constants.now c.args.table.now.states c.loop-number.number past
    (λ i lt. subst (λ z. StateGives c.args.constants.now (get_or c.args.constants.now i []) (slice_get z i)) c.states-states.ensures.same (c.loop-number.invariant i lt)))
