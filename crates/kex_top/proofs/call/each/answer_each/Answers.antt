use Rattle.std.proofs.Common.{◌<◌, ◌∙◌, ap, length, subst, sym}
use Rattle.kex_ports.specs.Shelf.{told_of}
use Rattle.kex_compile.specs.Stages.{Plans, asked_telling}
use Rattle.kex_top.specs.Refusals.{HasPlans}
use Rattle.kex_top.proofs.CallAnswers.{some-machine}
use Rattle.kex_top.proofs.LineCommands.{line_served}
use Rattle.kex_top.proofs.call.each.answer_each.Goals as goal

pub answer_lines-requires-clause-some : goal.answer_lines-requires-clause-some
answer_lines-requires-clause-some g c = λ κs bounds.
    let h = c.in_ok-plans.ensures.plans in
    subst (λ (z : Plans). 0 < length z.stages) (sym c.in_ok-short.ensures) (some-machine c.limits_to_check-asked.result h.text c.in_ok-plans.plans h.compiled)

pub answer_lines-requires-clause-agreed : goal.answer_lines-requires-clause-agreed
answer_lines-requires-clause-agreed g c = λ κs bounds.
    ap (λ (z : Plans). z.telling) c.in_ok-short.ensures ∙ c.in_ok-plans.ensures.plans.compiled.plans_of.told ∙ ap asked_telling c.limits_to_check-asked.ensures

pub returns-clause-answers : goal.returns-clause-answers
returns-clause-answers g c =
    let told = told_of (g.H.Shelf.texts c.args.shelf.now) c.args.program.now in
    line_served c.args.program.now c.args.limits.states.most c.args.limits.max_input c.args.limits.workers _ _ c.in_ok-short.short _ _ c.in_ok-status.status
    (subst (λ l. HasPlans l told c.in_ok-short.short) c.limits_to_check-asked.ensures (subst (λ z. HasPlans c.limits_to_check-asked.result told z) (sym c.in_ok-short.ensures) c.in_ok-plans.ensures.plans)) c.in_ok-status.ensures.ran
