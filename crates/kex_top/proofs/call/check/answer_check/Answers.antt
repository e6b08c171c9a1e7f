use Rattle.std.proofs.Common.{subst}
use Rattle.kex_ports.specs.Shelf.{told_of}
use Rattle.kex_top.specs.Refusals.{HasPlans}
use Rattle.kex_top.proofs.CallAnswers.{checked}
use Rattle.kex_top.proofs.call.check.answer_check.Goals as goal

pub returns-clause-answers : goal.returns-clause-answers
returns-clause-answers g c = λ reads source left.
    let told = told_of (g.H.Shelf.texts c.args.shelf.now) c.args.program.now in
    checked c.args.program.now c.args.states.most _ reads c.in_ok-plans.plans source _ _
    (subst (λ l. HasPlans l told c.in_ok-plans.plans) c.limits_to_check-asked.ensures c.in_ok-plans.ensures.plans) left c.tell_counts.ensures.told
