use Rattle.std.proofs.Common.{◌∙◌, ◌≡◌, ◌<◌, true, None, ap, length, subst, sym}
use Rattle.std.specs.Prelude.{All}
use Rattle.kex_ports.specs.Shelf.{told_of}
use Rattle.kex_compile.specs.Stages.{Plans, asked_telling}
use Rattle.kex_compile.specs.declared.limits.Limits.{Limits}
use Rattle.kex_words.specs.Words.{mode_of, reach_of}
use Rattle.kex_top.specs.Refusals.{HasPlans}
use Rattle.kex_top.proofs.CallAnswers.{one-machine, served, some-machine}
use Rattle.kex_top.proofs.PlannedStages.{all-tabled}
use Rattle.kex_top.proofs.call.serve.answer_stream.Goals as goal

pub serve-requires-clause-some : goal.serve-requires-clause-some
serve-requires-clause-some g c = λ κs bounds.
    let h = c.in_ok-plans.ensures.plans in
    subst (λ (z : Plans). 0 < length z.stages) (sym c.in_ok-short.ensures) (some-machine c.limits_of-asked.result h.text c.in_ok-plans.plans h.compiled)

pub serve-requires-clause-one : goal.serve-requires-clause-one
serve-requires-clause-one g c = λ κs bounds one.
    let h = c.in_ok-plans.ensures.plans in
    subst (λ (z : Plans). length z.stages ≡ 1) (sym c.in_ok-short.ensures) (one-machine c.limits_of-asked.result h.text c.in_ok-plans.plans h.compiled (ap (λ (l : Limits). l.one_stage) c.limits_of-asked.ensures.value ∙ one))

pub serve-requires-clause-told : goal.serve-requires-clause-told
serve-requires-clause-told g c = λ κs bounds.
    ap (λ (z : Plans). z.telling) c.in_ok-short.ensures ∙ c.in_ok-plans.ensures.plans.compiled.plans_of.told ∙ ap asked_telling c.limits_of-asked.ensures.value

pub serve-requires-clause-tables : goal.serve-requires-clause-tables
serve-requires-clause-tables g c = λ κs bounds asked.
    let h = c.in_ok-plans.ensures.plans in
    let limits = c.limits_of-asked.result in
    let same : limits.tables ≡ true = ap (λ (l : Limits). l.tables) c.limits_of-asked.ensures.value ∙ asked in
    subst (λ (z : Plans). All (λ o. o ≡ None → ⊥) z.tables) (sym c.in_ok-short.ensures) (all-tabled limits c.in_ok-plans.plans.stages c.in_ok-plans.plans.tables same h.compiled.plans_of.tables)

pub returns-clause-answers : goal.returns-clause-answers
returns-clause-answers g c =
    let told = told_of (g.H.Shelf.texts c.args.shelf.now) c.args.stream.program.now in
    served (mode_of c.args.stream.mode) c.args.stream.program.now (reach_of c.args.stream.limits) _ _ c.in_ok-short.short _ _ c.in_ok-status.status
    (subst (λ l. HasPlans l told c.in_ok-short.short) c.limits_of-asked.ensures.value (subst (λ z. HasPlans c.limits_of-asked.result told z) (sym c.in_ok-short.ensures) c.in_ok-plans.ensures.plans)) c.in_ok-status.ensures.ran
