use Rattle.std.specs.Prelude.{All}
use Rattle.std.proofs.Common.{◌≡◌, ◌<◌, ◌∙◌, true, None, ap, length, refl, subst, sym, inl}
use Rattle.std.proofs.lemmas.Result.{err_from_is_err_and}
use Rattle.kex_compile.specs.Compiled.{IsCompiled, IsRefused}
use Rattle.kex_compile.specs.Stages.{Plans, asked_telling}
use Rattle.kex_compile.specs.declared.refusal.CompileRefusal.{CompileRefusal}
use Rattle.kex_compile.specs.declared.limits.Limits.{Limits}
use Rattle.kex_words.specs.Words.{room_of}
use Rattle.kex_words.specs.Words.Asked.{ToTry}
use Rattle.kex_ports.specs.Shelf.{present}
use Rattle.kex_top.specs.Modes.{limits_to_check}
use Rattle.kex_top.specs.Refusals.{IsStartOf}
use Rattle.kex_top.specs.Trials.{trial_text, usual_states}
use Rattle.kex_top.proofs.CallAnswers.{some-machine, tried, unbegun, unplanned}
use Rattle.kex_top.proofs.PlannedStages.{all-tabled}
use Rattle.kex_top.proofs.call.trial.answer_trial.Goals as goal

pub sum_up-requires-clause-some : goal.sum_up-requires-clause-some
sum_up-requires-clause-some g c = λ κs bounds. subst (λ (z : Plans). 0 < length z.stages) (sym c.in_ok-short.ensures) (some-machine c.limits_to_check-asked.result c.as_bytes.result.now c.in_ok-plans.plans c.in_ok-plans.ensures.plans)

pub sum_up-requires-clause-agreed : goal.sum_up-requires-clause-agreed
sum_up-requires-clause-agreed g c = λ κs bounds. ap (λ (z : Plans). z.telling) c.in_ok-short.ensures ∙ c.in_ok-plans.ensures.plans.plans_of.told ∙ ap asked_telling c.limits_to_check-asked.ensures

pub sum_up-requires-clause-tables : goal.sum_up-requires-clause-tables
sum_up-requires-clause-tables g c = λ κs bounds.
    let limits = c.limits_to_check-asked.result in
    let asked : limits.tables ≡ true = ap (λ (l : Limits). l.tables) c.limits_to_check-asked.ensures in
    subst (λ (z : Plans). All (λ o. o ≡ None → ⊥) z.tables) (sym c.in_ok-short.ensures) (all-tabled limits c.in_ok-plans.plans.stages c.in_ok-plans.plans.tables asked c.in_ok-plans.ensures.plans.plans_of.tables)

pub returns-in_err-plans-clause-answers : goal.returns-in_err-plans-clause-answers
returns-in_err-plans-clause-answers g c = λ texts reads source left.
    let e = c.in_err-plans.field-0.0 in
    let text : c.as_bytes.result.now ≡ trial_text = c.as_bytes.ensures.value in
    let p = err_from_is_err_and c.from_residual.result c.from_residual.ensures.1 in
    let x = c.in_err-plans.ensures.none in
    rw (p.1, p.2) (unbegun (ToTry c.args.lines.count c.args.lines.block (room_of c.args.lines.rings) c.args.lines.workers) texts reads source _ e
    (unplanned (limits_to_check usual_states) (present trial_text) trial_text e refl
    (subst (λ l. (rule : CompileRefusal) × IsRefused l trial_text rule × IsStartOf trial_text rule e) c.limits_to_check-asked.ensures (subst (λ t. (rule : CompileRefusal) × IsRefused c.limits_to_check-asked.result t rule × IsStartOf t rule e) text x)))
    (λ is. absurd (subst (λ w. IsStartOf c.as_bytes.result.now x.0 w) is x.2)) (left, (refl, refl)))

pub returns-in_err-short-clause-answers : goal.returns-in_err-short-clause-answers
returns-in_err-short-clause-answers g c = λ texts reads source left.
    let p = err_from_is_err_and c.from_residual-in_err-short.result c.from_residual-in_err-short.ensures.1 in
    rw (p.1, p.2) (inl (left, (refl, refl)))

pub returns-in_err-counts-clause-answers : goal.returns-in_err-counts-clause-answers
returns-in_err-counts-clause-answers g c = λ texts reads source left.
    let p = err_from_is_err_and c.from_residual-in_err-counts.result c.from_residual-in_err-counts.ensures.1 in
    rw (p.1, p.2) (inl (left, (refl, refl)))

pub returns-clause-answers : goal.returns-clause-answers
returns-clause-answers g c = λ texts reads source left.
    let text : c.as_bytes.result.now ≡ trial_text = c.as_bytes.ensures.value in
    tried c.args.lines.count c.args.lines.block (room_of c.args.lines.rings) c.args.lines.workers texts reads c.in_ok-short.short c.in_ok-counts.counts source _ _
    (subst (λ z. IsCompiled (limits_to_check usual_states) trial_text z) (sym c.in_ok-short.ensures) (subst (λ l. IsCompiled l trial_text c.in_ok-plans.plans) c.limits_to_check-asked.ensures (subst (λ t. IsCompiled c.limits_to_check-asked.result t c.in_ok-plans.plans) text c.in_ok-plans.ensures.plans)))
    c.in_ok-counts.ensures left c.tell_trial_counts.ensures.told
