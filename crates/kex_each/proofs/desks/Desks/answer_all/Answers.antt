use Rattle.std.proofs.Common.{◌≡◌, true, refl, sym, ap, subst, ◌∙◌, arith}
use Rattle.std.specs.Prelude.{OnOk, Result, Ok, Err, is_ok}
use Rattle.std.proofs.lemmas.List.{with_items_is}
use Rattle.kex_each.specs.Answers.{PlansAnswerLines}
use Rattle.kex_each.specs.Desks.{DeskState, HavePlans, all_plans, answers_of, first_plans}
use Rattle.kex_each.proofs.DeskLists.{AreDesks, map_same, same_desks}
use Rattle.kex_each.proofs.desks.Desks.answer_all.Goals as goal

ok_on : {A E P : Type 0} (r : Result A E) → (is_ok r ≡ true → P) → OnOk r P
ok_on (Ok x) f = f refl
ok_on (Err e) f = tt

pub invariant_of-self : goal.invariant_of-self
invariant_of-self g c =
    let old = c.self.inside.desks in
    let new = c.answer_in_parts.new.desks in
    let items = with_items_is old new (omega (arith, c.answer_in_parts.auto.desks, c.deref_mut.ensures.len)) in
    let same : all_plans new ≡ all_plans old.items = ap all_plans (sym (map_same new)) ∙ c.answer_in_parts.ensures.same ∙ ap all_plans (map_same c.deref_mut.result.now ∙ c.deref_mut.ensures.value) in
    subst AreDesks (sym items) (same_desks old.items new c.self.invariant same)

pub returns-clause-answers : goal.returns-clause-answers
returns-clause-answers g c =
    let old = c.self.inside.desks in
    let new = c.answer_in_parts.new.desks in
    let lines = c.args.lines.now in
    let items = with_items_is old new (omega (arith, c.answer_in_parts.auto.desks, c.deref_mut.ensures.len)) in
    let ps = first_plans old.items in
    let own : ps ≡ c.args.self.now.plans = ap (λ (z : DeskState). z.plans) c.self.view_is in
    let have = subst (λ z. HavePlans ps z) (sym (map_same c.deref_mut.result.now ∙ c.deref_mut.ensures.value)) c.self.invariant.2 in
    let plans = c.args.self.now.plans in
    ok_on c.answer_in_parts.result (λ done.
    let all : PlansAnswerLines ps lines (answers_of new) = subst (λ z. PlansAnswerLines ps lines (answers_of z)) (map_same new) (c.answer_in_parts.ensures.answered done ps have) in
    subst (λ z. PlansAnswerLines plans lines (answers_of z)) (sym items) (subst (λ z. PlansAnswerLines z lines (answers_of new)) own all))
