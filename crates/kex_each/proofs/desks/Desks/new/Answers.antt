use Rattle.std.proofs.Common.{◌++◌, ◌∷◌, [], sym, ap, ap₂, subst, ◌∙◌, arith}
use Rattle.kex_each.specs.Answers.{plans_within}
use Rattle.kex_each.specs.Desks.{DeskState, HavePlans, answers_of}
use Rattle.kex_each.proofs.DeskLists.{answers_both, plans_both}
use Rattle.kex_each.proofs.desks.Desks.new.Goals as goal

pub desks-preserved : goal.desks-preserved
desks-preserved c =
    let ps = plans_within c.args.max_input c.args.plans.now in
    let old = c.desks.desks.items in
    let d = c.in_ok-new.field-0 in
    let i = c.desks.invariant in
    let items = c.in_ok-push.ensures.items in
    let len = c.in_ok-push.ensures.len in
    record {
      plans = subst (λ z. HavePlans ps z) (sym items) (plans_both ps old (d ∷ []) i.plans (ap (λ (z : DeskState). z.plans) c.in_ok-new.ensures, tt));
      none = ap answers_of items ∙ answers_both old (d ∷ []) ∙ ap₂ (λ x y. x ++ y) i.none (ap (λ (z : DeskState). z.answers ++ []) c.in_ok-new.ensures);
      long = omega (arith, len, i.long);
    }
