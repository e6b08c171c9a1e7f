use Rattle.std.proofs.Common.{◌++◌, ◌∷◌, [], List, sym, ap, ap₂, ◌∙◌, append_assoc}
use Rattle.kex_plan.specs.Plans.{Planned}
use Rattle.kex_tabfile.proofs.checked.Checked.shorten.Goals as goal

pub plans-preserved : goal.plans-preserved
plans-preserved c =
    let l = c.plans in
    let p = c.in-Some.plan in
    record {
      plans = l.invariant.plans ∙ ap (λ (z : List Planned). l.yielded ++ z) c.in-Some.ensures.steps.0 ∙ sym (append_assoc l.yielded (p ∷ []) c.next.new.self.rest.items);
      same = c.in_ok-push.ensures.items ∙ ap₂ (λ (x : List Planned) (y : Planned). x ++ y ∷ []) l.invariant.same c.in_ok-plan.ensures;
    }
