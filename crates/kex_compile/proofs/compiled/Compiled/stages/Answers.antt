use Rattle.std.proofs.Common.{◌≡◌, List, map, ap, subst, ◌∙◌}
use Rattle.kex_plan.specs.Plans.{Planned, teller_of, tellers}
use Rattle.kex_plan.proofs.ToldPlans.{tellers_of}
use Rattle.kex_compile.specs.Stages.{Plans}
use Rattle.kex_compile.proofs.compiled.Compiled.stages.Goals as goal

pub returns-clause-tellers : goal.returns-clause-tellers
returns-clause-tellers c =
    subst (λ (z : Plans). map teller_of c.deref.result.now ≡ tellers z.telling z.stages) c.self.view_is
    (ap (λ (ps : List Planned). map teller_of ps) c.deref.ensures.value ∙ tellers_of c.self.inside.telling c.self.inside.stages.items c.self.invariant.1)
