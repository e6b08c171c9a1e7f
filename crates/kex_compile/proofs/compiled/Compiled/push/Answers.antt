use Rattle.std.proofs.Common.{◌≡◌, ◌+◌, ◌∷◌, [], List, length, sym, ap, subst, ◌∙◌, arith, length-append}
use Rattle.std.proofs.lemmas.List.{length-map}
use Rattle.kex_plan.specs.Plans.{AllTell, Planned, machine_of}
use Rattle.kex_plan.proofs.ToldPlans.{tell_more}
use Rattle.kex_compile.specs.Stages.{Plans, StandAtNumbers, stage_in}
use Rattle.kex_compile.proofs.ItemNumbers.{stand-own}
use Rattle.kex_compile.proofs.compiled.Compiled.push.Goals as goal

pub invariant_of-self-2 : goal.invariant_of-self-2
invariant_of-self-2 c =
    let old : List Planned = c.self.inside.stages.items in
    let items = c.in_ok-push.ensures.items in
    let told = c.requires.told ∙ sym (ap (λ (z : Plans). z.telling) c.self.view_is) in
    let long = length-map old machine_of in
    let view = ap (λ (z : Plans). length z.stages) c.self.view_is in
    let number : stage_in c.args.plan ≡ length old + 1 = omega (arith, c.requires.number, long, view) in (
      omega (arith, ap (λ (ps : List Planned). length ps) items, length-append old (c.args.plan ∷ []), long, view, c.requires.stages),
      subst (λ ps. AllTell c.self.inside.telling ps) (sym items) (tell_more c.self.inside.telling old c.args.plan c.self.invariant.1 told),
      subst (λ ps. StandAtNumbers stage_in ps) (sym items) (stand-own stage_in old c.args.plan number c.self.invariant.2),
    )
