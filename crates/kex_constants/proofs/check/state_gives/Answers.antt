use Rattle.std.proofs.Common.{None, Option, get_or, sym, subst, arith}
use Rattle.kex_sst.specs.declared.table.Transition.{Transition}
use Rattle.kex_sst.proofs.Fans.{fan_each}
use Rattle.kex_constants.specs.Clearing.{GivesIf}
use Rattle.kex_constants.proofs.Lists.{each_read}
use Rattle.kex_constants.proofs.check.state_gives.Goals as goal

pub returns : goal.returns
returns c = λ yes.
    let gives : Option Transition → Type 0 = λ r. GivesIf c.args.constants.now c.args.from.now r in
    let parts = c.parts in
    each_read gives c.args.go.now tt
    (λ k lt. subst (λ z. gives (get_or z k None)) (sym parts.ensures.same)
    (fan_each gives parts.ensures.fan (λ j less. c.loop-transition.invariant j (omega (arith, less))) k lt))
