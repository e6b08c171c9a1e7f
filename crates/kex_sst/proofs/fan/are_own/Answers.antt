use Rattle.std.proofs.Common.{◌≡◌, ⊎_elim, get_or, sym, ap, ◌∙◌, arith}
use Rattle.std.proofs.lemmas.Bool.{cases_lt}
use Rattle.kex_sst.proofs.fan.are_own.Goals as goal

pub loop-class-preserved : goal.loop-class-preserved
loop-class-preserved c k few =
    ⊎_elim
    (λ less. c.loop-class.invariant k less)
    (λ le.
    let at : k ≡ c.loop-class.class = omega (arith, few, le) in
    ap (λ z. get_or c.args.numbers.now z 0) at ∙ sym c.from.ensures ∙ c.if-from-class.false ∙ sym at)
    (cases_lt k c.loop-class.class)

pub returns : goal.returns
returns c = λ t k lt. c.loop-class.invariant k (omega (arith, lt, c.loop-class-test.false))
