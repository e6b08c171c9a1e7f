use Rattle.std.proofs.Common.{◌≡◌, take, arith, subst}
use Rattle.kex_code.proofs.Prefixes.{two_agree}
use Rattle.kex_code.proofs.prefix.common.Goals as goal

pub returns-then-ne : goal.returns-then-ne
returns-then-ne c = two_agree c.args.a.now c.args.b.now c.loop-i.i (omega (arith, c.loop-i-test.true, c.min-most.ensures)) (omega (arith, c.loop-i-test.true, c.min-most.ensures)) c.loop-i.invariant (λ la lb same. absurd (grind (arith, c.ne.ensures, c.if-ne.true, same)))

pub returns : goal.returns
returns c = two_agree c.args.a.now c.args.b.now c.min-most.result (omega (arith, c.min-most.ensures)) (omega (arith, c.min-most.ensures)) (subst (λ z. take z c.args.a.now ≡ take z c.args.b.now) (omega (arith, c.loop-i-test.false, c.loop-i.auto.i-end)) c.loop-i.invariant) (λ la lb same. absurd (omega (arith, c.min-most.ensures)))
