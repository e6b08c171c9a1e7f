use Rattle.std.proofs.Common.{ℕ, ◌+◌, ◌*◌, ap}
use Rattle.kex_tokens.proofs.LiteralValues.{number_more, number_above, number_whole}
use Rattle.kex_tokens.proofs.values.number_value.Goals as goal

pub loop-i-preserved : goal.loop-i-preserved
loop-i-preserved c = record {
  same = number_more c.args.digits.now c.loop-i.i c.loop-i.value _ c.loop-i-test.true (ap (λ (n : ℕ). 10 * c.loop-i.value + n) c.saturating_sub.ensures) c.loop-i.invariant.same;
  within = c.if-longer-most.false;
}

pub returns-then-longer-most : goal.returns-then-longer-most
returns-then-longer-most c = number_above c.args.digits.now c.loop-i.i c.loop-i.value _ c.args.most c.loop-i-test.true (ap (λ (n : ℕ). 10 * c.loop-i.value + n) c.saturating_sub.ensures) c.loop-i.invariant.same c.if-longer-most.true

pub returns : goal.returns
returns c = (number_whole c.args.digits.now c.loop-i.i c.loop-i.value c.loop-i-test.false c.loop-i.invariant.same, c.loop-i.invariant.within)
