use Rattle.std.proofs.Common.{◌≡◌, ◌+◌, ◌-◌, ◌*◌, get_or, refl, sym, subst, arith}
use Rattle.kex_tabfile.proofs.ReaderSteps.{IsNumberLeft, number_begun, number_more, number_above, number_not_cut}
use Rattle.kex_tabfile.proofs.reader.number_at.Goals as goal

pub loop-i-init : goal.loop-i-init
loop-i-init c = record {
  within = omega arith;
  number = λ n next more le e none. number_begun c.args.bytes.now c.args.from n next more (omega (arith, le, c.ranges.most.fits)) e;
}

pub returns-then-value-from-clause-number : goal.returns-then-value-from-clause-number
returns-then-value-from-clause-number c = λ n next more le e none.
    let here = c.loop-i.invariant.number n next more le e none in
    let later = number_more c.args.bytes.now c.loop-i.i c.loop-i.value n next more c.loop-i-test.true (c.if-not-is_digit.ensures.yes refl) none here in
    let above = number_above c.args.bytes.now (c.loop-i.i + 1) (10 * c.loop-i.value + (get_or c.args.bytes.now c.loop-i.i 0 - 48)) n next more later in
    absurd (omega (arith, above, le, c.if-value-from.true, c.from.ensures, c.from-in-loop-i.ensures))

pub loop-i-preserved : goal.loop-i-preserved
loop-i-preserved c = record {
  within = omega (arith, c.if-value-from.false, c.from-in-loop-i.ensures);
  number = λ n next more le e none.
      let here = c.loop-i.invariant.number n next more le e none in
      let is : c.from.result ≡ get_or c.args.bytes.now c.loop-i.i 0 - 48 = omega (arith, c.from.ensures) in
      subst (λ v. IsNumberLeft c.args.bytes.now (c.loop-i.i + 1) (10 * c.loop-i.value + v) n next more) (sym is) (number_more c.args.bytes.now c.loop-i.i c.loop-i.value n next more c.loop-i-test.true (c.if-not-is_digit.ensures.yes refl) none here);
}

pub returns-clause-number : goal.returns-clause-number
returns-clause-number c = λ n next more le e none. absurd (number_not_cut c.args.bytes.now c.loop-i.i c.loop-i.value n next more c.loop-i-test.false (c.loop-i.invariant.number n next more le e none))
