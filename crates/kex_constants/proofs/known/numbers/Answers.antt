use Rattle.std.proofs.Common.{◌≡◌, ◌+◌, suc, [], ◌∷◌, None, length, get_or, ap, ◌∙◌, arith, length-append}
use Rattle.std.proofs.lemmas.List.{get_or_read}
use Rattle.kex_constants.specs.Known.{kept_number, one_if_kept}
use Rattle.kex_constants.proofs.RegisterNumbers.{number_zero, number_next, one_most, numbers_more}
use Rattle.kex_constants.proofs.known.numbers.Goals as goal

pub loop-constant-init : goal.loop-constant-init
loop-constant-init c = record { next = number_zero c.args.constants.now; few = omega arith; long = ap length c.in_ok-numbers.ensures.items; each = λ i lt. absurd (omega arith) }

pub loop-constant-preserved : goal.loop-constant-preserved
loop-constant-preserved c =
    let one : c.count-next.result ≡ one_if_kept (get_or c.args.constants.now c.loop-constant.constant-index None) = c.count-next.ensures ∙ ap one_if_kept (get_or_read c.args.constants.now c.loop-constant.constant-index c.constant-item.result c.loop-constant-test.true c.constant-item.is None) in
    let next = number_next c.args.constants.now c.loop-constant.constant-index c.loop-constant-test.true in
    let most = one_most (get_or c.args.constants.now c.loop-constant.constant-index None) in
    let e : suc c.loop-constant.constant-index ≡ c.loop-constant.constant-index + 1 = omega arith in
    let before = c.loop-constant.invariant.next in record {
      next = let up : c.loop-constant.next + c.count-next.result ≡ kept_number c.args.constants.now (suc c.loop-constant.constant-index) = omega (arith, one, next, before) in up ∙ ap (λ z. kept_number c.args.constants.now z) e;
      few = omega (arith, one, most, c.loop-constant.invariant.few);
      long = ap length c.in_ok-push.ensures.items ∙ length-append c.loop-constant.numbers.items (c.loop-constant.next ∷ []) ∙ ap (λ z. z + 1) c.loop-constant.invariant.long;
      each = λ i lt. ap (λ z. get_or z i 0) c.in_ok-push.ensures.items ∙ numbers_more c.args.constants.now c.loop-constant.numbers.items c.loop-constant.next c.loop-constant.constant-index c.loop-constant.invariant.long before c.loop-constant.invariant.each i lt;
    }
