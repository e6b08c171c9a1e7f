use Rattle.std.proofs.Common.{◌<◌, None, length, sym, ◌∙◌, arith}
use Rattle.std.proofs.lemmas.List.{get_or_read, take_more_same, take_all}
use Rattle.kex_constants.proofs.shared.are_same.Goals as goal

pub loop-register-preserved : goal.loop-register-preserved
loop-register-preserved c =
    let i = c.loop-register.register in
    let within : i < length c.args.right.now = omega (arith, c.if-left-right.false, c.loop-register-test.true) in
    let left = sym (get_or_read c.args.left.now i c.index-left-register.result c.loop-register-test.true c.index-left-register.is None) in
    let right = get_or_read c.args.right.now i c.index-right-register.result within c.index-right-register.is None in
    take_more_same c.args.left.now c.args.right.now i None c.loop-register-test.true within c.loop-register.invariant (left ∙ c.is_same.ensures c.if-not-is_same.false ∙ right)

pub returns : goal.returns
returns c = λ yes.
    sym (take_all c.loop-register.register c.args.left.now c.loop-register-test.false) ∙ c.loop-register.invariant ∙ take_all c.loop-register.register c.args.right.now (omega (arith, c.if-left-right.false, c.loop-register-test.false))
