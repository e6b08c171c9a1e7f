use Rattle.std.proofs.Common.{◌<◌, [], length, sym, refl, ◌∙◌, arith}
use Rattle.std.proofs.lemmas.List.{get_or_read, take_more_same, take_all}
use Rattle.kex_held.specs.Tracks.{HeldList}
use Rattle.kex_held_rows.proofs.same.are_same_texts.Goals as goal

pub loop-i-init : goal.loop-i-init
loop-i-init c = refl

pub loop-i-preserved : goal.loop-i-preserved
loop-i-preserved c =
    let d : HeldList = record { from = 0; to = 0; items = [] } in
    let i = c.loop-i.i in
    let within : i < length c.args.right.now = omega (arith, c.if-left-right.false, c.loop-i-test.true) in
    let left = sym (get_or_read c.args.left.now i c.index-left-i.result c.loop-i-test.true c.index-left-i.is d) in
    let right = get_or_read c.args.right.now i c.index-right-i.result within c.index-right-i.is d in
    take_more_same c.args.left.now c.args.right.now i d c.loop-i-test.true within c.loop-i.invariant (left ∙ c.is_same_text.ensures c.if-not-is_same_text.false ∙ right)

pub returns : goal.returns
returns c = λ yes.
    sym (take_all c.loop-i.i c.args.left.now c.loop-i-test.false) ∙ c.loop-i.invariant ∙ take_all c.loop-i.i c.args.right.now (omega (arith, c.if-left-right.false, c.loop-i-test.false))
