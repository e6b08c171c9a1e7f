use Rattle.std.proofs.Common.{◌≡◌, ◌+◌, ◌<◌, Some, get_or, length, sym, ap, subst, ◌∙◌, arith}
use Rattle.std.specs.Prelude.{IfSome, slice_get}
use Rattle.kex_constants.specs.Copies.{IsCopy, originals}
use Rattle.kex_constants.proofs.CopiedLists.{FirstCopied, one_more_copy, original_of, there}
use Rattle.kex_constants.proofs.split.copy_states.Goals as goal

pub loop-copy-preserved : goal.loop-copy-preserved
loop-copy-preserved c =
    let copies = c.args.copies.now in
    let of = originals copies in
    let states = c.args.states.now in
    let i = c.loop-copy.copy-index in
    let copy = c.copy-item.result in
    let row = c.index-states-of.result in
    let state = c.in-Some.state in
    let less : copy.of < length states = omega (arith, c.if-of-states.false) in
    let at : get_or of i 0 ≡ copy.of = original_of copies i copy c.loop-copy-test.true ∙ ap (λ x. x.of) (sym c.copy-item.is) in
    let there_is : slice_get states copy.of ≡ Some row = there states copy.of row less ∙ ap Some (sym c.index-states-of.is) in
    let is : IsCopy of row state = subst (λ o. IfSome o (IsCopy of row)) c.in-Some.is (c.in_ok-state.ensures {u = tt}) in
    subst (λ z. FirstCopied of states z (i + 1)) (sym c.in_ok-push.ensures.items)
    (one_more_copy of states c.loop-copy.made.items i row state c.loop-copy.invariant (subst (λ n. slice_get states n ≡ Some row) (sym at) there_is) is)
