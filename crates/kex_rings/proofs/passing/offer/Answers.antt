use Rattle.std.proofs.Common.{length, sym, ◌∙◌, arith}
use Rattle.kex_rings.proofs.SentItems.{open-offer, ended-offer}
use Rattle.kex_rings.proofs.passing.offer.Goals as goal

pub returns-clause-items : goal.returns-clause-items
returns-clause-items c =
    let b = c.bytes in
    open-offer (length c.args.run.now) b.i c.args.inbox.now b.run c.front-bytes.result.now c.front-bytes.ensures b.invariant (omega (arith, c.bytes-test.false, b.auto.i-end)) (sym c.reaches_end.ensures ∙ c.if-reaches_end.false)

pub returns-then-reaches_end-clause-items : goal.returns-then-reaches_end-clause-items
returns-then-reaches_end-clause-items c =
    let b = c.bytes in
    ended-offer (length c.args.run.now) b.i c.args.inbox.now b.run c.front-bytes.result.now c.front-bytes.ensures b.invariant (omega (arith, c.bytes-test.false, b.auto.i-end)) (omega (arith, b.auto.run)) (sym c.reaches_end.ensures ∙ c.if-reaches_end.true)
