use Rattle.std.proofs.Common.{◌<◌, [], ◌∷◌, ◌++◌, length, get_or, ap, ap₂, sym, ◌∙◌, arith}
use Rattle.std.proofs.lemmas.List.{take_more, take_all}
use Rattle.kex_paths.proofs.EdgeLabels.{label_at, labels_long}
use Rattle.kex_paths.proofs.updates.update_of.Goals as goal

pub parts-requires : goal.parts-requires
parts-requires c = (get_or c.requires.1.0 c.loop-label.label-index [], label_at c.args.edges.now.cells c.args.labels.now c.requires.1.0 c.loop-label.label-index c.requires.1.1 c.loop-label-test.true)

pub parts-requires-2 : goal.parts-requires-2
parts-requires-2 c = c.requires.0

pub loop-label-preserved : goal.loop-label-preserved
loop-label-preserved c = λ xs h.
    let i = c.loop-label.label-index in
    let long = labels_long c.args.edges.now.cells c.args.labels.now xs h in
    let lt : i < length xs = omega (arith, c.loop-label-test.true, long) in
    let label = label_at c.args.edges.now.cells c.args.labels.now xs i h c.loop-label-test.true in
    c.in_ok-push.ensures.items ∙ ap₂ (λ u v. u ++ v ∷ []) (c.loop-label.invariant xs h) (c.in_ok-parts.ensures (get_or xs i []) label) ∙ sym (take_more xs i [] lt)

pub returns : goal.returns
returns c = λ x xs p q.
    let long = labels_long c.args.edges.now.cells c.args.labels.now xs q in
    (ap (λ z. z.out) c.new.ensures ∙ c.in_ok-out.ensures x p, ap (λ z. z.regs) c.new.ensures ∙ c.loop-label.invariant xs q ∙ take_all c.loop-label.label-index xs (omega (arith, c.loop-label-test.false, long)))
