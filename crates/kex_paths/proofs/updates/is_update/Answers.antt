use Rattle.std.proofs.Common.{◌≡◌, ◌<◌, [], length, get_or, sym, ◌∙◌, arith}
use Rattle.std.proofs.lemmas.List.{get_or_read, take_more_same, take_all}
use Rattle.kex_paths.proofs.EdgeLabels.{label_at, labels_long}
use Rattle.kex_paths.proofs.updates.is_update.Goals as goal

pub has_parts-requires : goal.has_parts-requires
has_parts-requires c = c.requires.0

pub has_parts-requires-in-loop-register : goal.has_parts-requires-in-loop-register
has_parts-requires-in-loop-register c =
    let i = c.loop-register.register in
    let xs = c.requires.1.0 in
    (get_or xs i [], label_at c.args.edges.now.cells c.args.labels.now xs i c.requires.1.1 c.loop-register-test.true)

pub loop-register-preserved : goal.loop-register-preserved
loop-register-preserved c = λ xs h.
    let i = c.loop-register.register in
    let regs = c.regs-regs.result.now in
    let long = labels_long c.args.edges.now.cells c.args.labels.now xs h in
    let left : i < length regs = omega (arith, c.if-regs-labels.false, c.loop-register-test.true) in
    let right : i < length xs = omega (arith, long, c.loop-register-test.true) in
    let label = label_at c.args.edges.now.cells c.args.labels.now xs i h c.loop-register-test.true in
    let same = c.has_parts-in-loop-register.ensures c.if-not-has_parts-2.false (get_or xs i []) label in
    let here : get_or regs i [] ≡ get_or xs i [] = sym (get_or_read regs i c.index-regs-register.result left c.index-regs-register.is []) ∙ sym c.as_slice-in-loop-register.ensures ∙ same in
    take_more_same regs xs i [] left right (c.loop-register.invariant xs h) here

pub returns : goal.returns
returns c = λ yes x xs p q.
    let i = c.loop-register.register in
    let regs = c.regs-regs.result.now in
    let long = labels_long c.args.edges.now.cells c.args.labels.now xs q in (
      sym c.out.ensures ∙ sym c.as_slice.ensures ∙ c.has_parts.ensures c.if-not-has_parts.false x p,
      sym c.regs-regs.ensures ∙ sym (take_all i regs (omega (arith, c.if-regs-labels.false, c.loop-register-test.false))) ∙ c.loop-register.invariant xs q ∙ take_all i xs (omega (arith, long, c.loop-register-test.false)),
    )
