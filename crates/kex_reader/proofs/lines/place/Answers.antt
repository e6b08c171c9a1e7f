use Rattle.std.proofs.Common.{◌+◌, ◌<◌, length, suc, refl, sym, ap, ◌∙◌, arith, add-one}
use Rattle.std.specs.Prelude.{min}
use Rattle.kex_reader.specs.Lines.{behind_feed, feeds}
use Rattle.kex_reader.proofs.LineFeeds.{feeds_feed, feeds_other, behind_it, behind_other, taken}
use Rattle.kex_reader.proofs.lines.place.Goals.{then-text-i-eq10, else-text-i-eq10}
use Rattle.kex_reader.proofs.lines.place.Goals as goal

pub loop-i-init : goal.loop-i-init
unfolding feeds behind_feed
loop-i-init c = record { line = refl; column = refl; lines = omega (arith); columns = omega (arith) }

pub loop-i-preserved : goal.loop-i-preserved
loop-i-preserved c =
    let i = c.loop-i.invariant in
    let text = c.args.text.now in
    let k = c.loop-i.i in
    let inside : k < length text = omega (arith, c.loop-i-test.true, c.min-i-end.ensures) in
    elim c.if-text-i-eq10.branch [
      | then-text-i-eq10 w ↦ record {
        line = w.line-is ∙ add-one c.loop-i.line ∙ ap suc i.line ∙ sym (feeds_feed text k inside w.if-text-i-eq10.true);
        column = w.column-is ∙ sym (behind_it text k inside w.if-text-i-eq10.true);
        lines = omega (arith, w.line-is, i.lines);
        columns = omega (arith, w.column-is);
      }
      | else-text-i-eq10 w ↦ record {
        line = w.line-is ∙ i.line ∙ sym (feeds_other text k inside w.if-text-i-eq10.false);
        column = w.column-is ∙ add-one c.loop-i.column ∙ ap suc i.column ∙ sym (behind_other text k inside w.if-text-i-eq10.false);
        lines = omega (arith, w.line-is, i.lines);
        columns = omega (arith, w.column-is, i.columns);
      }
    ]

pub returns-clause-line : goal.returns-clause-line
returns-clause-line c =
    let e = taken c.args.text.now c.loop-i.i c.args.at (omega (arith, c.loop-i-test.false, c.loop-i.auto.i-end, c.min-i-end.ensures)) in
    c.capped.ensures ∙ ap (λ n. min (n + 1) 4294967295) (c.loop-i.invariant.line ∙ ap feeds e)

pub returns-clause-column : goal.returns-clause-column
returns-clause-column c =
    let e = taken c.args.text.now c.loop-i.i c.args.at (omega (arith, c.loop-i-test.false, c.loop-i.auto.i-end, c.min-i-end.ensures)) in
    c.capped-2.ensures ∙ ap (λ n. min (n + 1) 4294967295) (c.loop-i.invariant.column ∙ ap (behind_feed 0) e)
