use Rattle.std.proofs.Common.{◌≡◌, ◌∙◌, [], Some, length, arith, sym, ap, subst}
use Rattle.std.specs.Prelude.{IfSome, IsTrue, slice_get}
use Rattle.kex_held.specs.HeldRows.{HeldRow}
use Rattle.kex_held.specs.LearntEdges.{IsLearnt}
use Rattle.kex_held_rows.specs.NumberedEdges.{NumberedEdge}
use Rattle.kex_held_rows.specs.Books.{RowBook, rows_in, IsNoteOf}
use Rattle.kex_held_rows.proofs.RowBooks.{kept_at, none_left, right_note}
use Rattle.kex_held_rows.proofs.book.RowLedger.note_for.Goals as goal

one_value : {a b : HeldRow} → Some a ≡ Some b → a ≡ b
one_value f = cc

pub returns-clause-right : goal.returns-clause-right
returns-clause-right c = λ r e.
    let old = c.args.self.now in
    let t = old.table in
    let nodes = old.machine.nodes in
    let class = c.args.class in
    let row = c.row_at-from.result.now in
    let edge = c.in-Some.edge in
    let known = c.new-known.result in
    let rows = rows_in c.row_of.new.self.rows in
    let here : IsLearnt c.self.inside.table.now c.self.inside.machine.now.nodes row class edge = subst (λ o. IfSome o (IsLearnt c.self.inside.table.now c.self.inside.machine.now.nodes row class)) c.in-Some.is (c.in_ok-learnt.ensures {u = tt}).learnt in
    let learnt : IsLearnt t nodes row class edge = subst (λ (b : RowBook). IsLearnt b.table b.machine.nodes row class edge) c.self.view_is here in
    let same : row ≡ r = one_value (sym c.row_at-from.ensures.row ∙ e) in
    let outs : known.outs ≡ edge.outs = ap (λ (n : NumberedEdge). n.outs) c.new-known.ensures ∙ c.into_parts-row.ensures.outs in
    let keep : known.keep ≡ edge.keep = ap (λ (n : NumberedEdge). n.keep) c.new-known.ensures ∙ c.into_parts-row.ensures.keep in
    let at : slice_get rows c.in-Some-2.to ≡ Some c.into_parts-row.result.0 = subst (λ o. IfSome o (λ i. slice_get rows i ≡ Some c.into_parts-row.result.0)) c.in-Some-2.is (c.in_ok-to.ensures {u = tt}).at in
    let there : slice_get rows known.to ≡ Some edge.to = ap (slice_get rows) (ap (λ (n : NumberedEdge). n.to) c.new-known.ensures) ∙ at ∙ ap Some c.into_parts-row.ensures.row in
    let moved : IsLearnt t nodes r class edge = subst (λ q. IsLearnt t nodes q class edge) same learnt in
    let with_outs : IsLearnt t nodes r class (record { to = edge.to; outs = known.outs; keep = edge.keep }) = subst (λ o. IsLearnt t nodes r class (record { to = edge.to; outs = o; keep = edge.keep })) (sym outs) moved in
    let full : IsLearnt t nodes r class (record { to = edge.to; outs = known.outs; keep = known.keep }) = subst (λ k. IsLearnt t nodes r class (record { to = edge.to; outs = known.outs; keep = k })) (sym keep) with_outs in
    let bare : IsTrue known.bare → edge.to.lists ≡ [] = λ yes.
    let said : IsTrue c.is_empty-bare.result = subst IsTrue (ap (λ (n : NumberedEdge). n.bare) c.new-known.ensures) yes in
    let none : length c.texts.result.now ≡ 0 = grind (arith, said, c.is_empty-bare.ensures) in
    ap (λ (q : HeldRow). q.lists) (sym c.into_parts-row.ensures.row) ∙ sym c.texts.ensures ∙ none_left c.texts.result.now none in
    let kept : slice_get rows c.args.number ≡ Some r = kept_at old c.row_of.new.self c.args.number r (c.in_ok-to.ensures {u = tt}).keeps e in
    let marks = c.marks-marks.ensures ∙ ap (λ (q : HeldRow). q.marks) same in
    right_note t nodes rows r edge.to class c.args.number known c.note_of.result full kept there bare (subst (λ m. IsNoteOf c.args.number m known c.note_of.result) marks c.note_of.ensures)
