use Rattle.std.proofs.Common.{◌∙◌, ◌≤◌, length, take, drop, reverse, ap, refl, sym, subst, arith}
use Rattle.std.specs.Vec.{with_items}
use Rattle.std.proofs.lemmas.List.{with_items_is}
use Rattle.kex_action.specs.declared.sheet.Sheet.{Sheet}
use Rattle.kex_action.proofs.Sheets.{marks_more}
use Rattle.kex_moves.specs.Runs.{RunStop, stop_behind, run_of}
use Rattle.kex_moves.specs.Known.{rows_of}
use Rattle.kex_moves.proofs.SheetRuns.{reached_run, longer, stop_at}
use Rattle.kex_moves.proofs.along.along.Goals as goal

pub returns-clause-sheet : goal.returns-clause-sheet
returns-clause-sheet c =
    let old = c.args.sheet.now in
    let buffer = c.run-halt.new.buffer in
    let spot = c.run-halt.result in
    let stop = run_of (rows_of c.args.edges.now) c.args.row c.args.piece.now in
    let same = with_items_is old.bytes buffer (omega (arith, c.run-halt.auto.buffer, ap length c.deref_mut.ensures.value, old.bytes.ok.0)) in
    let ran = ap (λ (z : RunStop). z.written) c.run-halt.ensures.ran ∙ ap (λ b. (stop_behind (take old.used b) stop).written) c.deref_mut.ensures.value in
    let more = longer old.used spot.used old.bytes.items buffer stop.written c.requires.sheet.used c.run-halt.ensures.used ran in (
      record {
        used = subst (λ b. spot.used ≤ length b) (sym same) c.run-halt.ensures.used;
        marks = marks_more old.used spot.used (reverse old.marks.items) more c.requires.sheet.marks;
      },
      ap length same ∙ c.run-halt.auto.buffer ∙ ap length c.deref_mut.ensures.value,
    )

pub returns-clause-reached : goal.returns-clause-reached
returns-clause-reached c = λ t a out known.
    let old = c.args.sheet.now in
    let buffer = c.run-halt.new.buffer in
    let spot = c.run-halt.result in
    let new : Sheet = record { bytes = with_items old.bytes buffer; used = spot.used; marks = old.marks } in
    let stop = run_of (rows_of c.args.edges.now) c.args.row c.args.piece.now in
    let same = with_items_is old.bytes buffer (omega (arith, c.run-halt.auto.buffer, ap length c.deref_mut.ensures.value, old.bytes.ok.0)) in
    reached_run t c.args.edges.now a old new c.args.row spot.row spot.at c.args.piece.now out known (λ i. omega (arith, c.type_inv.piece i)) c.requires.sheet refl (ap (λ b. stop_at (take spot.used b) spot.row (drop spot.at c.args.piece.now)) same ∙ c.run-halt.ensures.ran ∙ ap (λ b. stop_behind (take old.used b) stop) c.deref_mut.ensures.value)
