use Rattle.std.proofs.Common.{◌∙◌, ◌≤◌, length, take, reverse, ap, refl, sym, subst, arith}
use Rattle.std.specs.Vec.{with_items}
use Rattle.std.proofs.lemmas.List.{with_items_is}
use Rattle.kex_action.specs.declared.sheet.Sheet.{Sheet}
use Rattle.kex_action.proofs.Sheets.{marks_more}
use Rattle.kex_moves.specs.Runs.{RunStep}
use Rattle.kex_moves.specs.Trails.{IsTrail}
use Rattle.kex_moves.proofs.Trails.{trail_writes}
use Rattle.kex_moves.proofs.SheetRuns.{longer}
use Rattle.kex_moves.proofs.PieceRuns.{said_trail}
use Rattle.kex_moves.proofs.tell.along.Goals as goal

pub returns-clause-sheet : goal.returns-clause-sheet
returns-clause-sheet c =
    let k = c.args.edges.now in
    let old = c.args.sheet.now in
    let buffer = c.follow-spot.new.buffer in
    let spot = c.follow-spot.result in
    let from : RunStep = record { row = c.args.row; writes = take old.used c.deref_mut.result.now } in
    let to : RunStep = record { row = spot.row; writes = take spot.used buffer } in
    let same = with_items_is old.bytes buffer (omega (arith, c.follow-spot.auto.buffer, ap length c.deref_mut.ensures.value, old.bytes.ok.0)) in
    let wrote = trail_writes k.edges k.text k.width (take spot.at c.args.pieces.now) from to c.follow-spot.ensures.trail in
    let more = longer old.used spot.used c.deref_mut.result.now buffer wrote.0 (subst (λ b. old.used ≤ length b) (sym c.deref_mut.ensures.value) c.requires.sheet.used) c.follow-spot.ensures.used wrote.1 in (
      record {
        used = subst (λ b. spot.used ≤ length b) (sym same) c.follow-spot.ensures.used;
        marks = marks_more old.used spot.used (reverse old.marks.items) more c.requires.sheet.marks;
      },
      ap length same ∙ c.follow-spot.auto.buffer ∙ ap length c.deref_mut.ensures.value,
    )

pub returns-clause-said : goal.returns-clause-said
returns-clause-said c = λ words a out known.
    let k = c.args.edges.now in
    let old = c.args.sheet.now in
    let buffer = c.follow-spot.new.buffer in
    let spot = c.follow-spot.result in
    let ps = take spot.at c.args.pieces.now in
    let new : Sheet = record { bytes = with_items old.bytes buffer; used = spot.used; marks = old.marks } in
    let same = with_items_is old.bytes buffer (omega (arith, c.follow-spot.auto.buffer, ap length c.deref_mut.ensures.value, old.bytes.ok.0)) in
    let from : RunStep = record { row = c.args.row; writes = take old.used old.bytes.items } in
    let to : RunStep = record { row = spot.row; writes = take spot.used buffer } in
    let trail = subst (λ b. IsTrail k.edges k.text k.width ps (record { row = c.args.row; writes = take old.used b }) to) c.deref_mut.ensures.value c.follow-spot.ensures.trail in
    said_trail words k a old new c.args.row spot.row ps out known c.requires.sheet refl (subst (λ b. IsTrail k.edges k.text k.width ps from (record { row = spot.row; writes = take spot.used b })) (sym same) trail)
