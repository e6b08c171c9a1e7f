use Rattle.std.proofs.Common.{◌≡◌, ◌∙◌, ◌-◌, ◌<◌, ◌≤◌, true, false, length, get_or, take, drop, ap, arith, length-take, length-drop}
use Rattle.std.proofs.lemmas.Grind.{common_steps}
use Rattle.kex_moves.specs.declared.edge.EdgeKind.TheVariants.{Keep, Drop}
use Rattle.kex_moves.specs.Edges.{is_written}
use Rattle.kex_moves.specs.Runs.{Rows}
use Rattle.kex_moves.proofs.Runs.{edge_at, row_at, room_at, alone_at, copies_byte, no_step, one_step, stops, goes_on, copied_from, dropped_from, first_kind, stops_at, not_written}
use Rattle.kex_moves.proofs.run.run.Goals as goal

pub loop-at-preserved-then-is_text : goal.loop-at-preserved-then-is_text
loop-at-preserved-then-is_text c =
    let t : Rows = record { classes = c.args.classes.now; edges = c.args.edges.now; text = c.args.text.now } in
    let b = get_or c.args.piece.now c.loop-at.at 0 in
    let byte : b < length c.args.classes.now = omega (arith, c.told-classes, c.type_inv.piece c.loop-at.at) in
    let w : is_written (edge_at t c.loop-at.row b).kind ≡ true = ap is_written (c.is_text.ensures.0 c.if-is_text.true) in
    let e = edge_at t c.loop-at.row b in
    let row = row_at t c.loop-at.row b c.loop-at.invariant.row byte c.requires.rows w in
    let room = room_at t c.loop-at.row b c.loop-at.invariant.row byte c.requires.rows.room w in
    let step = goes_on t c.loop-at.row (take c.loop-at.used c.loop-at.buffer) _ c.args.piece.now c.loop-at.at _ c.loop-at-test.true (one_step t c.loop-at.row b c.loop-at.invariant.row byte w) c.put.ensures.written ∙ c.loop-at.invariant.ran in
    record {
      at = omega arith;
      row = row.0;
      back = row.1;
      room = grind (arith, common_steps);
      ran = step;
    }

pub copy_alone-copied-requires-clause-row : goal.copy_alone-copied-requires-clause-row
copy_alone-copied-requires-clause-row c =
    let t : Rows = record { classes = c.args.classes.now; edges = c.args.edges.now; text = c.args.text.now } in
    let b = get_or c.args.piece.now c.loop-at.at 0 in
    let byte : b < length c.args.classes.now = omega (arith, c.told-classes, c.type_inv.piece c.loop-at.at) in
    (row_at t c.loop-at.row b c.loop-at.invariant.row byte c.requires.rows (alone_at t c.loop-at.row b c.loop-at.invariant.row byte c.requires.rows c.if-e.true)).0

pub copy_alone-copied-requires-clause-back : goal.copy_alone-copied-requires-clause-back
copy_alone-copied-requires-clause-back c =
    let t : Rows = record { classes = c.args.classes.now; edges = c.args.edges.now; text = c.args.text.now } in
    let b = get_or c.args.piece.now c.loop-at.at 0 in
    let byte : b < length c.args.classes.now = omega (arith, c.told-classes, c.type_inv.piece c.loop-at.at) in
    (row_at t c.loop-at.row b c.loop-at.invariant.row byte c.requires.rows (alone_at t c.loop-at.row b c.loop-at.invariant.row byte c.requires.rows c.if-e.true)).1

pub loop-at-preserved-then-e : goal.loop-at-preserved-then-e
loop-at-preserved-then-e c =
    let t : Rows = record { classes = c.args.classes.now; edges = c.args.edges.now; text = c.args.text.now } in
    let at = c.loop-at.at in
    let used = c.loop-at.used in
    let piece = c.args.piece.now in
    let b = get_or piece at 0 in
    let byte : b < length c.args.classes.now = omega (arith, c.told-classes, c.type_inv.piece at) in
    let copied = c.copy_alone-copied.result in
    let room = c.loop-at.invariant.room in
    let within : copied.count ≤ length piece - at = omega (arith, c.copy_alone-copied.ensures.within, length-take (length piece - at) (drop at piece), length-drop at piece) in
    record {
      at = omega arith;
      row = c.copy_alone-copied.ensures.row;
      back = c.copy_alone-copied.ensures.back;
      room = omega arith;
      ran = copied_from t c.loop-at.row at used _ copied.count (edge_at t c.loop-at.row b).next copied.row c.loop-at.buffer c.copy_alone-copied.new.to piece (omega arith) (omega arith) c.copy_alone-copied.ensures.some c.loop-at-test.true (copies_byte t c.loop-at.row b c.loop-at.invariant.row byte c.requires.rows c.if-e.true) (c.copy_alone-copied.ensures.ran t.text c.requires.rows) c.copy_alone-copied.ensures.copied ∙ c.loop-at.invariant.ran;
    }

pub skip-at-requires-clause-first : goal.skip-at-requires-clause-first
skip-at-requires-clause-first c =
    let t : Rows = record { classes = c.args.classes.now; edges = c.args.edges.now; text = c.args.text.now } in
    let byte : get_or c.args.piece.now c.loop-at.at 0 < length c.args.classes.now = omega (arith, c.told-classes, c.type_inv.piece c.loop-at.at) in
    first_kind t c.loop-at.row c.loop-at.at Drop c.args.piece.now c.loop-at.invariant.row c.loop-at-test.true byte (c.is_drop.ensures.0 c.if-is_drop.true)

pub loop-at-preserved : goal.loop-at-preserved
loop-at-preserved c =
    let t : Rows = record { classes = c.args.classes.now; edges = c.args.edges.now; text = c.args.text.now } in
    let at = c.loop-at.at in
    let piece = c.args.piece.now in
    let count = c.skip-at.result in
    let room = c.loop-at.invariant.room in
    let within : count ≤ length piece - at = omega (arith, c.skip-at.ensures.within, length-take (length piece - at) (drop at piece), length-drop at piece) in
    record {
      at = omega arith;
      row = c.loop-at.invariant.row;
      back = c.loop-at.invariant.back;
      room = omega arith;
      ran = dropped_from t c.loop-at.row at count (take c.loop-at.used c.loop-at.buffer) piece c.loop-at.invariant.back c.requires.rows.room c.skip-at.ensures.dropped ∙ c.loop-at.invariant.ran;
    }

pub returns-else-is_drop-clause-edge : goal.returns-else-is_drop-clause-edge
returns-else-is_drop-clause-edge c =
    let t : Rows = record { classes = c.args.classes.now; edges = c.args.edges.now; text = c.args.text.now } in
    let byte : get_or c.args.piece.now c.loop-at.at 0 < length c.args.classes.now = omega (arith, c.told-classes, c.type_inv.piece c.loop-at.at) in
    stops_at t c.loop-at.row c.loop-at.at c.args.piece.now c.loop-at.invariant.row c.loop-at-test.true byte

pub returns-else-is_drop-clause-ran : goal.returns-else-is_drop-clause-ran
returns-else-is_drop-clause-ran c =
    let t : Rows = record { classes = c.args.classes.now; edges = c.args.edges.now; text = c.args.text.now } in
    let b = get_or c.args.piece.now c.loop-at.at 0 in
    let byte : b < length c.args.classes.now = omega (arith, c.told-classes, c.type_inv.piece c.loop-at.at) in
    let e = edge_at t c.loop-at.row b in
    let keeps = λ (q : e.kind ≡ Keep). (room_at t c.loop-at.row b c.loop-at.invariant.row byte c.requires.rows.room (ap is_written q)).keeps q in
    let none : is_written e.kind ≡ false = not_written e.kind c.is_text.result e.alone c.is_drop.result c.is_text.ensures.1 keeps c.is_drop.ensures.1 c.if-is_text.false c.if-e.false c.if-is_drop.false in
    stops t c.loop-at.row (take c.loop-at.used c.loop-at.buffer) c.args.piece.now c.loop-at.at c.loop-at-test.true (no_step t c.loop-at.row b c.loop-at.invariant.row byte none) ∙ c.loop-at.invariant.ran
