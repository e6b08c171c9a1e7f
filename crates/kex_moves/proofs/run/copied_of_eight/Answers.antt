use Rattle.std.proofs.Common.{ℕ, List, ◌+◌, ◌<◌, ◌≤◌, length, get_or, sym, subst, arith}
use Rattle.kex_moves.specs.Runs.{Rows, HasEdgeRow, LeadsBack, AreEdgesWithin, CopiesAlong}
use Rattle.kex_moves.proofs.Runs.{edge_at, row_at, alone_at, keeps_byte, copies_byte, copies_more}
use Rattle.kex_moves.proofs.run.copied_of_eight.Goals as goal
use Rattle.kex_moves.proofs.run.copied_of_eight.Goals.{then-not-is_keep+else-not-e, else-not-is_keep}

pub loop-count-preserved : goal.loop-count-preserved
loop-count-preserved c =
    let classes = c.args.classes.now in
    let edges = c.args.edges.now in
    let piece = c.args.piece.now in
    let row = c.loop-count.row in
    let count = c.loop-count.count in
    let here = c.args.at + count in
    let b = get_or piece here 0 in
    let stands = c.loop-count.invariant in
    let within : here < length piece = omega (arith, c.requires.eight, c.loop-count-test.true) in
    let byte : b < length classes = omega (arith, c.told-classes, c.type_inv.piece here) in
    let t : Rows = record { classes = classes; edges = edges; text = c.requires.rows.0 } in
    elim c.if-not-is_keep.branch [
      | then-not-is_keep+else-not-e w ↦
          let written = alone_at t row b stands.row byte c.requires.rows.1 w.if-not-e.false in
          let next = row_at t row b stands.row byte c.requires.rows.1 written in
          subst (λ r. record { within : c.loop-count.count + 1 ≤ 8; row : HasEdgeRow classes edges r; back : LeadsBack classes edges r; ran : (text : List ℕ) → AreEdgesWithin (record { classes = classes; edges = edges; text = text }) → CopiesAlong (record { classes = classes; edges = edges; text = text }) piece c.args.from c.args.at r (c.loop-count.count + 1) }) (sym w.row-is) (record {
            within = omega (arith, c.loop-count-test.true);
            row = next.0;
            back = next.1;
            ran = λ text rows.
                let t : Rows = record { classes = classes; edges = edges; text = text } in
                copies_more t piece c.args.from c.args.at row count (edge_at t row b).next within (copies_byte t row b stands.row byte rows w.if-not-e.false) (stands.ran text rows);
          })
      | else-not-is_keep w ↦
          subst (λ r. record { within : c.loop-count.count + 1 ≤ 8; row : HasEdgeRow classes edges r; back : LeadsBack classes edges r; ran : (text : List ℕ) → AreEdgesWithin (record { classes = classes; edges = edges; text = text }) → CopiesAlong (record { classes = classes; edges = edges; text = text }) piece c.args.from c.args.at r (c.loop-count.count + 1) }) (sym w.row-is) (record {
            within = omega (arith, c.loop-count-test.true);
            row = stands.row;
            back = stands.back;
            ran = λ text rows.
                let t : Rows = record { classes = classes; edges = edges; text = text } in
                copies_more t piece c.args.from c.args.at row count row within (keeps_byte t row b stands.row stands.back byte rows (c.is_keep.ensures.0 w.if-not-is_keep.false)) (stands.ran text rows);
          })
    ]
