use Rattle.std.proofs.Common.{sym, arith}
use Rattle.kex_held_rows.specs.Books.{rows_in}
use Rattle.kex_held_rows.proofs.RowBooks.{keeps_same}
use Rattle.kex_leaps.proofs.RowScans.{row_in, scan_begins, scan_kept, scan_over, keeps_more}
use Rattle.kex_leaps.proofs.last.go_to_end.Goals as goal

pub rounds-init : goal.rounds-init
rounds-init c = record {
  at = omega arith;
  keeps = keeps_same c.args.ledger.now;
  scanned = λ q n is. scan_begins c.args.ledger.now.table c.args.ledger.now.machine.nodes (rows_in c.args.ledger.now.rows) q n c.args.first c.args.text.now c.args.trace.now.marks.items c.args.trace.now.acts.items is c.requires.marks c.requires.acts;
}

pub row_at-requires : goal.row_at-requires
row_at-requires c =
    let b = c.args.ledger.now in
    let m = c.rounds.ledger in
    let r = c.requires.first in
    let k = c.rounds.invariant.keeps in
    let before = scan_over b.table m.table b.machine m.machine (rows_in m.rows) r.0 r.1 c.args.text.now c.rounds.point.at c.rounds.point.row c.rounds.trace.marks.items c.rounds.trace.acts.items (sym k.table) (sym k.machine) (c.rounds.invariant.scanned r.0 r.1 r.2) in
    let s = (c.in_ok-stop.ensures {u = tt}).scanned r.0 r.1 before in
    row_in m.rows c.in_ok-stop.stop.row s.to s.is

pub learn_at-requires-clause-row : goal.learn_at-requires-clause-row
learn_at-requires-clause-row c =
    let b = c.args.ledger.now in
    let m = c.rounds.ledger in
    let r = c.requires.first in
    let k = c.rounds.invariant.keeps in
    let before = scan_over b.table m.table b.machine m.machine (rows_in m.rows) r.0 r.1 c.args.text.now c.rounds.point.at c.rounds.point.row c.rounds.trace.marks.items c.rounds.trace.acts.items (sym k.table) (sym k.machine) (c.rounds.invariant.scanned r.0 r.1 r.2) in
    let s = (c.in_ok-stop.ensures {u = tt}).scanned r.0 r.1 before in
    row_in m.rows c.in_ok-stop.stop.row s.to s.is

pub rounds-preserved : goal.rounds-preserved
rounds-preserved c =
    let b = c.args.ledger.now in
    let m = c.rounds.ledger in
    let d = c.learn_at.new.ledger in
    let k = c.rounds.invariant.keeps in
    let k' = (c.in_ok-learn_at-in-Unknown.ensures {u = tt}) in
    let stop = c.in_ok-stop.stop in
    let text = c.args.text.now in
    let trace = c.scan_on.new.trace in
    record {
      at = (c.in_ok-stop.ensures {u = tt}).at;
      keeps = keeps_more b m d k k';
      scanned = λ q n is.
          let before = scan_over b.table m.table b.machine m.machine (rows_in m.rows) q n text c.rounds.point.at c.rounds.point.row c.rounds.trace.marks.items c.rounds.trace.acts.items (sym k.table) (sym k.machine) (c.rounds.invariant.scanned q n is) in
          let s = scan_over m.table b.table m.machine b.machine (rows_in m.rows) q n text stop.at stop.row trace.marks.items trace.acts.items k.table k.machine ((c.in_ok-stop.ensures {u = tt}).scanned q n before) in
          scan_kept b.table b.machine.nodes m d q n text stop.at stop.row trace.marks.items trace.acts.items k' s;
    }
