use Rattle.std.proofs.Common.{◌≡◌, ◌∙◌, ℕ, [], Some, refl, take, sym, subst, arith}
use Rattle.std.specs.Prelude.{slice_get}
use Rattle.std.proofs.lemmas.List.{take_all}
use Rattle.kex_held_rows.specs.Books.{rows_in, bare_row}
use Rattle.kex_held_rows.proofs.RowBooks.{keeps_same, kept_at}
use Rattle.kex_leaps.specs.Leaps.{HasScanned}
use Rattle.kex_leaps.proofs.RowScans.{row_in, bare_at, acts_front, acts_grow, scan_begins, scan_kept, scan_over, keeps_more}
use Rattle.kex_leaps.proofs.scan.scan_from.Goals as goal

pub rounds-init : goal.rounds-init
rounds-init c = record {
  at = omega arith;
  keeps = keeps_same c.args.ledger.now;
  scanned = λ q n is. scan_begins c.args.ledger.now.table c.args.ledger.now.machine.nodes (rows_in c.args.ledger.now.rows) q n c.args.first c.args.piece.now c.args.trace.now.marks.items c.args.trace.now.acts.items is c.requires.marks c.requires.acts;
  last_at = omega arith;
  few = omega arith;
  came = λ q n is. ([], scan_begins c.args.ledger.now.table c.args.ledger.now.machine.nodes (rows_in c.args.ledger.now.rows) q n c.args.first c.args.piece.now [] (take 0 c.args.trace.now.acts.items) is refl refl);
  bare = λ r here. bare_at (rows_in c.args.ledger.now.rows) c.args.first (bare_row c.requires.first.0 c.requires.first.1) r c.requires.first.2 here refl;
}

pub scan_on-requires-clause-table : goal.scan_on-requires-clause-table
scan_on-requires-clause-table c = c.requires.table ∙ sym c.rounds.invariant.keeps.table

pub scan_on-requires-clause-scanned : goal.scan_on-requires-clause-scanned
scan_on-requires-clause-scanned c =
    let b = c.args.ledger.now in
    let m = c.rounds.ledger in
    let r = c.requires.first in
    let k = c.rounds.invariant.keeps in
    (r.0, r.1, scan_over b.table m.table b.machine m.machine (rows_in m.rows) r.0 r.1 c.args.piece.now c.rounds.point.at c.rounds.point.row c.rounds.trace.marks.items c.rounds.trace.acts.items (sym k.table) (sym k.machine) (c.rounds.invariant.scanned r.0 r.1 r.2))

pub leads_on-requires-clause-row : goal.leads_on-requires-clause-row
leads_on-requires-clause-row c =
    let b = c.args.ledger.now in
    let m = c.rounds.ledger in
    let r = c.requires.first in
    let k = c.rounds.invariant.keeps in
    let before = scan_over b.table m.table b.machine m.machine (rows_in m.rows) r.0 r.1 c.args.piece.now c.rounds.point.at c.rounds.point.row c.rounds.trace.marks.items c.rounds.trace.acts.items (sym k.table) (sym k.machine) (c.rounds.invariant.scanned r.0 r.1 r.2) in
    let s = (c.in_ok-stop.ensures {u = tt}).scanned r.0 r.1 before in
    row_in m.rows c.in_ok-stop.stop.row s.to s.is

pub learn_at-requires-clause-table : goal.learn_at-requires-clause-table
learn_at-requires-clause-table c = c.requires.table ∙ sym c.rounds.invariant.keeps.table

pub row_at-requires : goal.row_at-requires
row_at-requires c =
    let b = c.args.ledger.now in
    let m = c.rounds.ledger in
    let r = c.requires.first in
    let k = c.rounds.invariant.keeps in
    let before = scan_over b.table m.table b.machine m.machine (rows_in m.rows) r.0 r.1 c.args.piece.now c.rounds.point.at c.rounds.point.row c.rounds.trace.marks.items c.rounds.trace.acts.items (sym k.table) (sym k.machine) (c.rounds.invariant.scanned r.0 r.1 r.2) in
    let s = (c.in_ok-stop.ensures {u = tt}).scanned r.0 r.1 before in
    row_in m.rows c.in_ok-stop.stop.row s.to s.is

pub learn_at-requires-clause-row : goal.learn_at-requires-clause-row
learn_at-requires-clause-row c =
    let b = c.args.ledger.now in
    let m = c.rounds.ledger in
    let r = c.requires.first in
    let k = c.rounds.invariant.keeps in
    let before = scan_over b.table m.table b.machine m.machine (rows_in m.rows) r.0 r.1 c.args.piece.now c.rounds.point.at c.rounds.point.row c.rounds.trace.marks.items c.rounds.trace.acts.items (sym k.table) (sym k.machine) (c.rounds.invariant.scanned r.0 r.1 r.2) in
    let s = (c.in_ok-stop.ensures {u = tt}).scanned r.0 r.1 before in
    row_in m.rows c.in_ok-stop.stop.row s.to s.is

pub rounds-preserved-in-Bare : goal.rounds-preserved-in-Bare
rounds-preserved-in-Bare c =
    let b = c.args.ledger.now in
    let m = c.rounds.ledger in
    let k = c.rounds.invariant.keeps in
    let stop = c.in_ok-stop.stop in
    let piece = c.args.piece.now in
    let trace = c.scan_on.new.trace in
    let here : (q n : ℕ) → slice_get (rows_in b.rows) c.args.first ≡ Some (bare_row q n) → HasScanned b.table b.machine.nodes (rows_in m.rows) q n piece stop.at stop.row trace.marks.items trace.acts.items = λ q n is.
    let before = scan_over b.table m.table b.machine m.machine (rows_in m.rows) q n piece c.rounds.point.at c.rounds.point.row c.rounds.trace.marks.items c.rounds.trace.acts.items (sym k.table) (sym k.machine) (c.rounds.invariant.scanned q n is) in
    scan_over m.table b.table m.machine b.machine (rows_in m.rows) q n piece stop.at stop.row trace.marks.items trace.acts.items k.table k.machine ((c.in_ok-stop.ensures {u = tt}).scanned q n before) in
    record {
      at = (c.in_ok-stop.ensures {u = tt}).at;
      keeps = k;
      scanned = here;
      last_at = (c.in_ok-stop.ensures {u = tt}).at;
      few = omega (arith, c.len-acts.ensures);
      came = λ q n is. (trace.marks.items, subst (λ l. HasScanned b.table b.machine.nodes (rows_in m.rows) q n piece stop.at stop.row trace.marks.items l) (sym (take_all c.len-acts.result trace.acts.items (omega (arith, c.len-acts.ensures)))) (here q n is));
      bare = (c.in_ok-stop.ensures {u = tt}).bare c.in-Bare.is;
    }

pub rounds-preserved : goal.rounds-preserved
rounds-preserved c =
    let b = c.args.ledger.now in
    let m = c.rounds.ledger in
    let d = c.learn_at.new.ledger in
    let k = c.rounds.invariant.keeps in
    let k' = (c.in_ok-learn_at-in-Unknown.ensures {u = tt}) in
    let stop = c.in_ok-stop.stop in
    let last = c.rounds.last in
    let piece = c.args.piece.now in
    let old = c.rounds.trace.acts.items in
    let trace = c.scan_on.new.trace in
    let more = (c.in_ok-stop.ensures {u = tt}).acts in
    record {
      at = (c.in_ok-stop.ensures {u = tt}).at;
      keeps = keeps_more b m d k k';
      scanned = λ q n is.
          let before = scan_over b.table m.table b.machine m.machine (rows_in m.rows) q n piece c.rounds.point.at c.rounds.point.row c.rounds.trace.marks.items old (sym k.table) (sym k.machine) (c.rounds.invariant.scanned q n is) in
          let s = scan_over m.table b.table m.machine b.machine (rows_in m.rows) q n piece stop.at stop.row trace.marks.items trace.acts.items k.table k.machine ((c.in_ok-stop.ensures {u = tt}).scanned q n before) in
          scan_kept b.table b.machine.nodes m d q n piece stop.at stop.row trace.marks.items trace.acts.items k' s;
      last_at = c.rounds.invariant.last_at;
      few = acts_grow old trace.acts.items last.acts c.rounds.invariant.few more;
      came = λ q n is.
          let p = c.rounds.invariant.came q n is in
          let s = scan_kept b.table b.machine.nodes m d q n piece last.at last.row p.0 (take last.acts old) k' p.1 in
          (p.0, subst (λ l. HasScanned b.table b.machine.nodes (rows_in d.rows) q n piece last.at last.row p.0 l) (sym (acts_front old trace.acts.items last.acts c.rounds.invariant.few more)) s);
      bare = λ r here.
          let f = c.requires.first in
          let s = (c.rounds.invariant.came f.0 f.1 f.2).1 in
          bare_at (rows_in d.rows) last.row s.to r (kept_at m d last.row s.to k' s.is) here (c.rounds.invariant.bare s.to s.is);
    }
