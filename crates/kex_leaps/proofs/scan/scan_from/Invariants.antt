use Rattle.std.proofs.Common.{◌≡◌, ◌≤◌, ℕ, List, [], Some, length, take}
use Rattle.std.specs.Prelude.{slice_get}
use Rattle.kex_held.specs.HeldRows.{HeldRow}
use Rattle.kex_held_rows.specs.Books.{rows_in, bare_row, KeepsRows}
use Rattle.kex_leaps.specs.Leaps.{HasScanned}
use Rattle.kex_leaps.proofs.scan.scan_from.Given as goal

abbrev pub invariant-rounds : goal.invariant-rounds
invariant-rounds l = record {
  at : l.point.at ≤ length l.piece;
  keeps : KeepsRows l.fn.ledger l.ledger;
  scanned : (q n : ℕ) → slice_get (rows_in l.fn.ledger.rows) l.first ≡ Some (bare_row q n) → HasScanned l.fn.ledger.table l.fn.ledger.machine.nodes (rows_in l.ledger.rows) q n l.piece l.point.at l.point.row l.trace.marks.items l.trace.acts.items;
  last_at : l.last.at ≤ length l.piece;
  few : l.last.acts ≤ length l.trace.acts.items;
  came : (q n : ℕ) → slice_get (rows_in l.fn.ledger.rows) l.first ≡ Some (bare_row q n) → (marks : List ℕ) × HasScanned l.fn.ledger.table l.fn.ledger.machine.nodes (rows_in l.ledger.rows) q n l.piece l.last.at l.last.row marks (take l.last.acts l.trace.acts.items);
  bare : (r : HeldRow) → slice_get (rows_in l.ledger.rows) l.last.row ≡ Some r → r.lists ≡ [];
}

abbrev pub decreases-rounds : goal.decreases-rounds
decreases-rounds l = l.left
