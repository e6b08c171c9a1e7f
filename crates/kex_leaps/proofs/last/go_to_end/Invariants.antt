use Rattle.std.proofs.Common.{◌≡◌, ◌≤◌, ℕ, Some, length}
use Rattle.std.specs.Prelude.{slice_get}
use Rattle.kex_held_rows.specs.Books.{rows_in, bare_row, KeepsRows}
use Rattle.kex_leaps.specs.Leaps.{HasScanned}
use Rattle.kex_leaps.proofs.last.go_to_end.Given as goal

abbrev pub invariant-rounds : goal.invariant-rounds
invariant-rounds l = record {
  at : l.point.at ≤ length l.text;
  keeps : KeepsRows l.fn.ledger l.ledger;
  scanned : (q n : ℕ) → slice_get (rows_in l.fn.ledger.rows) l.first ≡ Some (bare_row q n) → HasScanned l.fn.ledger.table l.fn.ledger.machine.nodes (rows_in l.ledger.rows) q n l.text l.point.at l.point.row l.trace.marks.items l.trace.acts.items;
}

abbrev pub decreases-rounds : goal.decreases-rounds
decreases-rounds l = l.left
