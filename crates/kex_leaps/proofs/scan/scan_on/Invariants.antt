use Rattle.std.proofs.Common.{◌≡◌, ◌≤◌, ◌-◌, ◌++◌, ℕ, List, length}
use Rattle.kex_held_rows.specs.Books.{rows_in}
use Rattle.kex_leaps.specs.declared.act.LeapAct.{LeapAct}
use Rattle.kex_leaps.specs.Leaps.{HasScanned}
use Rattle.kex_leaps.proofs.scan.scan_on.Given as goal

abbrev pub invariant-bytes : goal.invariant-bytes
invariant-bytes l = record {
  at : l.at ≤ length l.piece;
  acts : (more : List LeapAct) × (l.trace.acts.items ≡ l.fn.trace.acts.items ++ more);
  scanned : (q n : ℕ) → HasScanned l.ledger.table l.ledger.machine.nodes (rows_in l.ledger.rows) q n l.piece l.fn.from.at l.fn.from.row l.fn.trace.marks.items l.fn.trace.acts.items → HasScanned l.ledger.table l.ledger.machine.nodes (rows_in l.ledger.rows) q n l.piece l.at l.row l.trace.marks.items l.trace.acts.items;
}

abbrev pub decreases-bytes : goal.decreases-bytes
decreases-bytes l = length l.piece - l.at
