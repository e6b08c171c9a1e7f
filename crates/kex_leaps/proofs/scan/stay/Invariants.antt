use Rattle.std.proofs.Common.{◌≤◌, ◌-◌, ℕ, List, length}
use Rattle.kex_held_rows.specs.Books.{rows_in}
use Rattle.kex_leaps.specs.declared.act.LeapAct.{LeapAct}
use Rattle.kex_leaps.specs.Leaps.{HasScanned}
use Rattle.kex_leaps.proofs.scan.stay.Given as goal

abbrev pub invariant-bytes : goal.invariant-bytes
invariant-bytes l = record {
  behind : l.from ≤ l.at;
  within : l.at ≤ length l.piece;
  stays : (q n : ℕ) (marks : List ℕ) (acts : List LeapAct) → HasScanned l.ledger.table l.ledger.machine.nodes (rows_in l.ledger.rows) q n l.piece l.from l.row marks acts → HasScanned l.ledger.table l.ledger.machine.nodes (rows_in l.ledger.rows) q n l.piece l.at l.row marks acts;
}

abbrev pub decreases-bytes : goal.decreases-bytes
decreases-bytes l = length l.piece - l.at
