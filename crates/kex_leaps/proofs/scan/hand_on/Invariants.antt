use Rattle.std.proofs.Common.{◌≤◌, ◌<◌, ◌-◌, ◌++◌, ◌∷◌, [], ℕ, List, length}
use Rattle.kex_held_rows.specs.Books.{rows_in}
use Rattle.kex_leaps.specs.declared.act.LeapAct.{LeapAct}
use Rattle.kex_leaps.specs.declared.act.LeapAct.TheVariants.{Text}
use Rattle.kex_leaps.specs.Leaps.{HasScanned}
use Rattle.kex_leaps.proofs.scan.hand_on.Given as goal

abbrev pub invariant-bytes : goal.invariant-bytes
invariant-bytes l = record {
  behind : l.from ≤ l.at;
  within : l.at ≤ length l.piece;
  hands : (q n : ℕ) (acts : List LeapAct) (first : ℕ) → first < l.from → HasScanned l.ledger.table l.ledger.machine.nodes (rows_in l.ledger.rows) q n l.piece l.from l.row ((l.from - 1) ∷ []) (acts ++ Text first (l.from - 1) ∷ []) → HasScanned l.ledger.table l.ledger.machine.nodes (rows_in l.ledger.rows) q n l.piece l.at l.row ((l.at - 1) ∷ []) (acts ++ Text first (l.at - 1) ∷ []);
}

abbrev pub decreases-bytes : goal.decreases-bytes
decreases-bytes l = length l.piece - l.at
