use Rattle.std.proofs.Common.{ℕ, List, length, ◌-◌, ◌≡◌, ◌<◌, ◌≤◌, take}
use Rattle.kex_moves.specs.Runs.{HasEdgeRow, LeadsBack, AreEdgesWithin, CopiesAlong}
use Rattle.kex_moves.proofs.run.copy_alone.Given as goal

abbrev pub invariant-loop-count : goal.invariant-loop-count
invariant-loop-count l = record {
  some : 0 < l.count;
  within : l.count ≤ length l.piece;
  row : HasEdgeRow l.classes l.edges l.row;
  back : LeadsBack l.classes l.edges l.row;
  copied : take l.count l.to ≡ take l.count l.piece;
  ran : (text : List ℕ) → AreEdgesWithin (record { classes = l.classes; edges = l.edges; text = text }) → CopiesAlong (record { classes = l.classes; edges = l.edges; text = text }) l.piece l.next 1 l.row (l.count - 1);
}

abbrev pub decreases-loop-count : goal.decreases-loop-count
decreases-loop-count l = length l.piece - l.count
