use Rattle.std.proofs.Common.{ℕ, List, ◌-◌, ◌≤◌}
use Rattle.kex_moves.specs.Runs.{HasEdgeRow, LeadsBack, AreEdgesWithin, CopiesAlong}
use Rattle.kex_moves.proofs.run.copied_of_eight.Given as goal

abbrev pub invariant-loop-count : goal.invariant-loop-count
invariant-loop-count l = record {
  within : l.count ≤ 8;
  row : HasEdgeRow l.classes l.edges l.row;
  back : LeadsBack l.classes l.edges l.row;
  ran : (text : List ℕ) → AreEdgesWithin (record { classes = l.classes; edges = l.edges; text = text }) → CopiesAlong (record { classes = l.classes; edges = l.edges; text = text }) l.piece l.from l.at l.row l.count;
}

abbrev pub decreases-loop-count : goal.decreases-loop-count
decreases-loop-count l = 8 - l.count
