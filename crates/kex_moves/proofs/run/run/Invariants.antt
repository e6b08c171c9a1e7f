use Rattle.std.proofs.Common.{length, ◌-◌, ◌≡◌, ◌+◌, ◌*◌, ◌≤◌, take, drop}
use Rattle.kex_moves.specs.Runs.{HasEdgeRow, LeadsBack, stop_behind, run_of}
use Rattle.kex_moves.proofs.run.run.Given as goal

abbrev pub invariant-loop-at : goal.invariant-loop-at
invariant-loop-at l = record {
  at : l.at ≤ length l.piece;
  row : HasEdgeRow l.classes l.edges l.row;
  back : LeadsBack l.classes l.edges l.row;
  room : l.used + 17 * (length l.piece - l.at) + 17 ≤ length l.buffer;
  ran : stop_behind (take l.used l.buffer) (run_of (record { classes = l.classes; edges = l.edges; text = l.text }) l.row (drop l.at l.piece)) ≡ stop_behind (take l.fn.from.used l.fn.buffer) (run_of (record { classes = l.classes; edges = l.edges; text = l.text }) l.fn.from.row (drop l.fn.from.at l.piece));
}

abbrev pub decreases-loop-at : goal.decreases-loop-at
decreases-loop-at l = length l.piece - l.at
