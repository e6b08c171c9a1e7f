use Rattle.std.proofs.Common.{length, ◌-◌, ◌+◌, ◌*◌, ◌≤◌, take}
use Rattle.kex_moves.specs.Trails.{IsTrail}
use Rattle.kex_moves.proofs.follow.follow.Given as goal

abbrev pub invariant-loop-at : goal.invariant-loop-at
invariant-loop-at l = record {
  at : l.at ≤ length l.pieces;
  row : l.row + l.width ≤ length l.edges;
  room : l.used + 17 * (length l.pieces - l.at) + 17 ≤ length l.buffer;
  trail : IsTrail l.edges l.text l.width (take l.at l.pieces) (record { row = l.fn.from.row; writes = take l.fn.from.used l.fn.buffer }) (record { row = l.row; writes = take l.used l.buffer });
}

abbrev pub decreases-loop-at : goal.decreases-loop-at
decreases-loop-at l = length l.pieces - l.at
