use Rattle.std.proofs.Common.{◌≡◌, ℕ, List, length, ◌-◌, ◌+◌, ◌*◌, ◌≤◌, take}
use Rattle.kex_moves.specs.declared.edge.Edge.{Edge}
use Rattle.kex_moves.specs.Trails.{IsWrittenEdge, IsTrail}
use Rattle.kex_moves.proofs.follow.stay.Given as goal

abbrev pub invariant-loop-count : goal.invariant-loop-count
invariant-loop-count l = record {
  count : l.count ≤ length l.pieces;
  used : l.used ≡ l.fn.used + l.count * l.e.adds;
  room : l.used + 17 * (length l.pieces - l.count) + 17 ≤ length l.buffer;
  trail : (edges : List Edge) (width : ℕ) → IsWrittenEdge edges width l.e.next l.before l.e → IsTrail edges l.text width (take l.count l.pieces) (record { row = l.e.next; writes = take l.fn.used l.fn.buffer }) (record { row = l.e.next; writes = take l.used l.buffer });
}

abbrev pub decreases-loop-count : goal.decreases-loop-count
decreases-loop-count l = length l.pieces - l.count
