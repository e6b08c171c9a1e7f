use Rattle.std.proofs.Common.{◌≤◌, ◌<◌, ℕ, length, get_or}
use Rattle.kex_pipe.specs.declared.seat.Seat.{Seat}
use Rattle.kex_rings.specs.Looking.{IsEmpty}
use Rattle.kex_rings.proofs.settling.last_waiting.Given as goal

abbrev pub invariant-loop-i : goal.invariant-loop-i
invariant-loop-i g l = (k : ℕ) → l.i ≤ k → k < length l.seats → (d : Seat g.row.T.Denot g.T.Turn) → IsEmpty (get_or l.seats k d).inbox
