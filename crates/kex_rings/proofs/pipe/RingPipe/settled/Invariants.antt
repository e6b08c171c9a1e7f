use Rattle.std.proofs.Common.{◌<◌, ℕ, get_or}
use Rattle.kex_rings.specs.declared.ring_seat.RingSeat.{RingSeat}
use Rattle.kex_rings.specs.Looking.{IsIdle}
use Rattle.kex_rings.proofs.pipe.RingPipe.settled.Given as goal

abbrev pub invariant-loop-seat : goal.invariant-loop-seat
invariant-loop-seat g l = (k : ℕ) → k < l.seat-index → (d : RingSeat g.row.T.Denot g.T.Turn) → IsIdle g.T.Turn (get_or l.self.seats.items k d)
