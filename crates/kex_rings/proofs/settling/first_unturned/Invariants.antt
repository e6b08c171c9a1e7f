use Rattle.std.proofs.Common.{◌≡◌, ◌<◌, ℕ, true, get_or}
use Rattle.kex_pipe.specs.declared.seat.Seat.{Seat}
use Rattle.kex_rings.proofs.settling.first_unturned.Given as goal

abbrev pub invariant-loop-i : goal.invariant-loop-i
invariant-loop-i g l = (k : ℕ) → k < l.i → (d : Seat g.row.T.Denot g.T.Turn) → (get_or l.seats k d).staged.turned ≡ true
