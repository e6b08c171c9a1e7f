use Rattle.std.proofs.Common.{◌≡◌, ℕ, length, None}
use Rattle.kex_pipe.specs.Rounds.{Each}
use Rattle.kex_rings.specs.Ends.{ArePaired}
use Rattle.kex_rings.specs.Looking.{OnlyLooked}
use Rattle.kex_rings.specs.Lines.{Joined}
use Rattle.kex_rings.proofs.Joins.{Split}
use Rattle.kex_rings.proofs.round.look_beside_all.Given as goal

abbrev pub invariant-loop-i : goal.invariant-loop-i
invariant-loop-i g l = record {
  looked : Each (OnlyLooked g.T.Turn) l.fn.seats l.seats;
  count : length l.seats ≡ length l.fn.seats;
  parts : (room : ℕ) → Joined g.T.Turn (ArePaired room) None l.fn.seats → Split g.T.Turn room l.i l.seats;
}
