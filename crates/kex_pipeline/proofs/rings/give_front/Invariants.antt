use Rattle.std.proofs.Common.{◌≡◌, ◌≤◌, ◌-◌, ℕ, List, false, length, take}
use Rattle.kex_model.specs.Schedules.{Event}
use Rattle.kex_rings.specs.Standing.{RingsStand, rings_ended, rings_spent}
use Rattle.kex_pipeline.proofs.RingRounds.{Given}
use Rattle.kex_pipeline.proofs.rings.give_front.Given as goal

abbrev pub decreases-pieces : goal.decreases-pieces
decreases-pieces g l = length l.fn.bytes - l.given

abbrev pub invariant-pieces : goal.invariant-pieces
invariant-pieces g l = record {
  within : l.given ≤ length l.fn.bytes;
  given : (ps : List g.T.Turn.Plan) (h : List Event) (taken : List ℕ) → RingsStand g.T.Turn ps l.fn.pipe h taken → Given g.T.Turn ps h taken l.pipe (take l.given l.fn.bytes);
  unended : rings_ended g.T.Turn l.pipe ≡ false;
  going : rings_spent g.T.Turn l.pipe ≡ false;
}
