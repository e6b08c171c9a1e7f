use Rattle.std.proofs.Common.{◌≡◌, ℕ, List, [], false}
use Rattle.kex_model.specs.Schedules.{Event}
use Rattle.kex_rings.specs.Standing.{RingsStand, rings_ended, rings_spent}
use Rattle.kex_pipeline.proofs.RingRounds.{Given}
use Rattle.kex_pipeline.proofs.rings.work_off.Given as goal

abbrev pub invariant-rounds : goal.invariant-rounds
invariant-rounds g l = record {
  given : (ps : List g.T.Turn.Plan) (h : List Event) (taken : List ℕ) → RingsStand g.T.Turn ps l.fn.pipe h taken → Given g.T.Turn ps h taken l.pipe [];
  ended : rings_ended g.T.Turn l.pipe ≡ rings_ended g.T.Turn l.fn.pipe;
  going : rings_spent g.T.Turn l.pipe ≡ false;
}
