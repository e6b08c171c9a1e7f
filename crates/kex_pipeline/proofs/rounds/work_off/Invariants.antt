use Rattle.std.proofs.Common.{◌≡◌, ℕ, List, false}
use Rattle.kex_model.specs.Schedules.{Event}
use Rattle.kex_pipe.specs.Standing.{Stands, stage_count, is_ended, is_in_round, is_spent}
use Rattle.kex_pipeline.proofs.StageRounds.{Rounding}
use Rattle.kex_pipeline.proofs.rounds.work_off.Given as goal

abbrev pub invariant-rounds : goal.invariant-rounds
invariant-rounds g l = record {
  rounds : (ps : List g.T.Turn.Plan) (h : List Event) (taken : List ℕ) → Stands g.T.Turn ps l.fn.pipe h taken → Rounding g.T.Turn l._round ps h taken l.pipe;
  same_count : stage_count g.T.Turn l.pipe ≡ stage_count g.T.Turn l.fn.pipe;
  ended : is_ended g.T.Turn l.pipe ≡ is_ended g.T.Turn l.fn.pipe;
  closed : is_in_round g.T.Turn l.pipe ≡ false;
  going : is_spent g.T.Turn l.pipe ≡ false;
}
