use Rattle.std.proofs.Common.{◌≡◌, ◌≤◌, ◌-◌, ℕ, List, false, length, take}
use Rattle.kex_model.specs.Schedules.{Event}
use Rattle.kex_pipe.specs.Standing.{Stands, is_ended, is_in_round, is_spent}
use Rattle.kex_pipeline.specs.Piped.{IsGiven}
use Rattle.kex_pipeline.proofs.turns.give_front.Given as goal

abbrev pub decreases-pieces : goal.decreases-pieces
decreases-pieces g l = length l.fn.bytes - l.given

abbrev pub invariant-pieces : goal.invariant-pieces
invariant-pieces g l = record {
  within : l.given ≤ length l.fn.bytes;
  given : (ps : List g.T.Turn.Plan) (h : List Event) (taken : List ℕ) → Stands g.T.Turn ps l.fn.pipe h taken → IsGiven (λ k. Stands g.T.Turn ps l.pipe k taken) (take l.given l.fn.bytes) h;
  unended : is_ended g.T.Turn l.pipe ≡ false;
  closed : is_in_round g.T.Turn l.pipe ≡ false;
  going : is_spent g.T.Turn l.pipe ≡ false;
}
