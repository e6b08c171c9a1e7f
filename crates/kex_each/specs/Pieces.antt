-- A text whose lines are answered piece by piece.
use Rattle.std.specs.Prelude.{◌≡◌, ◌+◌, ◌++◌, ℕ, List, [], ◌∷◌}
use Rattle.std.specs.List.{concat}
use Rattle.kex_stage.specs.Stages.{StagePlan}
use Rattle.kex_each.specs.Answers.{PlansAnswerLines}
use Rattle.kex_each.specs.Lines.{BegunLine}

-- the plans by which lines are answered, and the unfinished line
pub record LineReader : Type 0 where
  pub plans : List StagePlan
  pub begun : BegunLine

-- this many bytes of a line are all that its answer rests on: as many as the first stage takes, and
-- one more
abbrev pub IsEnough : ℕ → List StagePlan → Type 0
IsEnough keep [] = ⊥
IsEnough keep (p ∷ ps) = keep ≡ p.limit + 1

-- the answers to these lines were added to a text
pub record WritesAnswers (ps : List StagePlan) (lines : List (List ℕ))
    (before after : List ℕ) : Type 0 where
  pub texts : List (List ℕ)
  pub answers : PlansAnswerLines ps lines texts
  pub written : after ≡ before ++ concat texts
