-- What holds of lines and of the answers to them.
use Rattle.std.specs.Prelude.{◌≡◌, ◌++◌, ℕ, Bool, false, List}
use Rattle.kex_stage.specs.Stages.{StagePlan}
use Rattle.kex_each.specs.Answers.{PlansAnswerLines}
use Rattle.kex_each.specs.Lines.{begun_behind, fronts_of, lines_behind, lines_of}
use Rattle.kex_each.specs.Pieces.{IsEnough}

-- the lines of a text are those of its pieces
pub record ByPieces (line v u : List ℕ) : Type 0 where
  pub lines : lines_behind line (v ++ u)
      ≡ lines_behind line v ++ lines_behind (begun_behind line v) u
  pub begun : begun_behind line (v ++ u) ≡ begun_behind (begun_behind line v) u

-- the whole lines of a front are the first lines
pub record BeginsLines (v u : List ℕ) (e : Bool) : Type 0 where
  pub more : List (List ℕ)
  pub front : lines_of (v ++ u) e ≡ lines_of v false ++ more

-- the answer to that much of a line is that to the line
abbrev pub IsKeptEnough : Type 0
IsKeptEnough = (keep : ℕ) (ps : List StagePlan) → IsEnough keep ps → (lines texts : List (List ℕ))
    → PlansAnswerLines ps (fronts_of keep lines) texts → PlansAnswerLines ps lines texts
