-- What desks have answered.
use Rattle.std.specs.Prelude.{◌≡◌, ◌-◌, ◌++◌, ℕ, Bool, true, List, [], ◌∷◌, map, take, drop}
use Rattle.kex_stage.specs.Stages.{StagePlan}
use Rattle.kex_each.specs.Answers.{PlansAnswerLines}

-- the plans of a desk's stages, and its answers
pub record DeskState : Type 0 where
  pub plans : List StagePlan
  pub answers : List (List ℕ)

-- the lines from one place up to another
abbrev pub lines_between : ℕ → ℕ → List (List ℕ) → List (List ℕ)
lines_between from to lines = take (to - from) (drop from lines)

-- the answers of desks, one after the other
abbrev pub answers_of : List DeskState → List (List ℕ)
answers_of [] = []
answers_of (d ∷ ds) = d.answers ++ answers_of ds

-- each desk has these plans
abbrev pub HavePlans : List StagePlan → List DeskState → Type 0
HavePlans ps [] = Unit {0}
HavePlans ps (d ∷ ds) = (d.plans ≡ ps) × HavePlans ps ds

abbrev pub first_plans : List DeskState → List StagePlan
first_plans [] = []
first_plans (d ∷ ds) = d.plans

abbrev pub all_plans : List DeskState → List (List StagePlan)
all_plans desks = map (λ d. d.plans) desks

-- desks whose answers went
abbrev pub without_answers : List DeskState → List DeskState
without_answers desks = map (λ (d : DeskState). record d { answers = [] }) desks

-- desks with the same plans have answered the lines, or one wanted memory
pub record AllWorked (done : Bool) (lines : List (List ℕ)) (old new : List DeskState) : Type 0 where
  pub same : all_plans new ≡ all_plans old
  pub answered : done ≡ true → (ps : List StagePlan) → HavePlans ps old
      → PlansAnswerLines ps lines (answers_of new)
