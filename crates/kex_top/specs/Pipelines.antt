-- What the stages of a program say.
use Rattle.std.specs.Prelude.{◌≡◌, ◌≤◌, ◌∷◌, [], ℕ, Bool, List, length, map}
use Rattle.kex_model.specs.Programs.{Grammar}
use Rattle.kex_model.specs.Answers.{Means}
use Rattle.kex_model.specs.Laws.{StageAnswers}
use Rattle.kex_machine.specs.Nodes.{Graph}
use Rattle.kex_plan.specs.Plans.{Teller, tellers}
use Rattle.kex_stage.specs.Stages.{StagePlan, Gives}
use Rattle.kex_plan.specs.declared.plan.Telling.{Telling}
use Rattle.kex_plan.specs.declared.plan.Telling.TheVariants as telling
use Rattle.kex_compile.specs.Stages.{roots_of}
use Rattle.kex_pipeline.specs.Sayings.{Said, PipelineSays, StagesSay}

-- the plans of stages that work by these, each within the limit
abbrev pub stage_plans : ℕ → List Teller → List StagePlan
stage_plans limit stages = map (λ t. record { machine = t; limit = limit }) stages

-- those of machines whose stages tell this
abbrev pub told_plans : Telling → ℕ → List Graph → List StagePlan
told_plans k limit machines = stage_plans limit (tellers k machines)

-- those of machines whose stages tell what is agreed
abbrev pub agreed_plans : ℕ → List Graph → List StagePlan
agreed_plans limit machines = told_plans telling.Agreed limit machines

-- over the nodes of machines
abbrev pub NodesSay : List StagePlan → List ℕ → Bool → Said → Type 0
NodesSay plans w e said = StagesSay (λ p v d a. Gives p v d a) plans w e said

-- over the stages of a program, each within the limit
abbrev pub Answered : Grammar → ℕ → List ℕ → Bool → Said → Type 0
Answered P limit w e said =
    PipelineSays (λ root v d a. StageAnswers P root limit v d a) (roots_of P) w e said

-- the meanings of stages, one after the other: each stage's input is within the limit, and the next
-- stage reads what its greedy parse means
abbrev pub MeansInTurn : Grammar → ℕ → List ℕ → List ℕ → List ℕ → Type 0
MeansInTurn P limit [] input text = text ≡ input
MeansInTurn P limit (root ∷ roots) input text = (length input ≤ limit) × (mid : List ℕ)
    × Means P root input mid × MeansInTurn P limit roots mid text
