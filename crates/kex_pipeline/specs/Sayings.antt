-- What stages say together.
use Rattle.std.specs.Prelude.{ℕ, ◌<◌, Bool, List, [], ◌∷◌, Option, length}
use Rattle.kex_code.specs.Codes.{IsAmong}
use Rattle.kex_model.specs.Answers.{Answer, Pipeline}
use Rattle.kex_pipe.specs.Reports.{report_as}
use Rattle.kex_pipe.specs.declared.report.Rejected.{Rejected}

-- what a run says on bytes: a text, and the report of what stopped it, if anything did
pub record Said : Type 0 where
  pub text : List ℕ
  pub report : Option Rejected

-- the answer of a pipeline, by what each of its stages gives
abbrev pub PipelineSays : {T : Type 0} → (T → List ℕ → Bool → Answer → Type 0) → List T → List ℕ
    → Bool → Said → Type 0
PipelineSays Gives stages w e said = Pipeline Gives 1 stages w e said.text (report_as said.report)

-- the same, of one stage at least
abbrev pub StagesSay : {T : Type 0} → (T → List ℕ → Bool → Answer → Type 0) → List T → List ℕ → Bool
    → Said → Type 0
StagesSay Gives stages w e said = (0 < length stages) × PipelineSays Gives stages w e said

-- on each text, open or ended, there is something that is said
abbrev pub AlwaysSays : (List ℕ → Bool → Said → Type 0) → Type 0
AlwaysSays says = (w : List ℕ) (e : Bool) → (said : Said) × says w e said

-- on each text, open or ended, a stage with this plan has an answer
abbrev pub AlwaysAnswers : {T : Type 0} → (T → List ℕ → Bool → Answer → Type 0) → T → Type 0
AlwaysAnswers Gives p = (w : List ℕ) (e : Bool) → (a : Answer) × Gives p w e a

-- so has a stage with any of these plans
abbrev pub AllAnswer : {T : Type 0} → (T → List ℕ → Bool → Answer → Type 0) → List T → Type 0
AllAnswer {T = T} Gives ps = (p : T) → IsAmong ps p → AlwaysAnswers Gives p

-- the limit of the first stage
abbrev pub first_limit : {T : Type 0} → (T → ℕ) → List T → ℕ
first_limit limit [] = 0
first_limit limit (p ∷ ps) = limit p
