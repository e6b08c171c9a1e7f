-- What a program answers to each line, as to an input of its own.
use Rattle.std.specs.Prelude.{◌≡◌, ◌++◌, ℕ, Bool, true, false, List, [], ◌∷◌, map}
use Rattle.std.specs.Prelude.{Option, Some, None}
use Rattle.kex_model.specs.Answers.{Answer, Report, Pipeline, Why, at_byte, at_end, at_limit}
use Rattle.kex_pipe.specs.Rounds.{Each}
use Rattle.kex_plan.specs.Plans.{Planned, teller_of}
use Rattle.kex_stage.specs.Stages.{StagePlan, Gives}
use Rattle.kex_words.specs.Lines.{rejected_line, too_long_line}

-- the line that tells of a report
abbrev pub told_of_stop : Why → ℕ → ℕ → List ℕ
told_of_stop at_byte stage at = rejected_line stage at false
told_of_stop at_end stage at = rejected_line stage at true
told_of_stop at_limit stage at = too_long_line stage at

-- the text that is said and a line feed; or the line of the report, and nothing of the text
abbrev pub answer_text : List ℕ → Option Report → List ℕ
answer_text said None = said ++ 10 ∷ []
answer_text said (Some r) = told_of_stop r.stop.why r.stage r.stop.at

module _ {T : Type 0} (Gives' : T → List ℕ → Bool → Answer → Type 0) (stages : List T) where
  -- the answer to a line, which is the stages' whole input
  pub record AnswersLine (line text : List ℕ) : Type 0 where
    pub said : List ℕ
    pub report : Option Report
    pub says : Pipeline Gives' 1 stages line true said report
    pub answer : text ≡ answer_text said report

  -- the answers to lines, in their order
  abbrev pub AnswersLines : List (List ℕ) → List (List ℕ) → Type 0
  AnswersLines lines texts = Each (λ line text. AnswersLine line text) lines texts

-- the stages of plans, each of which takes at most `limit` bytes
abbrev pub plans_within : ℕ → List Planned → List StagePlan
plans_within limit plans = map (λ t. record { machine = t; limit = limit }) (map teller_of plans)

-- what stages answer to lines
abbrev pub PlansAnswerLines : List StagePlan → List (List ℕ) → List (List ℕ) → Type 0
PlansAnswerLines ps lines texts = AnswersLines (λ p w e a. Gives p w e a) ps lines texts
