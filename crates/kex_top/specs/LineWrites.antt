-- What is written of the answers to some lines.
use Rattle.std.specs.Prelude.{ℕ, List, [], Option, Result, Ok, Err}
use Rattle.std.specs.Io.KnownBytes.{Appends}
use Rattle.std.specs.List.{concat}
use Rattle.kex_each.specs.Answers.{PlansAnswerLines}
use Rattle.kex_ports.specs.Bytes.{AppendsFront}
use Rattle.kex_stage.specs.Stages.{StagePlan}
use Rattle.kex_pipeline.specs.declared.pass.Trouble.{Trouble}
use Rattle.kex_pipeline.specs.declared.pass.Trouble.TheVariants as trouble

-- their answers were written
pub record WritesTexts (ps : List StagePlan) (lines : List (List ℕ))
    (old new : Option (List ℕ)) : Type 0 where
  pub texts : List (List ℕ)
  pub answers : PlansAnswerLines ps lines texts
  pub appended : Appends old new (concat texts)

-- a front of their answers was written
pub record WritesTextsFront (ps : List StagePlan) (lines : List (List ℕ))
    (old new : Option (List ℕ)) : Type 0 where
  pub texts : List (List ℕ)
  pub answers : PlansAnswerLines ps lines texts
  pub appended : AppendsFront old new (concat texts)

-- all, or nothing where memory is wanted, or a front where the sink fails
abbrev pub PassesLines : {T : Type 0} → List StagePlan → List (List ℕ) → Option (List ℕ)
    → Option (List ℕ) → Result T Trouble → Type 0
PassesLines ps lines old new (Ok done) = WritesTexts ps lines old new
PassesLines ps lines old new (Err trouble.Memory) = Appends old new []
PassesLines ps lines old new (Err trouble.Write) = WritesTextsFront ps lines old new
