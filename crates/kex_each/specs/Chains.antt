-- The stages of a chain, and what one of them answers.
use Rattle.std.specs.Prelude.{◌≡◌, ℕ, Bool, List, Option, map}
use Rattle.kex_model.specs.Answers.{Answer}
use Rattle.kex_pipe.specs.Histories.{stop_as}
use Rattle.kex_pipe.specs.declared.turn.Stop.{Stop}
use Rattle.kex_stage.specs.Stages.{StagePlan, Gives}
use Rattle.kex_stage.specs.contracts.stage.StageTurn.TheImpl.{ghosts}
use Rattle.kex_stage.specs.declared.stage.Stage.{Stage}

-- the plans of stages
abbrev pub chain_plans : List Stage → List StagePlan
chain_plans stages = map ghosts.plan stages

-- the text and the stop are the answer of a stage with this plan on an input, open or (true) ended
pub record IsStageAnswer (p : StagePlan) (input : List ℕ) (ended : Bool) (text : List ℕ)
    (stop : Option Stop) : Type 0 where
  pub answer : Answer
  pub gives : Gives p input ended answer
  pub same_text : text ≡ answer.text
  pub same_stop : stop_as stop ≡ answer.stop
