use Rattle.std.proofs.Common.{◌≡◌, take, map, vec_len}
use Rattle.std.specs.Prelude.{None, All}
use Rattle.kex_code.specs.Codes.{IsAmong}
use Rattle.kex_plan.specs.Plans.{teller_of}
use Rattle.kex_stage.specs.Stages.{StagePlan}
use Rattle.kex_stage.specs.declared.stage.Stage.{Stage}
use Rattle.kex_stage.specs.contracts.stage.StageTurn.TheImpl.{ghosts}
use Rattle.kex_pipeline.specs.Sayings.{AlwaysAnswers}
use Rattle.kex_top.specs.Pipelines.{stage_plans}
use Rattle.kex_pipeline.specs.declared.plain.Plain.{Plain}
use Rattle.kex_top.proofs.call.serve.stages_of.Given as goal

abbrev pub invariant-plans : goal.invariant-plans
invariant-plans l = record {
  plans : map (λ (s : Plain Stage). ghosts.plan s.stage) l.stages.items ≡ stage_plans l.max_input (map teller_of (take l.plan-index l.plans));
  unfed : All (λ (s : Plain Stage). ghosts.stands s.stage None) l.stages.items;
  answers : (p : StagePlan) → IsAmong (map (λ (s : Plain Stage). ghosts.plan s.stage) l.stages.items) p → AlwaysAnswers ghosts.gives p;
  long : vec_len l.stages ≡ l.plan-index;
}
