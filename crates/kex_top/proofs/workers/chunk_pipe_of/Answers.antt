use Rattle.std.proofs.Common.{◌<◌, ◌∙◌, List, length, map, sym, subst, arith}
use Rattle.std.proofs.lemmas.List.{length-map}
use Rattle.kex_plan.specs.Plans.{teller_of}
use Rattle.kex_stage.specs.Stages.{StagePlan}
use Rattle.kex_chunk_stage.specs.contracts.chunk_stage.ChunkStageTurn.TheImpl.{ghosts}
use Rattle.kex_pipeline.specs.Sayings.{AllAnswer, AlwaysSays, StagesSay}
use Rattle.kex_top.specs.Pipelines.{stage_plans}
use Rattle.kex_top.proofs.AnswerExistence.{always-says}
use Rattle.kex_top.proofs.PlannedStages.{plan_at}
use Rattle.kex_top.proofs.workers.chunk_pipe_of.Goals as goal

pub returns-clause-plans : goal.returns-clause-plans
returns-clause-plans c = c.in_ok-pipe.ensures.plans ∙ c.in_ok-stages.ensures.plans

pub returns-clause-says : goal.returns-clause-says
returns-clause-says c =
    let tellers = map teller_of c.args.plans.now in
    let ps : List StagePlan = stage_plans c.args.max_input tellers in
    let long = length-map tellers (plan_at c.args.max_input) in
    let many = length-map c.args.plans.now teller_of in
    let some : 0 < length ps = omega (arith, long, many, c.requires.some) in
    let answers : AllAnswer ghosts.gives ps = subst (λ zs. AllAnswer ghosts.gives zs) c.in_ok-stages.ensures.plans c.in_ok-stages.ensures.answers in
    subst (λ zs. AlwaysSays (λ w e said. StagesSay ghosts.gives zs w e said)) (sym (returns-clause-plans c)) (always-says ghosts.gives ps some answers)
