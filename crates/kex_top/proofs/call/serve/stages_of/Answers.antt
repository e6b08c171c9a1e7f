use Rattle.std.proofs.Common.{◌∷◌, [], ◌≤◌, List, length, map, sym, ap, subst, ◌∙◌, arith}
use Rattle.std.specs.Prelude.{None, All}
use Rattle.std.proofs.lemmas.List.{map-append, take_all}
use Rattle.kex_code.specs.Codes.{IsAmong}
use Rattle.kex_machine.specs.Nodes.{IsMachineInRange}
use Rattle.kex_plan.specs.Plans.{teller_of}
use Rattle.kex_stage.specs.Stages.{StagePlan}
use Rattle.kex_stage.specs.declared.stage.Stage.{Stage}
use Rattle.kex_stage.specs.contracts.stage.StageTurn.TheImpl.{ghosts}
use Rattle.kex_pipeline.specs.Sayings.{AlwaysAnswers}
use Rattle.kex_top.specs.Pipelines.{stage_plans}
use Rattle.kex_pipeline.specs.declared.plain.Plain.{Plain}
use Rattle.kex_top.proofs.AnswerExistence.{one-more, plan-answers}
use Rattle.kex_top.proofs.PlannedStages.{all-more, one-planned}
use Rattle.kex_top.proofs.call.serve.stages_of.Goals as goal

pub plans-preserved : goal.plans-preserved
plans-preserved c =
    let i = c.plans.plan-index in
    let max = c.args.max_input in
    let old : List (Plain Stage) = c.plans.stages.items in
    let stage : Plain Stage = c.in_ok-stage.stage in
    let same = c.machine.ensures.same in
    let range = subst (λ m. IsMachineInRange m.start m.nodes m.registers) same c.nodes-nodes.ensures.in_range in
    let more = c.in_ok-push.ensures.items in
    record {
      plans = one-planned (λ (s : Plain Stage). ghosts.plan s.stage) max i c.args.plans.now c.plan-item.result old c.push.new.self.items stage c.plans-test.true c.plan-item.is c.in_ok-stage.ensures.plan more c.plans.invariant.plans;
      unfed = subst (λ (z : List (Plain Stage)). All (λ (s : Plain Stage). ghosts.stands s.stage None) z) (sym more) (all-more (λ (s : Plain Stage). ghosts.stands s.stage None) old stage c.plans.invariant.unfed c.in_ok-stage.ensures.unfed);
      answers = subst (λ ps. (p : StagePlan) → IsAmong ps p → AlwaysAnswers ghosts.gives p) (sym (ap (λ (z : List (Plain Stage)). map (λ (s : Plain Stage). ghosts.plan s.stage) z) more ∙ map-append (λ (s : Plain Stage). ghosts.plan s.stage) old (stage ∷ [])))
          (one-more (λ p. AlwaysAnswers ghosts.gives p) (map (λ (s : Plain Stage). ghosts.plan s.stage) old) ((λ (s : Plain Stage). ghosts.plan s.stage) stage) c.plans.invariant.answers (subst (λ p. AlwaysAnswers ghosts.gives p) (sym c.in_ok-stage.ensures.plan) (plan-answers _ max range c.machine.ensures.trimmed c.table-table.ensures.of_machine)));
      long = omega (arith, c.in_ok-push.ensures.len, c.plans.invariant.long);
    }

pub returns-clause-plans : goal.returns-clause-plans
returns-clause-plans c =
    let all = c.args.plans.now in
    let past : length all ≤ c.plans.plan-index = c.plans-test.false in
    c.plans.invariant.plans ∙ ap (λ z. stage_plans c.args.max_input (map teller_of z)) (take_all c.plans.plan-index all past)
