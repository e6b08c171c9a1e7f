use Rattle.std.proofs.Common.{◌≡◌, ◌<◌, ◌≤◌, true, false, List, length, sym, ◌∙◌, subst}
use Rattle.kex_machine.specs.Nodes.{Graph}
use Rattle.kex_model.specs.declared.program.Start.{Start}
use Rattle.kex_lowering.proofs.Causes.{if_err}
use Rattle.kex_compile.specs.Stages.{AllRun, AreStages, AreTabled, HaveInAll, IsUnplanned, KeepsToOneStage, roots_of}
use Rattle.kex_compile.proofs.FirstStages.{all-run}
use Rattle.kex_compile.proofs.StageTables.{keeps_to_pairs, none_more, states_of_stages, unplanned_by}
use Rattle.kex_compile.proofs.stages.plan_stages.Goals as goal
use Rattle.kex_compile.proofs.stages.plan_stages.Goals.{else-limits-via-then-limits+else-stages-gt1, else-limits-via-else-limits}

pub returns-in_err-lowered-clause-refused : goal.returns-in_err-lowered-clause-refused
returns-in_err-lowered-clause-refused c =
    if_err c.from_residual.result c.in_err-lowered.field-0.0 (λ x. IsUnplanned c.args.limits.now c.args.program.now x) c.from_residual.ensures.1 (c.in_err-lowered.ensures.refused c.args.limits.now)

pub returns-then-stages-gt1-clause-refused : goal.returns-then-stages-gt1-clause-refused
returns-then-stages-gt1-clause-refused c =
    let P = c.args.program.now in
    let all = c.in_ok-lowered.ensures.machines in
    (all-run P (roots_of P) c.in_ok-lowered.lowered.machines all.stages, c.if-limits.true, subst (λ (z : List Start). 1 < length z) c.stages.ensures c.if-stages-gt1.true)

pub returns-in_err-compiled-clause-refused : goal.returns-in_err-compiled-clause-refused
returns-in_err-compiled-clause-refused c =
    let P = c.args.program.now in
    let e = c.in_err-compiled.field-0.0 in
    let ms = c.in_ok-lowered.lowered.machines in
    let all = c.in_ok-lowered.ensures.machines in
    let run : AllRun P = all-run P (roots_of P) ms all.stages in
    let one : KeepsToOneStage c.args.limits.now P = λ on. elim c.else-limits.branch [
      | else-limits-via-then-limits+else-stages-gt1 w ↦ subst (λ (z : List Start). length z ≤ 1) w.stages.ensures w.if-stages-gt1.false
      | else-limits-via-else-limits w ↦ absurd (let f : true ≡ false = sym on ∙ w.if-limits.false in cc)
    ] in
    if_err c.from_residual-in_err-compiled.result e (λ x. IsUnplanned c.args.limits.now P x) c.from_residual-in_err-compiled.ensures.1
    (unplanned_by c.args.limits.now P ms e run one all.stages c.in_err-compiled.ensures.refused)

pub returns-clause-plans : goal.returns-clause-plans
returns-clause-plans c =
    let P = c.args.program.now in
    let all = c.in_ok-lowered.ensures.machines in
    let ok = c.in_ok-compiled.ensures in
    record {
      stages = subst (λ (z : List Graph). AreStages P (roots_of P) z) (sym ok.plans.machines) all.stages;
      places = subst (λ n. HaveInAll P (roots_of P) n) (sym ok.places) all.places;
      tables = subst (λ (z : List Graph). AreTabled c.args.limits.now z c.in_ok-compiled.compiled.tables) (sym ok.plans.machines) ok.plans.tables;
      told = ok.told;
      states = λ on. states_of_stages c.args.limits.now P c.in_ok-compiled.compiled.states (roots_of P) c.in_ok-lowered.lowered.machines all.stages (ok.plans.states on);
    }

pub returns-clause-states : goal.returns-clause-states
returns-clause-states c = λ on r i q.
    none_more c.args.limits.now c.args.program.now c.in_ok-compiled.compiled.states (roots_of c.args.program.now) c.in_ok-lowered.lowered.machines c.in_ok-lowered.ensures.machines.stages (c.in_ok-compiled.ensures.plans.states on) r i q

pub returns-clause-pairs : goal.returns-clause-pairs
returns-clause-pairs c = λ on r i q.
    keeps_to_pairs c.args.limits.now c.args.program.now (roots_of c.args.program.now) c.in_ok-lowered.lowered.machines c.in_ok-lowered.ensures.machines.stages c.in_ok-compiled.ensures.plans.pairs on r i q
