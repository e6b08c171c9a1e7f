use Rattle.std.proofs.Common.{◌≤◌, length, ap, subst, ◌∙◌, arith}
use Rattle.kex_model.specs.Programs.{Grammar}
use Rattle.kex_rules.specs.Rules.{IsRuled}
use Rattle.kex_lowering.proofs.Causes.{if_err}
use Rattle.kex_compile.specs.Compiled.{IsRefused, of_plan, of_read, of_rule}
use Rattle.kex_compile.specs.Stages.{ArePlans, IsUnplanned, KeepsToOneStage, KeepsToPairs, KeepsToStates, roots_of}
use Rattle.kex_compile.proofs.FirstStages.{all-run}
use Rattle.kex_reader.specs.Checks.{most_stages}
use Rattle.kex_compile.proofs.FewStages.{few_stages}
use Rattle.kex_compile.proofs.StageRefusals.{unplanned, unread, unruled}
use Rattle.kex_compile.proofs.compile.Goals as goal

pub returns-in_err-program-clause-refused : goal.returns-in_err-program-clause-refused
returns-in_err-program-clause-refused c =
    let e = c.in_err-program.field-0.0 in
    if_err c.from_residual.result (of_read e) (λ x. IsRefused c.args.limits.now c.args.text.now x) c.from_residual.ensures.1 (unread c.args.limits.now c.args.text.now e c.in_err-program.ensures.refused)

pub returns-in_err-ruled-clause-refused : goal.returns-in_err-ruled-clause-refused
returns-in_err-ruled-clause-refused c =
    let e = c.in_err-ruled.field-0.0 in
    if_err c.from_residual-in_err-ruled.result (of_rule e) (λ x. IsRefused c.args.limits.now c.args.text.now x) c.from_residual-in_err-ruled.ensures.1 (unruled c.args.limits.now c.args.text.now c.in_ok-program.program e c.in_ok-program.ensures.read c.in_err-ruled.ensures.refused)

pub returns-in_err-compiled-clause-refused : goal.returns-in_err-compiled-clause-refused
returns-in_err-compiled-clause-refused c =
    let e = c.in_err-compiled.field-0.0 in
    let P = c.in_ok-program.program in
    let same = c.program-2.ensures.same ∙ c.in_ok-ruled.ensures.same in
    if_err c.from_residual-in_err-compiled.result (of_plan e) (λ x. IsRefused c.args.limits.now c.args.text.now x) c.from_residual-in_err-compiled.ensures.1
    (unplanned c.args.limits.now c.args.text.now P e c.in_ok-program.ensures.read (subst (λ z. IsRuled z) c.in_ok-ruled.ensures.same c.in_ok-ruled.ensures.ruled) (subst (λ z. IsUnplanned c.args.limits.now z e) same c.in_err-compiled.ensures.refused))

pub returns-clause-plans : goal.returns-clause-plans
returns-clause-plans c =
    let P = c.in_ok-program.program in
    let same = c.program-2.ensures.same ∙ c.in_ok-ruled.ensures.same in
    let plans : ArePlans c.args.limits.now P c.in_ok-compiled.compiled = subst (λ z. ArePlans c.args.limits.now z c.in_ok-compiled.compiled) same c.in_ok-compiled.ensures.plans in
    record {
      program = P;
      accepts = record {
        spells = c.in_ok-program.ensures.read;
        ruled = subst (λ z. IsRuled z) c.in_ok-ruled.ensures.same c.in_ok-ruled.ensures.ruled;
        stages = all-run P (roots_of P) c.in_ok-compiled.compiled.stages plans.stages;
        one_stage = subst (λ z. KeepsToOneStage c.args.limits.now z) same c.in_ok-compiled.ensures.one_stage;
        states = subst (λ z. KeepsToStates c.args.limits.now z) same c.in_ok-compiled.ensures.states;
        pairs = subst (λ z. KeepsToPairs c.args.limits.now z) same c.in_ok-compiled.ensures.pairs;
      };
      plans_of = plans;
    }

-- a program that a text spells has no more stages than may be named
pub plan_stages-requires-clause-few : goal.plan_stages-requires-clause-few
plan_stages-requires-clause-few c =
    let P = c.in_ok-program.program in
    let same = c.program-2.ensures.same ∙ c.in_ok-ruled.ensures.same in
    let few : length P.stages ≤ most_stages = few_stages c.args.text.now P c.in_ok-program.ensures.read in
    omega (arith, few, ap (λ (z : Grammar). length z.stages) same)
