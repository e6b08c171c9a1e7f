use Rattle.std.proofs.Common.{List, ◌≤◌, length, ap, subst, sym, ◌∙◌, arith}
use Rattle.kex_model.specs.Programs.{Grammar}
use Rattle.kex_machine.specs.Nodes.{Graph}
use Rattle.kex_rules.specs.Rules.{IsRuled}
use Rattle.kex_reader.specs.Checks.{most_stages}
use Rattle.kex_lowering.proofs.Causes.{if_err}
use Rattle.kex_compile.specs.Compiled.{IsRefused, of_plan, of_read, of_rule}
use Rattle.kex_compile.specs.Stages.{AreMachines, AreStages, IsUnplanned, roots_of}
use Rattle.kex_compile.specs.declared.limits.Limits.{Limits}
use Rattle.kex_compile.proofs.FewStages.{few_stages}
use Rattle.kex_compile.proofs.StageRefusals.{unplanned, unread, unruled}
use Rattle.kex_compile.proofs.machines.Goals as goal

pub returns-in_err-program-clause-refused : goal.returns-in_err-program-clause-refused
returns-in_err-program-clause-refused c =
    let e = c.in_err-program.field-0.0 in
    if_err c.from_residual.result (of_read e) (λ x. (limits : Limits) → IsRefused limits c.args.text.now x) c.from_residual.ensures.1 (λ limits. unread limits c.args.text.now e c.in_err-program.ensures.refused)

pub returns-in_err-ruled-clause-refused : goal.returns-in_err-ruled-clause-refused
returns-in_err-ruled-clause-refused c =
    let e = c.in_err-ruled.field-0.0 in
    if_err c.from_residual-in_err-ruled.result (of_rule e) (λ x. (limits : Limits) → IsRefused limits c.args.text.now x) c.from_residual-in_err-ruled.ensures.1 (λ limits. unruled limits c.args.text.now c.in_ok-program.program e c.in_ok-program.ensures.read c.in_err-ruled.ensures.refused)

pub returns-in_err-lowered-clause-refused : goal.returns-in_err-lowered-clause-refused
returns-in_err-lowered-clause-refused c =
    let e = c.in_err-lowered.field-0.0 in
    let P = c.in_ok-program.program in
    let same = c.program-2.ensures.same ∙ c.in_ok-ruled.ensures.same in
    if_err c.from_residual-in_err-lowered.result (of_plan e) (λ x. (limits : Limits) → IsRefused limits c.args.text.now x) c.from_residual-in_err-lowered.ensures.1
    (λ limits. unplanned limits c.args.text.now P e c.in_ok-program.ensures.read (subst (λ z. IsRuled z) c.in_ok-ruled.ensures.same c.in_ok-ruled.ensures.ruled) (subst (λ z. IsUnplanned limits z e) same (c.in_err-lowered.ensures.refused limits)))

pub returns-clause-machines : goal.returns-clause-machines
returns-clause-machines c =
    let P = c.in_ok-program.program in
    let same = c.program-2.ensures.same ∙ c.in_ok-ruled.ensures.same in
    let all : AreMachines P c.in_ok-lowered.lowered = subst (λ z. AreMachines z c.in_ok-lowered.lowered) same c.in_ok-lowered.ensures.machines in
    record {
      program = P;
      spells = c.in_ok-program.ensures.read;
      ruled = subst (λ z. IsRuled z) c.in_ok-ruled.ensures.same c.in_ok-ruled.ensures.ruled;
      stages = subst (λ (z : List Graph). AreStages P (roots_of P) z) (sym c.in_ok-machines.ensures.same) all.stages;
    }

pub lower_stages-requires : goal.lower_stages-requires
lower_stages-requires c =
    let P = c.in_ok-program.program in
    let same = c.program-2.ensures.same ∙ c.in_ok-ruled.ensures.same in
    let few : length P.stages ≤ most_stages = few_stages c.args.text.now P c.in_ok-program.ensures.read in
    omega (arith, few, ap (λ (z : Grammar). length z.stages) same)
