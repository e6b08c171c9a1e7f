use Rattle.std.proofs.Common.{◌≡◌, List, None, ap, sym, subst, ◌∙◌}
use Rattle.std.proofs.lemmas.Result.{IfOk-weaker}
use Rattle.std.specs.Prelude.{All, IfOk}
use Rattle.kex_plan.specs.Plans.{Teller, tellers}
use Rattle.kex_compile.specs.Stages.{asked_telling}
use Rattle.kex_ports.specs.Reads.{last_given}
use Rattle.kex_words.specs.Gains.{change}
use Rattle.kex_words.specs.Words.{mode_of}
use Rattle.kex_top.specs.Modes.{MachinesSay, limits_of}
use Rattle.kex_top.specs.Pipelines.{NodesSay, stage_plans}
use Rattle.kex_top.specs.Run.{Ran}
use Rattle.kex_top.specs.declared.status.Status.{Status}
use Rattle.kex_top.proofs.CallAnswers.{ran_by}
use Rattle.kex_top.proofs.PlannedStages.{plans-tabled}
use Rattle.kex_top.proofs.call.serve.serve.Goals as goal

pub run_plans-requires-clause-tables : goal.run_plans-requires-clause-tables
run_plans-requires-clause-tables g c = λ κs bounds.
    let asked = ap (λ m. (limits_of (mode_of m)).tables) c.in-Run.is in
    plans-tabled c.stages.result.now (subst (λ os. All (λ o. o ≡ None → ⊥) os) (sym c.stages.ensures.tables) (c.requires.tables asked))

pub returns-in-Run-clause-ran : goal.returns-in-Run-clause-ran
returns-in-Run-clause-ran g c =
    let mode = mode_of c.args.mode in
    let max = c.args.limits.max_input in
    let last = last_given c.args.limits.block (g.S.Source.reads c.run_plans.new.input) in
    let source = change (g.S.Source.rest c.args.input.now) (g.S.Source.rest c.run_plans.new.input) (g.S.Source.faults c.args.input.now) (g.S.Source.faults c.run_plans.new.input) in
    let sink = change (g.K.Sink.held c.args.output.now) (g.K.Sink.held c.run_plans.new.output) (g.K.Sink.faults c.args.output.now) (g.K.Sink.faults c.run_plans.new.output) in
    let By : List Teller → Status → Type 0 = λ ts s. Ran (NodesSay (stage_plans max ts)) last source sink s in
    let In : Status → Type 0 = λ s. Ran (MachinesSay mode max c.args.compiled.now.stages) last source sink s in
    let told = tellers (asked_telling (limits_of mode)) c.args.compiled.now.stages in
    IfOk-weaker c.run_plans.result (By told) In
    (λ s r. ran_by mode max c.args.compiled.now.stages last source sink s _ _ (ap mode_of c.in-Run.is) c.requires.some r)
    (subst (λ ts. IfOk c.run_plans.result (By ts)) (c.stages.ensures.tellers ∙ ap (λ k. tellers k c.args.compiled.now.stages) c.requires.told) c.run_plans.ensures.ran)
