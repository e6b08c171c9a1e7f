use Rattle.std.proofs.Common.{◌<◌, ℕ, List, arith, length, map, subst, ap, ◌∙◌}
use Rattle.std.proofs.lemmas.List.{length-map}
use Rattle.std.specs.Prelude.{IfOk}
use Rattle.kex_ports.specs.Reads.{last_given}
use Rattle.kex_words.specs.Gains.{change}
use Rattle.kex_plan.specs.Plans.{teller_of}
use Rattle.kex_stage.specs.Stages.{StagePlan}
use Rattle.kex_pipeline.specs.Sayings.{first_limit}
use Rattle.kex_top.specs.Pipelines.{NodesSay}
use Rattle.kex_top.specs.Run.{Ran}
use Rattle.kex_top.proofs.CallAnswers.{first-limit, pipe-limit}
use Rattle.kex_top.proofs.call.serve.run_stages.Goals as goal

pub run-requires-clause-limit : goal.run-requires-clause-limit
run-requires-clause-limit g c = λ κs bounds.
    let limit : StagePlan → ℕ = λ p. p.limit in
    let tellers = map teller_of c.args.plans.now in
    let long = length-map c.args.plans.now teller_of in
    let some : 0 < length tellers = omega (arith, long, c.requires) in
    pipe-limit limit c.in_ok-pipe.pipe ∙ ap (λ (ps : List StagePlan). first_limit limit ps) c.in_ok-pipe.ensures.plans ∙ first-limit c.args.limits.max_input tellers some

pub returns-clause-ran : goal.returns-clause-ran
returns-clause-ran g c =
    let P : List StagePlan → Type 0 = λ ps. IfOk c.run.result (λ status. Ran (NodesSay ps) (last_given c.args.limits.block (g.S.Source.reads c.run.new.input))
    (change (g.S.Source.rest c.args.input.now) (g.S.Source.rest c.run.new.input) (g.S.Source.faults c.args.input.now) (g.S.Source.faults c.run.new.input))
    (change (g.K.Sink.held c.args.output.now) (g.K.Sink.held c.run.new.output) (g.K.Sink.faults c.args.output.now) (g.K.Sink.faults c.run.new.output))
    status) in
    subst P c.in_ok-pipe.ensures.plans c.run.ensures.ran
