use Rattle.std.proofs.Common.{◌≡◌, ◌++◌, ◌∷◌, [], List, map, arith, ap, subst, sym, ◌∙◌}
use Rattle.std.specs.Prelude.{IfOk}
use Rattle.kex_ports.specs.Reads.{last_given}
use Rattle.kex_words.specs.Gains.{change}
use Rattle.kex_pipeline.specs.Piped.{plans_of}
use Rattle.kex_pipeline.specs.Sayings.{AlwaysAnswers, AlwaysSays, StagesSay}
use Rattle.kex_top.proofs.AnswerExistence.{always-says, one-more}
use Rattle.kex_top.specs.Run.{Ran}
use Rattle.kex_top.proofs.single.run_one.Goals as goal

pub run-requires-clause-says : goal.run-requires-clause-says
run-requires-clause-says g c = λ κs within by_parts.
    let t = g.T.Turn in
    let plan = t.plan c.args.stage in
    let one = c.in_ok-push.ensures.items ∙ ap (λ z. z ++ c.args.stage ∷ []) c.new-stages.ensures.items in
    let same : plans_of t c.in_ok-pipe.pipe ≡ plan ∷ [] = c.in_ok-pipe.ensures.plans ∙ ap (λ z. map t.plan z) one in
    subst (λ ps. AlwaysSays (StagesSay t.gives ps)) (sym same) (always-says t.gives (plan ∷ []) (omega arith) (one-more (λ p. AlwaysAnswers t.gives p) [] plan (λ p none. absurd none) (c.requires.answers by_parts)))

pub returns-clause-ran : goal.returns-clause-ran
returns-clause-ran g c =
    let pipe = c.in_ok-pipe.pipe in
    let one = c.in_ok-push.ensures.items ∙ ap (λ z. z ++ c.args.stage ∷ []) c.new-stages.ensures.items in
    let same : plans_of g.T.Turn pipe ≡ g.T.Turn.plan c.args.stage ∷ [] = c.in_ok-pipe.ensures.plans ∙ ap (λ z. map g.T.Turn.plan z) one in
    let P : List g.T.Turn.Plan → Type 0 = λ ps. IfOk c.run.result (λ status. Ran (StagesSay {T = g.T.Turn.Plan} (λ p w e a. g.T.Turn.gives p w e a) ps) (last_given c.args.limits.block (g.S.Source.reads c.run.new.input))
    (change (g.S.Source.rest c.args.input.now) (g.S.Source.rest c.run.new.input) (g.S.Source.faults c.args.input.now) (g.S.Source.faults c.run.new.input))
    (change (g.K.Sink.held c.args.output.now) (g.K.Sink.held c.run.new.output) (g.K.Sink.faults c.args.output.now) (g.K.Sink.faults c.run.new.output))
    status) in
    subst P same c.run.ensures.ran
