use Rattle.std.proofs.Common.{rules, ◌≡◌, ◌∙◌, ap, inr, true, false, ℕ, List, length, subst}
use Rattle.kex_ports.specs.Reads.{Asks, last_given}
use Rattle.kex_plan.specs.Plans.{AllTell, tellers}
use Rattle.kex_stage.specs.Stages.{StagePlan}
use Rattle.kex_words.specs.Gains.{change}
use Rattle.kex_top.specs.ByLines.{NodesSayLines, PumpedByLines, line_block}
use Rattle.kex_top.specs.Pipelines.{agreed_plans, stage_plans}
use Rattle.kex_top.specs.Run.{is_whole}
use Rattle.kex_top.proofs.LineRuns.{close_fails_by_lines, closed_by_lines, closes_by_lines, finish_alike, reads_by_lines, stays_open_by_lines}
use Rattle.kex_top.proofs.call.each.answer_lines.Goals as goal

pub new-requires-clause-told : goal.new-requires-clause-told
new-requires-clause-told g c = subst (λ k. AllTell k c.stages-plans.result.now) c.requires.agreed c.stages-plans.ensures.told

pub returns-clause-ran : goal.returns-clause-ran
returns-clause-ran g c =
    let P : List StagePlan → ℕ → Type 0 = λ ps n. PumpedByLines (NodesSayLines ps) (last_given n (g.S.Source.reads c.pump_lines-status.new.input))
    (change (g.S.Source.rest c.args.input.now) (g.S.Source.rest c.pump_lines-status.new.input) (g.S.Source.faults c.args.input.now) (g.S.Source.faults c.pump_lines-status.new.input))
    (change (g.K.Sink.held c.args.output.now) (g.K.Sink.held c.pump_lines-status.new.output) (g.K.Sink.faults c.args.output.now) (g.K.Sink.faults c.pump_lines-status.new.output))
    c.pump_lines-status.result in
    let len : length c.deref_mut.result.now ≡ line_block = search rules in
    let plans : c.in_ok-answers.answers.plans ≡ agreed_plans c.args.limits.max_input c.args.compiled.now.stages = c.in_ok-answers.ensures.plans ∙ ap (λ z. stage_plans c.args.limits.max_input z) (c.stages-plans.ensures.tellers ∙ ap (λ k. tellers k c.args.compiled.now.stages) c.requires.agreed) in
    let whole : is_whole c.pump_lines-status.result ≡ true = cc in
    close_fails_by_lines (agreed_plans c.args.limits.max_input c.args.compiled.now.stages) _ _ _ _ _ _ _ _ _
    whole (subst (λ z. P z line_block) plans (subst (λ z. P c.in_ok-answers.answers.plans z) len c.pump_lines-status.ensures.pumped)) c.finish.ensures.held c.in-Err.ensures.cause.later c.in-Err.ensures.cause.failed

pub returns-in-Ok-clause-ran : goal.returns-in-Ok-clause-ran
returns-in-Ok-clause-ran g c =
    let P : List StagePlan → ℕ → Type 0 = λ ps n. PumpedByLines (NodesSayLines ps) (last_given n (g.S.Source.reads c.pump_lines-status.new.input))
    (change (g.S.Source.rest c.args.input.now) (g.S.Source.rest c.pump_lines-status.new.input) (g.S.Source.faults c.args.input.now) (g.S.Source.faults c.pump_lines-status.new.input))
    (change (g.K.Sink.held c.args.output.now) (g.K.Sink.held c.pump_lines-status.new.output) (g.K.Sink.faults c.args.output.now) (g.K.Sink.faults c.pump_lines-status.new.output))
    c.pump_lines-status.result in
    let len : length c.deref_mut.result.now ≡ line_block = search rules in
    let plans : c.in_ok-answers.answers.plans ≡ agreed_plans c.args.limits.max_input c.args.compiled.now.stages = c.in_ok-answers.ensures.plans ∙ ap (λ z. stage_plans c.args.limits.max_input z) (c.stages-plans.ensures.tellers ∙ ap (λ k. tellers k c.args.compiled.now.stages) c.requires.agreed) in
    let whole : is_whole c.pump_lines-status.result ≡ true = cc in
    let pumped = subst (λ z. P z line_block) plans (subst (λ z. P c.in_ok-answers.answers.plans z) len c.pump_lines-status.ensures.pumped) in
    closed_by_lines (NodesSayLines (agreed_plans c.args.limits.max_input c.args.compiled.now.stages)) _ _ _ _ _ _ _ _ _
    whole pumped.0 c.finish.ensures.held c.in-Ok.ensures.cause.kept

-- ---- the calls to the source

pub returns-then-not-is_whole-clause-blocks : goal.returns-then-not-is_whole-clause-blocks
returns-then-not-is_whole-clause-blocks g c =
    let len : length c.deref_mut.result.now ≡ line_block = search rules in
    reads_by_lines (NodesSayLines c.in_ok-answers.answers.plans) _ _ _ _ line_block _ _ c.pump_lines-status.ensures.pumped.0
    (subst (λ n. Asks n (g.S.Source.reads c.args.input.now) (g.S.Source.reads c.pump_lines-status.new.input)) len c.pump_lines-status.ensures.asks)

pub returns-in-Ok-clause-blocks : goal.returns-in-Ok-clause-blocks
returns-in-Ok-clause-blocks g c =
    let len : length c.deref_mut.result.now ≡ line_block = search rules in
    reads_by_lines (NodesSayLines c.in_ok-answers.answers.plans) _ _ _ _ line_block _ _ c.pump_lines-status.ensures.pumped.0
    (subst (λ n. Asks n (g.S.Source.reads c.args.input.now) (g.S.Source.reads c.pump_lines-status.new.input)) len c.pump_lines-status.ensures.asks)

pub returns-clause-blocks : goal.returns-clause-blocks
returns-clause-blocks g c =
    let len : length c.deref_mut.result.now ≡ line_block = search rules in
    subst (λ n. Asks n (g.S.Source.reads c.args.input.now) (g.S.Source.reads c.pump_lines-status.new.input)) len c.pump_lines-status.ensures.asks

-- ---- the calls to the sink

pub returns-then-not-is_whole-clause-closes : goal.returns-then-not-is_whole-clause-closes
returns-then-not-is_whole-clause-closes g c =
    let broke : is_whole c.pump_lines-status.result ≡ false = cc in
    stays_open_by_lines (NodesSayLines c.in_ok-answers.answers.plans) _ _ _ _ _ _ c.pump_lines-status.ensures.pumped.0 broke c.pump_lines-status.ensures.unclosed

pub returns-in-Ok-clause-closes : goal.returns-in-Ok-clause-closes
returns-in-Ok-clause-closes g c =
    let whole : is_whole c.pump_lines-status.result ≡ true = cc in
    closes_by_lines _ _ _ c.pump_lines-status.result whole c.pump_lines-status.ensures.unclosed c.finish.ensures.ending

pub returns-clause-closes : goal.returns-clause-closes
returns-clause-closes g c =
    let whole : is_whole c.pump_lines-status.result ≡ true = cc in
    inr (c.finish.ensures.ending ∙ finish_alike _ _ (c.pump_lines-status.ensures.unclosed.1 whole))
