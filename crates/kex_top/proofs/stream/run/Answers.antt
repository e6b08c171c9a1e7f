use Rattle.std.proofs.Common.{rules, ◌≡◌, ℕ, length, true, subst}
use Rattle.kex_ports.specs.Reads.{last_given}
use Rattle.kex_words.specs.Gains.{change}
use Rattle.kex_top.specs.Run.{Pumped, is_whole}
use Rattle.kex_pipeline.specs.Piped.{PipeSays, plans_of}
use Rattle.kex_pipeline.specs.PipelineLaws.{says_grows}
use Rattle.kex_top.proofs.WholeRuns.{closed, close-fails}
use Rattle.kex_top.proofs.stream.run.Goals as goal

pub returns-clause-ran : goal.returns-clause-ran
returns-clause-ran g c =
    let laws = g.met.T.Turn g.world.𝓛 g.world.𝓜 g.world.𝓡 ((λ s x. x), (λ x. x), (λ x. x), λ x. x) in
    let P : ℕ → Type 0 = λ n. Pumped (PipeSays g.T.Turn (plans_of g.T.Turn c.args.pipe.now)) (last_given n (g.S.Source.reads c.pump-status.new.input))
    (change (g.S.Source.rest c.args.input.now) (g.S.Source.rest c.pump-status.new.input) (g.S.Source.faults c.args.input.now) (g.S.Source.faults c.pump-status.new.input))
    (change (g.K.Sink.held c.args.output.now) (g.K.Sink.held c.pump-status.new.output) (g.K.Sink.faults c.args.output.now) (g.K.Sink.faults c.pump-status.new.output))
    c.pump-status.result in
    let len : length c.deref_mut.result.now ≡ c.args.limits.block = search rules in
    let whole : is_whole c.pump-status.result ≡ true = cc in
    close-fails (PipeSays g.T.Turn) (plans_of g.T.Turn c.args.pipe.now) (says_grows g.T.Turn.gives laws.one laws.grows laws.stays laws.ends) _ _ _ _ _ _ _ _ _
    whole (subst P len c.pump-status.ensures.pumped) c.finish.ensures.held c.in-Err.ensures.cause.later c.in-Err.ensures.cause.failed

pub returns-in-Ok-clause-ran : goal.returns-in-Ok-clause-ran
returns-in-Ok-clause-ran g c =
    let P : ℕ → Type 0 = λ n. Pumped (PipeSays g.T.Turn (plans_of g.T.Turn c.args.pipe.now)) (last_given n (g.S.Source.reads c.pump-status.new.input))
    (change (g.S.Source.rest c.args.input.now) (g.S.Source.rest c.pump-status.new.input) (g.S.Source.faults c.args.input.now) (g.S.Source.faults c.pump-status.new.input))
    (change (g.K.Sink.held c.args.output.now) (g.K.Sink.held c.pump-status.new.output) (g.K.Sink.faults c.args.output.now) (g.K.Sink.faults c.pump-status.new.output))
    c.pump-status.result in
    let len : length c.deref_mut.result.now ≡ c.args.limits.block = search rules in
    let whole : is_whole c.pump-status.result ≡ true = cc in
    let pumped = subst P len c.pump-status.ensures.pumped in
    closed (PipeSays g.T.Turn (plans_of g.T.Turn c.args.pipe.now)) _ _ _ _ _ _ _ _ _
    whole pumped.0 c.finish.ensures.held c.in-Ok.ensures.cause.kept
