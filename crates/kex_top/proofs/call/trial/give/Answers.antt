use Rattle.std.proofs.Common.{false, refl, ap, subst, ◌∙◌, ◌+◌, ◌++◌, arith, length}
use Rattle.std.proofs.lemmas.List.{take_all}
use Rattle.kex_pipeline.specs.History.{FeedsStages, bytes_passed}
use Rattle.kex_top.specs.Trials.{saturated_count, rolling_sum}
use Rattle.kex_pipeline.specs.Piped.{PipeSays, PipeStands, plans_of}
use Rattle.kex_top.proofs.TrialCounts.{counts}
use Rattle.kex_top.proofs.call.trial.give.Goals as goal

pub returns-clause-counts : goal.returns-clause-counts
returns-clause-counts g c = λ h stands still.
    let value = c.deref.ensures.value in
    counts c.args.tally c.add.result c.args.piece.now c.feed.new.out.items c.add.ensures.made
    (c.add.ensures.written ∙ ap (λ z. saturated_count (c.args.tally.written + length z)) value) (c.add.ensures.roll ∙ ap (λ z. rolling_sum c.args.tally.roll z) value)
    (λ w e said. PipeSays g.T.Turn (plans_of g.T.Turn c.args.pipe.now) w e said) (λ k. PipeStands g.T.Turn c.feed.new.pipe k) h _ _ _ refl
    (subst (λ z. FeedsStages (PipeSays g.T.Turn (plans_of g.T.Turn c.args.pipe.now)) (PipeStands g.T.Turn c.feed.new.pipe) h (bytes_passed h ++ z) false c.feed.new.out.items c.in_ok-feed.field-0.fate) (take_all _ c.args.piece.now (let all = c.in_ok-feed.ensures.front.whole refl in omega (arith, all))) (c.in_ok-feed.ensures.feeds h stands still))
