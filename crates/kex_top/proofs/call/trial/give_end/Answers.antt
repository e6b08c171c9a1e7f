use Rattle.std.proofs.Common.{[], sym, ap, ◌∙◌, ◌+◌, length}
use Rattle.std.proofs.lemmas.List.{append-nil}
use Rattle.kex_pipeline.specs.History.{bytes_passed}
use Rattle.kex_top.specs.Trials.{saturated_count, rolling_sum}
use Rattle.kex_pipeline.specs.Piped.{PipeSays, PipeStands, plans_of}
use Rattle.kex_top.proofs.TrialCounts.{counts}
use Rattle.kex_top.proofs.call.trial.give_end.Goals as goal

pub returns-clause-counts : goal.returns-clause-counts
returns-clause-counts g c = λ h stands still.
    let value = c.deref.ensures.value in
    counts c.args.tally c.add.result [] c.end.new.out.items c.add.ensures.made
    (c.add.ensures.written ∙ ap (λ z. saturated_count (c.args.tally.written + length z)) value) (c.add.ensures.roll ∙ ap (λ z. rolling_sum c.args.tally.roll z) value)
    (λ w e said. PipeSays g.T.Turn (plans_of g.T.Turn c.args.pipe.now) w e said) (λ k. PipeStands g.T.Turn c.end.new.pipe k) h _ _ _ (sym (append-nil (bytes_passed h))) (c.in_ok-end.ensures.feeds h stands still)
