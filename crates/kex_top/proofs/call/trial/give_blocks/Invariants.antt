use Rattle.std.proofs.Common.{◌≡◌, ℕ, List, length}
use Rattle.kex_top.specs.Tallies.{HasWaiting}
use Rattle.kex_pipeline.specs.Piped.{PipeSays, PipeStands, plans_of}
use Rattle.kex_top.proofs.call.trial.give_blocks.Given as goal

abbrev pub invariant-blocks-2 : goal.invariant-blocks-2
invariant-blocks-2 g l = record {
  same : plans_of g.T.Turn l.pipe ≡ plans_of g.T.Turn l.fn.pipe;
  given : (all : List ℕ) → HasWaiting (PipeSays g.T.Turn (plans_of g.T.Turn l.fn.pipe)) (PipeStands g.T.Turn l.fn.pipe) all l.fn.waiting.items l.fn.tally → HasWaiting (PipeSays g.T.Turn (plans_of g.T.Turn l.fn.pipe)) (PipeStands g.T.Turn l.pipe) all l.waiting.items l.more;
}

abbrev pub decreases-blocks-2 : goal.decreases-blocks-2
decreases-blocks-2 g l = length l.waiting.items
