use Rattle.std.proofs.Common.{◌≡◌, ◌-◌, ◌<◌, ◌^◌, ◌++◌, ℕ, List}
use Rattle.kex_top.specs.Tallies.{HasWaiting}
use Rattle.kex_top.specs.Trials.{lines_from, made_lines}
use Rattle.kex_pipeline.specs.Piped.{PipeSays, PipeStands, plans_of}
use Rattle.kex_top.proofs.call.trial.give_lines.Given as goal

abbrev pub invariant-lines : goal.invariant-lines
invariant-lines g l = record {
  same : plans_of g.T.Turn l.pipe ≡ plans_of g.T.Turn l.fn.pipe;
  short : l.state < 2 ^ 32;
  fed : (front : List ℕ) × HasWaiting (PipeSays g.T.Turn (plans_of g.T.Turn l.fn.pipe)) (PipeStands g.T.Turn l.pipe) front l.waiting.items l.tally × (made_lines l.lines.count ≡ front ++ lines_from l.state (l.lines.count - l._line));
}
