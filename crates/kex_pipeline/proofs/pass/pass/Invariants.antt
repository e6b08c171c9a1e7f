use Rattle.std.proofs.Common.{◌≡◌, ◌++◌, length, false}
use Rattle.kex_ports.specs.Endings.{counts_of}
use Rattle.kex_pipeline.specs.History.{History, bytes_passed, is_history_ended}
use Rattle.kex_pipeline.specs.Piped.{PipeStands, plans_of}
use Rattle.kex_pipeline.proofs.BlockFronts.{Passing}
use Rattle.kex_pipeline.proofs.pass.pass.Given as goal

abbrev pub decreases-fronts : goal.decreases-fronts
decreases-fronts g l = length l.rest

abbrev pub invariant-fronts : goal.invariant-fronts
invariant-fronts g l = record {
  same : plans_of g.T.Turn l.pipe ≡ plans_of g.T.Turn l.fn.pipe;
  stands : (h : History) × PipeStands g.T.Turn l.pipe h × (is_history_ended h ≡ false);
  passing : (h : History) → PipeStands g.T.Turn l.fn.pipe h → is_history_ended h ≡ false → Passing (PipeStands g.T.Turn l.pipe) h (bytes_passed h ++ l.fn.block) l.rest (g.K.Sink.held l.fn.output) (g.K.Sink.held l.output);
  written : g.K.Sink.faults l.output ≡ g.K.Sink.faults l.fn.output;
  unfinished : counts_of (g.K.Sink.ending l.output) ≡ counts_of (g.K.Sink.ending l.fn.output);
}
