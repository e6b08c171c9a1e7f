use Rattle.std.proofs.Common.{◌≡◌, ◌≤◌, List, ℕ, length, false}
use Rattle.std.specs.Prelude.{Some, None}
use Rattle.std.specs.Io.KnownBytes.{Appends, Consumes}
use Rattle.kex_ports.specs.Endings.{counts_of}
use Rattle.kex_ports.specs.Reads.{Asks}
use Rattle.kex_pipeline.specs.Sayings.{Said}
use Rattle.kex_pipeline.specs.Piped.{PipeSays, PipeStands, plans_of}
use Rattle.kex_top.proofs.stream.pump.Given as goal

abbrev pub invariant-reads : goal.invariant-reads
invariant-reads g l = record {
  same : plans_of g.T.Turn l.pipe ≡ plans_of g.T.Turn l.fn.pipe;
  fed : (w : List ℕ) × (said : Said) × PipeSays g.T.Turn (plans_of g.T.Turn l.fn.pipe) w false said
      × PipeStands g.T.Turn l.pipe (Some (record { bytes = w; ended = false; said = said }))
      × (l._read ≤ length w)
      × Consumes (g.S.Source.rest l.fn.input) (g.S.Source.rest l.input) w
      × (said.report ≡ None)
      × Appends (g.K.Sink.held l.fn.output) (g.K.Sink.held l.output) said.text;
  read : g.S.Source.faults l.input ≡ g.S.Source.faults l.fn.input;
  written : g.K.Sink.faults l.output ≡ g.K.Sink.faults l.fn.output;
  asked : Asks (length l.fn.block) (g.S.Source.reads l.fn.input) (g.S.Source.reads l.input);
  unfinished : counts_of (g.K.Sink.ending l.output) ≡ counts_of (g.K.Sink.ending l.fn.output);
}
