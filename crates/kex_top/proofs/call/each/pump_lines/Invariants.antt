use Rattle.std.proofs.Common.{◌≡◌, ◌≤◌, List, ℕ, length}
use Rattle.std.specs.Io.KnownBytes.{Consumes}
use Rattle.kex_ports.specs.Endings.{counts_of}
use Rattle.kex_ports.specs.Reads.{Asks}
use Rattle.kex_each.specs.Lines.{IsBegunBehind}
use Rattle.kex_words.specs.Words.{most_input}
use Rattle.kex_top.proofs.LineRuns.{Answered}
use Rattle.kex_top.proofs.call.each.pump_lines.Given as goal

abbrev pub invariant-reads : goal.invariant-reads
invariant-reads g l = record {
  plans : l.answers.plans ≡ l.fn.answers.plans;
  w : List ℕ;
  count : length w ≡ l.total;
  few : l.total ≤ most_input;
  some : l._read ≤ l.total;
  begun : IsBegunBehind w l.answers.begun;
  consumed : Consumes (g.S.Source.rest l.fn.input) (g.S.Source.rest l.input) w;
  answered : Answered l.fn.answers.plans w (g.K.Sink.held l.fn.output) (g.K.Sink.held l.output);
  read : g.S.Source.faults l.input ≡ g.S.Source.faults l.fn.input;
  written : g.K.Sink.faults l.output ≡ g.K.Sink.faults l.fn.output;
  asked : Asks (length l.fn.block) (g.S.Source.reads l.fn.input) (g.S.Source.reads l.input);
  unfinished : counts_of (g.K.Sink.ending l.output) ≡ counts_of (g.K.Sink.ending l.fn.output);
}
