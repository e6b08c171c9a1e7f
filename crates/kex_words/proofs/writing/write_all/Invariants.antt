use Rattle.std.proofs.Common.{◌≡◌, ◌++◌, [], List, ℕ, length}
use Rattle.std.specs.Io.KnownBytes.{Appends}
use Rattle.kex_ports.specs.Endings.{counts_of}
use Rattle.kex_words.proofs.writing.write_all.Given as goal

abbrev pub invariant-loop-rest : goal.invariant-loop-rest
invariant-loop-rest g l = record {
  written : (done : List ℕ) × (l.bytes ≡ done ++ l.rest) × Appends (g.K.Sink.held l.fn.sink) (g.K.Sink.held l.sink) done;
  kept : g.K.Sink.faults l.sink ≡ g.K.Sink.faults l.fn.sink;
  unfinished : counts_of (g.K.Sink.ending l.sink) ≡ counts_of (g.K.Sink.ending l.fn.sink);
  left : l.bytes ≡ [] → l.sink ≡ l.fn.sink;
}

abbrev pub decreases-loop-rest : goal.decreases-loop-rest
decreases-loop-rest g l = length l.rest
