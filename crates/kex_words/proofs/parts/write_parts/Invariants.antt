use Rattle.std.proofs.Common.{◌≡◌, ◌++◌, List, ℕ, drop, map}
use Rattle.std.specs.List.{concat}
use Rattle.kex_ports.specs.Endings.{counts_of}
use Rattle.kex_words.specs.Gains.{GainsWhole, change}
use Rattle.kex_words.specs.Parts.{part_bytes}
use Rattle.kex_words.proofs.parts.write_parts.Given as goal

abbrev pub invariant-loop-part : goal.invariant-loop-part
invariant-loop-part g l =
    (done : List ℕ)
    × (concat (map part_bytes l.parts) ≡ done ++ concat (map part_bytes (drop l.part-index l.parts)))
    × GainsWhole (change (g.N.Sink.held l.fn.sink) (g.N.Sink.held l.sink) (g.N.Sink.faults l.fn.sink) (g.N.Sink.faults l.sink)) done
    × (counts_of (g.N.Sink.ending l.sink) ≡ counts_of (g.N.Sink.ending l.fn.sink))
