use Rattle.kex_paths.proofs.Samples.{AreSampled}
use Rattle.kex_paths.proofs.workspace.samples_of.Given as goal

abbrev pub invariant-loop-byte : goal.invariant-loop-byte
invariant-loop-byte l = AreSampled l.partition l.samples l.byte
