use Rattle.std.proofs.Common.{◌≡◌, ◌≤◌, [], length, drop}
use Rattle.kex_sst.specs.Parts.{olds}
use Rattle.kex_runner.proofs.ways.word_start.Given as goal

abbrev pub invariant-loop-start : goal.invariant-loop-start
invariant-loop-start l = record {
  within : l.start ≤ length l.parts;
  plain : olds (drop l.start l.parts) ≡ [];
}

abbrev pub decreases-loop-start : goal.decreases-loop-start
decreases-loop-start l = l.start
