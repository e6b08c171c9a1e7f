use Rattle.std.proofs.Common.{take}
use Rattle.kex_runner.specs.Ways.{AreOlds}
use Rattle.kex_runner.proofs.ways.are_olds.Given as goal

abbrev pub invariant-loop-part : goal.invariant-loop-part
invariant-loop-part l = AreOlds (take l.part-index l.parts)
