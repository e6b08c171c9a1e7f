use Rattle.std.proofs.Common.{◌≡◌, take}
use Rattle.kex_runner.specs.Histories.{contents_after}
use Rattle.kex_runner.specs.Noting.{settled_of}
use Rattle.kex_runner.proofs.registers.settled.Given as goal

abbrev pub invariant-loop-i : goal.invariant-loop-i
invariant-loop-i l = settled_of l.history.script.now l.all.items ≡ take l.i (contents_after l.history)
