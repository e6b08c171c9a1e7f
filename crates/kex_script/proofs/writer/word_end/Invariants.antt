use Rattle.std.proofs.Common.{◌≡◌, [], take, drop}
use Rattle.kex_sst.specs.Parts.{olds}
use Rattle.kex_script.proofs.writer.word_end.Given as goal

abbrev pub invariant-loop-i : goal.invariant-loop-i
invariant-loop-i l = olds (drop l.start (take l.i l.parts)) ≡ []
