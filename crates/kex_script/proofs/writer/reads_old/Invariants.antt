use Rattle.std.proofs.Common.{◌≡◌, [], take}
use Rattle.kex_sst.specs.Parts.{olds}
use Rattle.kex_script.proofs.writer.reads_old.Given as goal

abbrev pub invariant-loop-part : goal.invariant-loop-part
invariant-loop-part l = olds (take l.part-index l.parts) ≡ []
