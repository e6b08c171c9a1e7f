use Rattle.std.proofs.Common.{◌≡◌, [], take}
use Rattle.kex_sst.specs.Parts.{olds_in}
use Rattle.kex_script.proofs.writer.is_fresh.Given as goal

abbrev pub invariant-loop-list : goal.invariant-loop-list
invariant-loop-list l = olds_in (take l.list-index l.lists) ≡ []
