use Rattle.std.proofs.Common.{◌≡◌, ◌++◌, take}
use Rattle.kex_sst.specs.Series.{read_parts, substitute}
use Rattle.kex_chunks.proofs.drafts.add_all.Given as goal

abbrev pub invariant-loop-part : goal.invariant-loop-part
invariant-loop-part l = l.list ≡ l.initial.list ++ substitute l.regs (read_parts l.byte (take l.part-index l.parts))
