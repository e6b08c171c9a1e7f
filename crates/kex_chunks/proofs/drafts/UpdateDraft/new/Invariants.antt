use Rattle.std.proofs.Common.{◌≡◌}
use Rattle.kex_sst.specs.Series.{olds_from}
use Rattle.kex_chunks.proofs.drafts.UpdateDraft.new.Given as goal

abbrev pub invariant-registers : goal.invariant-registers
invariant-registers l = l.regs.items ≡ olds_from 0 l.register
