use Rattle.std.proofs.Common.{◌≡◌, take}
use Rattle.kex_action.proofs.store.copies.Given as goal

abbrev pub invariant-loop-buffer : goal.invariant-loop-buffer
invariant-loop-buffer l = l.copies.items ≡ take l.buffer-index l.all
