use Rattle.std.proofs.Common.{◌≡◌, ℕ, ◌<◌, [], length, get_or}
use Rattle.kex_action.proofs.store.clear_all.Given as goal

abbrev pub invariant-loop-i : goal.invariant-loop-i
invariant-loop-i l = (length l.all ≡ length l.initial.all) × ((k : ℕ) → k < l.i → get_or l.all k [] ≡ [])
