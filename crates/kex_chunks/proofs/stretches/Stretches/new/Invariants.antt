use Rattle.std.proofs.Common.{◌≡◌, ℕ, Some, length}
use Rattle.std.specs.Prelude.{slice_get}
use Rattle.kex_chunks.specs.declared.stretches.Stretch.{Stretch}
use Rattle.kex_chunks.proofs.stretches.Stretches.new.Given as goal

abbrev pub invariant-states : goal.invariant-states
invariant-states l = record {
  count : length l.met.items ≡ l._state;
  none : (q : ℕ) (s : Stretch) → slice_get l.met.items q ≡ Some (Some s) → ⊥;
}
