use Rattle.std.proofs.Common.{◌≡◌, ◌≤◌, ℕ, ◌<◌, get_or, length}
use Rattle.kex_constants.specs.Known.{kept_number}
use Rattle.kex_constants.proofs.known.numbers.Given as goal

abbrev pub invariant-loop-constant : goal.invariant-loop-constant
invariant-loop-constant l = record {
  next : l.next ≡ kept_number l.constants l.constant-index;
  few : l.next ≤ l.constant-index;
  long : length l.numbers.items ≡ l.constant-index;
  each : (i : ℕ) → i < l.constant-index → get_or l.numbers.items i 0 ≡ kept_number l.constants i;
}
