use Rattle.std.proofs.Common.{◌≡◌, ℕ, ◌≤◌, List, ◌∷◌, ◌++◌, drop}
use Rattle.std.specs.Prelude.{decimal}
use Rattle.kex_tabfile.specs.Readers.{IsDigit}
use Rattle.kex_tabfile.proofs.ReaderSteps.{IsNumberLeft}
use Rattle.kex_tabfile.proofs.reader.number_at.Given as goal

abbrev pub invariant-loop-i : goal.invariant-loop-i
invariant-loop-i l = record {
  within : l.value ≤ l.most;
  number : (n next : ℕ) (more : List ℕ) → n ≤ l.most → drop l.from l.bytes ≡ decimal n ++ next ∷ more → (IsDigit next → ⊥) → IsNumberLeft l.bytes l.i l.value n next more;
}
