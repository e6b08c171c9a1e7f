-- Where a piece is cut into parts.
use Rattle.std.specs.Prelude.{◌≡◌, ℕ, ◌≤◌, ◌<◌, ◌+◌, ◌-◌, ◌*◌, ◌/◌, ◌%◌}
use Rattle.std.specs.Prelude.{List, length, min, slice_index_or}

-- how many bytes the first k parts have, where any two parts differ by one byte at most
abbrev pub even_cut : ℕ → ℕ → ℕ → ℕ
even_cut bytes k parts = bytes / parts * k + min k (bytes % parts)

-- the place after the first line feed from another place on
pub record IsAfterNext (piece : List ℕ) (from at : ℕ) : Type 0 where
  pub ahead : from < at
  pub within : at ≤ length piece
  pub line : slice_index_or piece (at - 1) 0 ≡ 10
  pub first : (k : ℕ) → from ≤ k → k < at - 1 → slice_index_or piece k 0 ≡ 10 → ⊥
