-- A file that is read from its front.
use Rattle.std.specs.Prelude.{◌≡◌, ℕ, ◌+◌, ◌<◌, ◌≤◌, List, ◌++◌}
use Rattle.kex_tokens.specs.Bytes.{digit_0}

-- the most bytes of a file
abbrev pub most_bytes : ℕ
most_bytes = 268435456

-- the bytes that were read, and those that come
pub record ReadSoFar : Type 0 where
  pub before : List ℕ
  pub rest : List ℕ

-- these bytes came next, and were read
pub record ReadsBytes (old : ReadSoFar) (bytes : List ℕ) (new : ReadSoFar) : Type 0 where
  pub before : new.before ≡ old.before ++ bytes
  pub came : old.rest ≡ bytes ++ new.rest

abbrev pub IsDigit : ℕ → Type 0
IsDigit b = (digit_0 ≤ b) × (b < digit_0 + 10)
