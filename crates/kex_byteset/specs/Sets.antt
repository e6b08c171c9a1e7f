-- Which bytes are in a set.
use Rattle.std.specs.Prelude.{◌≡◌, ℕ, ◌<◌, Bool, false, List, length, get_or}

-- whether a byte is in a set
abbrev pub has : List Bool → ℕ → Bool
has s b = get_or s b false

-- the bytes of the set are those of which the test says true
pub record HasExactly (s : List Bool) (test : ℕ → Bool) : Type 0 where
  pub long : length s ≡ 256
  pub bytes : (b : ℕ) → b < 256 → has s b ≡ test b
