-- A set as words, one bit a byte.
use Rattle.std.specs.Prelude.{ℕ, ◌^◌, ◌<◌, ◌==◌, Bool, List, get_or, map}
use Rattle.std.specs.Int.{bit_at}
use Rattle.std.specs.List.{flat_map, range_with_len}

-- the 64 bits of a word, the lowest first
unfoldable pub bits : ℕ → List Bool
bits word = map (λ i. bit_at word i == 1) (range_with_len 0 64)

-- the bits of the words, one word after another
unfoldable pub flags : List ℕ → List Bool
flags words = flat_map bits words

-- no word has more than 64 bits
abbrev pub AreWords : List ℕ → Type 0
AreWords words = (i : ℕ) → get_or words i 0 < 2 ^ 64
