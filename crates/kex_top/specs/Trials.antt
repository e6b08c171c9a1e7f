-- The lines that a trial makes, the program that it runs them through, and what it sums up.
use Rattle.std.specs.Prelude.{◌≡◌, ◌+◌, ◌*◌, ◌/◌, ◌%◌, ◌-◌, ◌^◌, ℕ, zero, suc, Bool, true, List, []}
use Rattle.std.specs.Prelude.{◌∷◌, ◌++◌, codes, decimal, length, min}
use Rattle.kex_words.specs.declared.counts.TrialCounts.{TrialCounts}
use Rattle.kex_pipeline.specs.Sayings.{Said}

-- the state after this one
abbrev pub next_random : ℕ → ℕ
next_random x = (x * 1664525 + 1013904223) % 2 ^ 32

-- a letter by some of the state's bits
abbrev pub letter : ℕ → ℕ → ℕ
letter x bits = 97 + (x / 2 ^ bits) % 26

-- three letters, a blank, a number and a line feed
abbrev pub drawn_line : ℕ → List ℕ
drawn_line x = letter x 8 ∷ letter x 16 ∷ letter x 24 ∷ 32 ∷ decimal (x % 10000) ++ 10 ∷ []

-- lines of the states after this one
abbrev pub lines_from : ℕ → ℕ → List ℕ
lines_from x zero = []
lines_from x (suc n) = drawn_line (next_random x) ++ lines_from (next_random x) n

abbrev pub made_lines : ℕ → List ℕ
made_lines n = lines_from 0 n

-- the rolled sum of bytes, on from one
abbrev pub rolling_sum : ℕ → List ℕ → ℕ
rolling_sum h [] = h
rolling_sum h (b ∷ bs) = rolling_sum ((h * 31 + b) % 2 ^ 32) bs

-- a count that stays at its last value
abbrev pub saturated_count : ℕ → ℕ
saturated_count n = min n (2 ^ 64 - 1)

-- it turns each line round, and joins its words by a sign
abbrev pub trial_text : List ℕ
trial_text = codes
    "start: swap >> mark\nswap := (w@/[a-z]+/ ~/ / n@/[0-9]+/ !n \" \" !w /\\n/)*\nmark := (/[0-9]+/ ~/ / \"=\" /[a-z]+\\n/)*\n"

-- a trial's program may have as many states as one that is run
abbrev pub usual_states : ℕ
usual_states = 4096

-- what is said of this many lines is summed up
pub record AreTrialCounts (says : List ℕ → Bool → Said → Type 0) (lines : ℕ)
    (counts : TrialCounts) : Type 0 where
  pub said : Said
  pub is_said : says (made_lines lines) true said
  pub lines_of : counts.lines ≡ lines
  pub made : counts.made ≡ saturated_count (length (made_lines lines))
  pub written : counts.written ≡ saturated_count (length said.text)
  pub roll : counts.roll ≡ rolling_sum 0 said.text
