-- Calls of an object in memory, counted from 1, of which those with some numbers fail.
use Rattle.std.specs.Prelude.{◌+◌, ◌-◌, ◌^◌, ◌==◌, ℕ, Bool, List, min}
use Rattle.std.specs.List.{list_any}

-- The numbers of the calls that fail, how many calls were made, and how many of them failed.
pub record Tally : Type 0 where
  pub fails : List ℕ
  pub made : ℕ
  pub faults : ℕ

-- One more, or the counter's last value.
abbrev pub next_count : ℕ → ℕ
next_count n = min (n + 1) (2 ^ 64 - 1)

abbrev pub none_made : List ℕ → Tally
none_made fails = record { fails = fails; made = 0; faults = 0 }

-- The number of the next call is among those that fail.
abbrev pub is_failing : Tally → Bool
is_failing t = list_any (λ n. n == next_count t.made) t.fails

-- One more call was made, and it passed.
abbrev pub after_success : Tally → Tally
after_success t = record { fails = t.fails; made = next_count t.made; faults = t.faults }

-- One more call was made, and it failed.
abbrev pub after_failure : Tally → Tally
after_failure t = record { fails = t.fails; made = next_count t.made; faults = next_count t.faults }
