-- How a sink's output was ended.
use Rattle.std.specs.Prelude.{◌≡◌, ℕ, Bool, true, false, Option, option_map, Result, Ok, Err}
use Rattle.kex_ports.specs.Calls.{next_count}

-- How many calls were to finish it, how many writes failed, and whether the last call was to finish
-- it.
pub record Ending : Type 0 where
  pub finishes : ℕ
  pub failed_writes : ℕ
  pub is_closed : Bool

abbrev pub never_ended : Ending
never_ended = record { finishes = 0; failed_writes = 0; is_closed = false }

abbrev pub written_ending : Ending → Ending
written_ending e =
    record { finishes = e.finishes; failed_writes = e.failed_writes; is_closed = false }

abbrev pub failed_ending : Ending → Ending
failed_ending e =
    record { finishes = e.finishes; failed_writes = next_count e.failed_writes; is_closed = false }

-- After a call to write.
abbrev pub IsWritten : {T E : Type 0} → Option Ending → Option Ending → Result T E → Type 0
IsWritten before now (Ok n) = now ≡ option_map written_ending before
IsWritten before now (Err e) = now ≡ option_map failed_ending before

abbrev pub finished_ending : Ending → Ending
finished_ending e =
    record { finishes = next_count e.finishes; failed_writes = e.failed_writes; is_closed = true }

-- After a call to finish.
abbrev pub after_finish : Option Ending → Option Ending
after_finish e = option_map finished_ending e

-- How often it was finished, and how many writes failed.
abbrev pub counts_of : Option Ending → Option (ℕ × ℕ)
counts_of e = option_map (λ x. (x.finishes, x.failed_writes)) e

abbrev pub finishes_of : Option Ending → Option ℕ
finishes_of e = option_map (λ x. x.finishes) e

-- After some writes: it wasn't finished, and where all were taken none has failed.
abbrev pub IsUnfinished : {T E : Type 0} → Option Ending → Option Ending → Result T E → Type 0
IsUnfinished before now (Ok x) = counts_of now ≡ counts_of before
IsUnfinished before now (Err e) = finishes_of now ≡ finishes_of before
