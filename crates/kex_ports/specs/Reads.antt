-- What the reads of a source asked for, and what the last one gave.
use Rattle.std.specs.Prelude.{◌≡◌, ◌⊎◌, ◌-◌, ◌^◌, ℕ, Option, Some, None, Result, Ok, Err, min, max}
use Rattle.std.specs.Prelude.{option_map}

-- The least and the most bytes that a read asked for, and how many the last read gave.
pub record Reads : Type 0 where
  pub least : ℕ
  pub most : ℕ
  pub last : ℕ

abbrev pub no_reads : Reads
no_reads = record { least = 2 ^ 64 - 1; most = 0; last = 0 }

-- One more read asked for `asked` bytes, and got `given`.
abbrev pub after_asking : ℕ → ℕ → Reads → Reads
after_asking asked given r =
    record { least = min r.least asked; most = max r.most asked; last = given }

-- After a call to read into a buffer of this length. A failed one gives none.
abbrev pub HasAsked : {E : Type 0} → Option Reads → Option Reads → ℕ → Result ℕ E → Type 0
HasAsked before now room (Ok n) = now ≡ option_map (after_asking room n) before
HasAsked before now room (Err e) = now ≡ option_map (after_asking room 0) before

-- The least and the most that a read asked for.
abbrev pub bounds_of : Option Reads → Option (ℕ × ℕ)
bounds_of r = option_map (λ x. (x.least, x.most)) r

abbrev pub bounds_with : ℕ → ℕ × ℕ → ℕ × ℕ
bounds_with room b = (min b.0 room, max b.1 room)

-- Each read, if there was one, asked for this many bytes.
abbrev pub Asks : ℕ → Option Reads → Option Reads → Type 0
Asks room before now = (now ≡ before)
    ⊎ (bounds_of now ≡ option_map (bounds_with room) (bounds_of before))

-- How many bytes the last read gave, where that is known, and else the most that it can have given.
abbrev pub last_given : ℕ → Option Reads → ℕ
last_given room None = room
last_given room (Some r) = r.last
