-- What is on a sheet, and what it makes of a state.
use Rattle.std.specs.Prelude.{◌≡◌, ℕ, ◌≤◌, List, [], ◌∷◌, ◌++◌, take, drop, length, reverse}
use Rattle.kex_model.specs.Acting.{ActingState}
use Rattle.kex_action.specs.declared.sheet.Sheet.{Sheet}
use Rattle.kex_action.specs.Holdings.{Holding, with_bytes, state_of}

-- with one more open buffer
abbrev pub with_buffer : List ℕ → ActingState → ActingState
with_buffer b s = record { out = s.out; buffers = b ∷ s.buffers; registers = s.registers }

-- bytes with marks among them, the last one first: from each mark on they are in a buffer that is
-- opened there
abbrev pub with_marked_bytes : List ℕ → List ℕ → ActingState → ActingState
with_marked_bytes bytes [] s = with_bytes bytes s
with_marked_bytes bytes (m ∷ ms) s =
    with_buffer (drop m bytes) (with_marked_bytes (take m bytes) ms s)

-- marks among that many bytes, the last one first
abbrev pub AreMarks : ℕ → List ℕ → Type 0
AreMarks used [] = Unit {0}
AreMarks used (m ∷ ms) = (m ≤ used) × AreMarks m ms

-- what is used lies within, and the marks in what is used, in their order
pub record IsSheet (s : Sheet) : Type 0 where
  pub used : s.used ≤ length s.bytes.items
  pub marks : AreMarks s.used (reverse s.marks.items)

-- what was written and is held, once the sheet is handed on
abbrev pub state_with : Sheet → List ℕ → Holding → ActingState
state_with s out h =
    with_marked_bytes (take s.used s.bytes.items) (reverse s.marks.items) (state_of out h)

-- bytes are written after those that are used
pub record Writes (old new : Sheet) (bytes : List ℕ) : Type 0 where
  pub used : take new.used new.bytes.items ≡ take old.used old.bytes.items ++ bytes
  pub marks : new.marks.items ≡ old.marks.items

-- the last mark is taken away, and what comes from there on doesn't count
pub record ClosesBuffer (old new : Sheet) : Type 0 where
  pub marks : old.marks.items ≡ new.marks.items ++ new.used ∷ []
  pub kept : new.bytes.items ≡ old.bytes.items
  pub within : new.used ≤ old.used

-- as long a sheet
abbrev pub IsAsLong : Sheet → Sheet → Type 0
IsAsLong old new = length new.bytes.items ≡ length old.bytes.items

-- nothing is on it
abbrev pub IsBlank : Sheet → Type 0
IsBlank s = (s.used ≡ 0) × (s.marks.items ≡ [])

-- what counts stays
pub record IsSame (old new : Sheet) : Type 0 where
  pub used : new.used ≡ old.used
  pub bytes : new.bytes.items ≡ old.bytes.items
  pub marks : new.marks.items ≡ old.marks.items
