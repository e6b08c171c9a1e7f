-- A window of input bytes, with marks in it.
use Rattle.std.specs.Prelude.{◌≡◌, ◌≤◌, ◌<◌, ◌+◌, ◌-◌, ℕ, List, [], ◌∷◌, ◌++◌, take, drop}
use Rattle.std.specs.Prelude.{length, get_or}
use Rattle.kex_held.specs.Slices.{AreRising, shifted_marks}

-- bytes, how many of them were read, and marks among those
pub record MarkedText : Type 0 where
  pub bytes : List ℕ
  pub at : ℕ
  pub marks : List ℕ

-- what was read
abbrev pub text_read : MarkedText → List ℕ
text_read s = take s.at s.bytes

-- what was read, and the next byte
abbrev pub text_with_next : MarkedText → List ℕ
text_with_next s = take (s.at + 1) s.bytes

-- the points of an edge at the next byte
abbrev pub points_at : ℕ → List ℕ → List ℕ
points_at at marks = (marks ++ at ∷ []) ++ (at + 1) ∷ []

pub record IsMarkedText (s : MarkedText) : Type 0 where
  pub within : s.at ≤ length s.bytes
  pub rising : AreRising s.at s.marks

-- no mark is below k, nor the end of what was read
pub record HasNoMarkBelow (at : ℕ) (marks : List ℕ) (k : ℕ) : Type 0 where
  pub within : k ≤ at
  pub low : (i : ℕ) → i < length marks → k ≤ get_or marks i 0

-- the front is left behind, of which no mark is in need
pub record LeavesBehind (old new : MarkedText) : Type 0 where
  pub count : ℕ
  pub low : HasNoMarkBelow old.at old.marks count
  pub bytes : new.bytes ≡ drop count old.bytes
  pub at : new.at ≡ old.at - count
  pub marks : new.marks ≡ shifted_marks count old.marks
