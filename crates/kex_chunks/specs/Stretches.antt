-- What a table does along a text from a state.
use Rattle.std.specs.Prelude.{◌≡◌, ℕ, ◌+◌, ◌<◌, List, Option, Some, length, slice_get}
use Rattle.kex_sst.specs.declared.summary.Course.{Course}
use Rattle.kex_sst.specs.declared.summary.Course.TheVariants.{Gone, Goes}
use Rattle.kex_sst.specs.Tables.{Row, Transducer, IsTable}
use Rattle.kex_sst.specs.Summaries.{course_of}
use Rattle.kex_chunks.specs.declared.stretches.Stretch.{Stretch}
use Rattle.kex_chunks.specs.declared.stretches.Stretch.TheVariants.{Stops, Leads}

-- the course that a stretch is
abbrev pub course_in : Stretch → Course
course_in (Stops n) = Gone n
course_in (Leads q u) = Goes q u

-- a course that stops does so before `bytes` bytes, with the `done` bytes before it
abbrev pub StopsBefore : ℕ → ℕ → Course → Type 0
StopsBefore bytes done (Gone n) = done + n < bytes
StopsBefore bytes done (Goes q u) = Unit {0}

-- the course of a text from a state
abbrev pub IsStretch : Transducer → List ℕ → ℕ → Stretch → Type 0
IsStretch t x q s = (row : Row) → slice_get t.states q ≡ Some row
    → course_in s ≡ course_of t q row.registers x

-- a table, and a text along which it goes
pub record Stretched : Type 0 where
  pub table : Transducer
  pub text : List ℕ

-- for each state of the table the course of a text from it, or nothing
pub record AreStretches (t : Transducer) (x : List ℕ) (met : List (Option Stretch)) : Type 0 where
  pub table : IsTable t
  pub count : length met ≡ length t.states
  pub each : (q : ℕ) (s : Stretch) → slice_get met q ≡ Some (Some s) → IsStretch t x q s
