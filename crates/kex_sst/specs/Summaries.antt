-- Summaries: what a table does along a text, from each of its states.
use Rattle.std.specs.Prelude.{◌≡◌, ℕ, suc, ◌+◌, ◌<◌, List, [], ◌∷◌, ◌++◌, Option, Some, None, map}
use Rattle.std.specs.Prelude.{slice_get, length}
use Rattle.kex_code.specs.Codes.{IsAmong, Different}
use Rattle.kex_sst.specs.declared.summary.Course.{Course}
use Rattle.kex_sst.specs.declared.summary.Course.TheVariants.{Gone, Goes}
use Rattle.kex_sst.specs.declared.table.Transition.{Transition}
use Rattle.kex_sst.specs.Parts.{Change, EachPart, reads_of}
use Rattle.kex_sst.specs.Tables.{Row, Transducer, IsTable}
use Rattle.kex_sst.specs.Passes.{Pass, pass_after, next_of, passes_if}
use Rattle.kex_sst.specs.Series.{then_update, with_read, identity, ReadsNothing}

abbrev pub next_course_by : Option Transition → ℕ → ℕ → Change → Course
next_course_by None n b u = Gone n
next_course_by (Some r) n b u = Goes r.target (then_update u (with_read b r.update))

-- what one byte more makes of the course of n bytes
abbrev pub next_course : Transducer → ℕ → Course → ℕ → Course
next_course t n (Gone m) b = Gone m
next_course t n (Goes q u) b = next_course_by (next_of t q b) n b u

-- what a text makes of the course of n bytes before it
abbrev pub course_along : Transducer → ℕ → Course → List ℕ → Course
course_along t n e [] = e
course_along t n e (b ∷ x) = course_along t (suc n) (next_course t n e b) x

-- the course of a text from a state that has `registers` registers
abbrev pub course_of : Transducer → ℕ → ℕ → List ℕ → Course
course_of t q registers x = course_along t 0 (Goes q (identity registers)) x

-- the courses of a text from these states, the first of which has this number
abbrev pub courses_from : Transducer → List Row → ℕ → List ℕ → List Course
courses_from t [] q x = []
courses_from t (s ∷ ss) q x = course_of t q s.registers x ∷ courses_from t ss (suc q) x

-- how long a text is, and its course from each state
pub record Sum : Type 0 where
  pub bytes : ℕ
  pub entries : List Course

-- the summary of a text
abbrev pub sum_of : Transducer → List ℕ → Sum
sum_of t x = record { bytes = length x; entries = courses_from t t.states 0 x }

-- n bytes and their update, and after them a course from the state reached
abbrev pub then_by : Option Course → ℕ → Change → Course
then_by None n u = Gone n
then_by (Some (Gone m)) n u = Gone (n + m)
then_by (Some (Goes q v)) n u = Goes q (then_update u v)

abbrev pub then_of : ℕ → List Course → Course → Course
then_of n others (Gone m) = Gone m
then_of n others (Goes q u) = then_by (slice_get others q) n u

-- one summary, and another after it
abbrev pub then_sum : Sum → Sum → Sum
then_sum s r = record {
  bytes = s.bytes + r.bytes;
  entries = map (λ e. then_of s.bytes r.entries e) s.entries;
}

-- a text of `bytes` bytes is left before its end, or leads to one of `states` states, and its
-- update reads no byte
abbrev pub IsCourseOf : ℕ → ℕ → Course → Type 0
IsCourseOf bytes states (Gone n) = n < bytes
IsCourseOf bytes states (Goes q u) = (q < states) × EachPart ReadsNothing u

-- each entry of a summary is in range
pub record IsSum (s : Sum) : Type 0 where
  pub each : (q : ℕ) (c : Course) → slice_get s.entries q ≡ Some c
      → IsCourseOf s.bytes (length s.entries) c

-- what a course makes of where the table is
abbrev pub passed_by : Course → Pass → Option Pass
passed_by (Gone n) p = None
passed_by (Goes q u) p = Some (pass_after u 0 p q)

-- an update of a course: it has each of `from` old registers at most once, and gives `to` new ones
pub record IsComposed (from to : ℕ) (u : Change) : Type 0 where
  pub count : length u.regs ≡ to
  pub once : Different (reads_of u)
  pub within : (i : ℕ) → IsAmong (reads_of u) i → i < from

-- the summary of two texts, one after the other, is determined by theirs
abbrev pub Determined : Transducer → List ℕ → List ℕ → Type 0
Determined t x y = IsTable t → sum_of t (x ++ y) ≡ then_sum (sum_of t x) (sum_of t y)

-- along a text the table does what the text's course from its state says
abbrev pub DoesAsSaid : Transducer → List ℕ → Type 0
DoesAsSaid t x = (p : Pass)
    → passes_if t (Some p) x ≡ passed_by (course_of t p.state (length p.registers) x) p

-- each register of a state comes at most once in the update of its course
abbrev pub IsCopyless : Transducer → List ℕ → Type 0
IsCopyless t x = IsTable t → (q q' : ℕ) (s : Row) (u : Change) → slice_get t.states q ≡ Some s
    → course_of t q s.registers x ≡ Goes q' u
    → (s' : Row) × (slice_get t.states q' ≡ Some s') × IsComposed s.registers s'.registers u

-- the summary of a text is in range
abbrev pub IsSumInRange : Transducer → List ℕ → Type 0
IsSumInRange t x = IsTable t → IsSum (sum_of t x)
