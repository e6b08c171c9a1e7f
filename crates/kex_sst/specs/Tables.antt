-- Tables: their states, and what is true of each.
use Rattle.std.specs.Prelude.{◌≡◌, ℕ, ◌<◌, List, Option, Some, None, slice_get, length}
use Rattle.kex_byteset.specs.Classes.{class_count, IsNumbered}
use Rattle.kex_sst.specs.declared.parts.Part.{Part}
use Rattle.kex_sst.specs.declared.table.Transition.{Transition}
use Rattle.kex_sst.specs.Parts.{Change, IsUpdate, IsWay, EachPart, IsPut}

-- a state: its registers, the way to the leaf at which a text may end, and its transitions by class
pub record Row : Type 0 where
  pub registers : ℕ
  pub accepting : Option (List Part)
  pub go : List (Option Transition)

-- a table: the class of each byte, the update before the first byte, and the states
pub record Transducer : Type 0 where
  pub classes : List ℕ
  pub initial : Change
  pub states : List Row

abbrev pub transition_if : Option (Option Transition) → Option Transition
transition_if None = None
transition_if (Some r) = r

abbrev pub transition_on : Option Row → ℕ → Option Transition
transition_on None class = None
transition_on (Some s) class = transition_if (slice_get s.go class)

-- the transition of a state on a class
abbrev pub transition_of : Transducer → ℕ → ℕ → Option Transition
transition_of t state class = transition_on (slice_get t.states state) class

abbrev pub IsWayIf : ℕ → Option (List Part) → Type 0
IsWayIf count None = Unit {0}
IsWayIf count (Some way) = IsWay count way

-- an update over `from` registers leads to a state of the list, with as many lists as that has
-- registers
pub record LeadsTo (states : List Row) (from target : ℕ) (u : Change) : Type 0 where
  pub row : Row
  pub at : slice_get states target ≡ Some row
  pub update : IsUpdate from row.registers u

-- a state has a transition or none for each class, and its numbers are in range
pub record IsTableState (classes : List ℕ) (states : List Row) (s : Row) : Type 0 where
  pub long : length s.go ≡ class_count classes
  pub ends : IsWayIf s.registers s.accepting
  pub goes : (class : ℕ) (r : Transition) → slice_get s.go class ≡ Some (Some r)
      → LeadsTo states s.registers r.target r.update

-- all numbers are in range, no update uses an old register twice, and there is one before the first
-- byte, of symbols alone
pub record IsTable (t : Transducer) : Type 0 where
  pub numbered : IsNumbered t.classes
  pub begins : LeadsTo t.states 0 0 t.initial
  pub puts : EachPart IsPut t.initial
  pub states : (i : ℕ) (s : Row) → slice_get t.states i ≡ Some s → IsTableState t.classes t.states s
  pub few : length t.states < 4294967296
