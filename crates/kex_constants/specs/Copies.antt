-- Tables whose states are copies of another's.
use Rattle.std.specs.Prelude.{◌≡◌, ℕ, ◌<◌, List, Option, Some, None, map, get_or, slice_get, length}
use Rattle.kex_sst.specs.declared.table.Transition.{Transition}
use Rattle.kex_sst.specs.Tables.{Row, Transducer}
use Rattle.kex_constants.specs.declared.copies.StateCopy.{StateCopy}

-- by copy, the state of which it is one
abbrev pub originals : List StateCopy → List ℕ
originals copies = map (λ c. c.of) copies

-- copy number `number` is one of this state
abbrev pub IsCopyOf : List ℕ → ℕ → ℕ → Type 0
IsCopyOf of number state = (number < length of) × (get_or of number 0 ≡ state)

-- a transition of a copy is one of the state, but that it leads to a copy of its target
abbrev pub GoesAlike : List ℕ → Option Transition → Option Transition → Type 0
GoesAlike of None None = Unit {0}
GoesAlike of None (Some s) = ⊥
GoesAlike of (Some r) None = ⊥
GoesAlike of (Some r) (Some s) = (s.update ≡ r.update) × IsCopyOf of s.target r.target

-- so are as many transitions, each as that of its number
pub record GoAlike (of : List ℕ) (go copied : List (Option Transition)) : Type 0 where
  pub long : length copied ≡ length go
  pub each : (k : ℕ) → k < length go → GoesAlike of (get_or go k None) (get_or copied k None)

pub record IsCopy (of : List ℕ) (row copy : Row) : Type 0 where
  pub registers : copy.registers ≡ row.registers
  pub accepting : copy.accepting ≡ row.accepting
  pub goes : GoAlike of row.go copy.go

-- the copy of this number is one of its state
pub record HasCopy (of : List ℕ) (states copies : List Row) (number : ℕ) : Type 0 where
  pub row : Row
  pub copy : Row
  pub at : slice_get states (get_or of number 0) ≡ Some row
  pub copied : slice_get copies number ≡ Some copy
  pub is : IsCopy of row copy

pub record AreCopies (of : List ℕ) (states copies : List Row) : Type 0 where
  pub count : length copies ≡ length of
  pub each : (number : ℕ) → number < length of → HasCopy of states copies number

-- the states of u are copies of those of t, and the first is one of the first
pub record HasCopiedStates (t u : Transducer) : Type 0 where
  pub of : List ℕ
  pub classes : u.classes ≡ t.classes
  pub initial : u.initial ≡ t.initial
  pub first : IsCopyOf of 0 0
  pub copies : AreCopies of t.states u.states
