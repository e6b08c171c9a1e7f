-- Laws of what tables pass on.
use Rattle.std.specs.Prelude.{◌≡◌, ℕ, ◌<◌, ◌≤◌, List, [], ◌∷◌, ◌++◌, Option, Some, None, slice_get}
use Rattle.std.specs.Prelude.{length}
use Rattle.kex_byteset.specs.Classes.{class_at}
use Rattle.kex_sst.specs.Tables.{Row, Transducer, IsTable, LeadsTo, transition_of}
use Rattle.kex_sst.specs.declared.table.Transition.{Transition}
use Rattle.kex_sst.specs.Passes.{Pass, passes, passes_if, next_of, next_pass}

abbrev pub step_if : Transducer → Option Pass → ℕ → Option Pass
step_if t None b = None
step_if t (Some p) b = next_pass (next_of t p.state b) b p

-- a state of the table, with as many registers as it has
pub record IsPassOf (t : Transducer) (p : Pass) : Type 0 where
  pub row : Row
  pub at : slice_get t.states p.state ≡ Some row
  pub count : length p.registers ≡ row.registers

-- on a byte a state does what it does on the byte's class; with no transition for it, or on another
-- number, nothing is passed on
pub record ByClass (t : Transducer) (state : ℕ) : Type 0 where
  pub byte : (b : ℕ) → b < length t.classes
      → next_of t state b ≡ transition_of t state (class_at t.classes b)
  pub no_byte : (b : ℕ) → length t.classes ≤ b → next_of t state b ≡ None

-- a text is passed on byte by byte; a state that it leads to has its registers, and an update from
-- there uses no others
pub record PassesOn (t : Transducer) (w v : List ℕ) : Type 0 where
  pub more : passes t (w ++ v) ≡ passes_if t (passes t w) v
  pub byte : (b : ℕ) → passes t (w ++ b ∷ []) ≡ step_if t (passes t w) b
  pub leads : IsTable t → (p : Pass) (b : ℕ) (r : Transition) → passes t w ≡ Some p
      → next_of t p.state b ≡ Some r → LeadsTo t.states (length p.registers) r.target r.update
  pub registers : IsTable t → (p : Pass) → passes t w ≡ Some p → IsPassOf t p
