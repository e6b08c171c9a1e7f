-- What a stage's machine is, and what it is for a stage to have too many places.
use Rattle.std.specs.Prelude.{◌≡◌, ℕ, suc, List, length}
use Rattle.kex_code.specs.Codes.{IsAmong, Different, HasNumber}
use Rattle.kex_model.specs.Programs.{Grammar}
use Rattle.kex_model.specs.Places.{Place, IsPlace, moves, start_of}
use Rattle.kex_model.specs.Alike.{Goes}
use Rattle.kex_machine.specs.Nodes.{Graph, node_moves}
use Rattle.kex_desugar.specs.declared.refusal.DesugarRefusal.{DesugarRefusal}
use Rattle.kex_desugar.specs.declared.refusal.DesugarRefusal.TheVariants.{TooManyPlaces, Memory}

-- the stage has more places than this
pub record HasMore (P : Grammar) (root max : ℕ) : Type 0 where
  pub places : List Place
  pub more : length places ≡ suc max
  pub different : Different places
  pub each : (p : Place) → IsAmong places p → IsPlace P root p

-- the machine's nodes are the stage's places, one to one, and each goes as its place
pub record IsMachineOf (P : Grammar) (root : ℕ) (m : Graph) : Type 0 where
  pub places : List Place
  pub count : length places ≡ length m.nodes
  pub each : (p : Place) (i : ℕ) → HasNumber places p i → IsPlace P root p
  pub all : (p : Place) → IsPlace P root p → (i : ℕ) × HasNumber places p i
  pub once : (p : Place) (i j : ℕ) → HasNumber places p i → HasNumber places p j → i ≡ j
  pub start : HasNumber places (start_of P root) m.start
  pub registers : m.registers ≡ P.registers
  pub goes : (p : Place) (i : ℕ) → HasNumber places p i
      → Goes (HasNumber places) (moves P p) (node_moves m.nodes i)

abbrev pub IsTooMany : DesugarRefusal → Type 0
IsTooMany TooManyPlaces = Unit {0}
IsTooMany Memory = ⊥
