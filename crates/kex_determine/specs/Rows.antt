-- What is to be found in the rows of the states.
use Rattle.std.specs.Prelude.{◌≡◌, ℕ, suc, ◌<◌, Bool, true, false, List, Option, Some, None, length}
use Rattle.std.specs.Prelude.{slice_get}
use Rattle.kex_byteset.specs.Classes.{class_at, class_count}
use Rattle.kex_model.specs.Labelled.{Shape, shape_of, size_of, Grown}
use Rattle.kex_model.specs.Moves.{Move, accept, read, choose, forced, go}
use Rattle.kex_machine.specs.Nodes.{Graph, node_moves}
use Rattle.kex_machine.specs.Advancing.{first_accepting}
use Rattle.kex_sst.specs.declared.parts.Part.{Part}
use Rattle.kex_sst.specs.declared.table.Transition.{Transition}
use Rattle.kex_sst.specs.Parts.{numbered_tree}
use Rattle.kex_sst.specs.Tables.{Row, Transducer, transition_if}
use Rattle.kex_paths.specs.Nexts.{Outline, HasClass, IsFirstTree, IsNext, IsChange}
use Rattle.kex_paths.specs.Alikes.{LeadAlikeFrom}

-- what a state of this shape does on a byte
abbrev pub DoesOn : Graph → List (Shape ℕ) → Shape ℕ → ℕ → Option Transition → Type 0
DoesOn g shapes s b None = IsNext g b s None
DoesOn g shapes s b (Some r) = (a : Grown Part ℕ) × IsNext g b s (Some a) × IsChange r.update a
    × (slice_get shapes r.target ≡ Some (shape_of a.tree))

abbrev pub is_accepting : Move ℕ → Bool
is_accepting accept = true
is_accepting (read set t) = false
is_accepting (choose l r) = false
is_accepting (forced x t) = false
is_accepting (go e t) = false

-- the way to what is found, if it is
abbrev pub way_to : Option (Grown Part ℕ) → Option (List Part)
way_to None = None
way_to (Some a) = Some a.label

-- the row of a state of shape s
pub record IsRowOf (g : Graph) (classes : List ℕ) (shapes : List (Shape ℕ)) (s : Shape ℕ)
    (r : Row) : Type 0 where
  pub registers : suc r.registers ≡ size_of s
  pub long : length r.go ≡ class_count classes
  pub ends : r.accepting ≡ way_to (first_accepting (node_moves g.nodes) (numbered_tree 0 s))
  pub does : (b : ℕ) → b < 256
      → DoesOn g shapes s b (transition_if (slice_get r.go (class_at classes b)))

-- the states have these shapes, in the order of their numbers, and the first is that of the empty
-- text
pub record AreRows (g : Graph) (t : Transducer) (shapes : List (Shape ℕ)) : Type 0 where
  pub count : length t.states ≡ length shapes
  pub begins : (a : Grown Part ℕ) × IsFirstTree g (Some a) × IsChange t.initial a
      × (slice_get shapes 0 ≡ Some (shape_of a.tree))
  pub rows : (i : ℕ) (s : Shape ℕ) → slice_get shapes i ≡ Some s → (r : Row)
      × (slice_get t.states i ≡ Some r) × IsRowOf g t.classes shapes s r

-- a shape that is reached from the first by bytes
pub data IsFound (g : Graph) : Shape ℕ → Type 0 where
  at_first : (a : Grown Part ℕ) → IsFirstTree g (Some a) → IsFound g (shape_of a.tree)
  by_byte : {s : Shape ℕ} (b : ℕ) (a : Grown Part ℕ) → IsFound g s → IsNext g b s (Some a)
      → IsFound g (shape_of a.tree)

-- from some leaf of the tree the bytes of the two classes lead to other places
abbrev pub LeadsApart : Outline → ℕ → ℕ → Type 0
LeadsApart tree class other = (b c : ℕ) → HasClass tree.machine class b
    → HasClass tree.machine other c → LeadAlikeFrom (node_moves tree.machine.nodes) b c tree.leaves
    → ⊥
