-- What the table of a machine is: its states are the shapes of the texts, numbered in the order in
-- which they are met.
use Rattle.std.specs.Prelude.{◌≡◌, ℕ, suc, ◌<◌, List, [], ◌∷◌, ◌++◌, ◌⊎◌, Option, Some, None}
use Rattle.std.specs.Prelude.{length, slice_get}
use Rattle.kex_code.specs.declared.symbol.Symbol.{Symbol}
use Rattle.kex_code.specs.Codes.{IsAmong}
use Rattle.kex_model.specs.Labelled.{Labelled, labels_of, Shape, shape_of}
use Rattle.kex_model.specs.Survivors.{HasTree}
use Rattle.kex_model.specs.States.{AllDifferent, IsState}
use Rattle.kex_machine.specs.Nodes.{Graph, node_moves, HasClasses}
use Rattle.kex_machine.specs.Answers.{IsViableFor}
use Rattle.kex_sst.specs.declared.table.Transition.{Transition}
use Rattle.kex_sst.specs.Tables.{Row, Transducer}
use Rattle.kex_sst.specs.Passes.{Pass, passes}
use Rattle.kex_paths.specs.Nexts.{Outline, IsOfShape}
use Rattle.kex_determine.specs.Rows.{AreRows}

-- the state has the shape of the tree of w, what was passed on is agreed, and the registers hold
-- the labels; none where w isn't viable
abbrev pub ShowsText : Graph → List (Shape ℕ) → List ℕ → Option Pass → Type 0
ShowsText g shapes w None = ¬ IsViableFor g w
ShowsText g shapes w (Some p) = (tree : Labelled Symbol ℕ)
    × HasTree (node_moves g.nodes) g.start w p.code tree × (p.registers ≡ labels_of tree)
    × (slice_get shapes p.state ≡ Some (shape_of tree))

-- where the transitions of a state lead, in the order of classes
abbrev pub targets_of : List (Option Transition) → List ℕ
targets_of [] = []
targets_of (None ∷ go) = targets_of go
targets_of (Some r ∷ go) = r.target ∷ targets_of go

abbrev pub targets_in : List Row → List ℕ
targets_in [] = []
targets_in (s ∷ rows) = targets_of s.go ++ targets_in rows

-- n numbers were met, and with these in their order it is `all`: a new one is the next
abbrev pub MeetsInOrder : ℕ → List ℕ → ℕ → Type 0
MeetsInOrder n [] all = n ≡ all
MeetsInOrder n (i ∷ is) all = ((i < n) × MeetsInOrder n is all)
    ⊎ ((i ≡ n) × MeetsInOrder (suc n) is all)

-- the states are exactly the shapes of the texts, numbered in the order first met: breadth first,
-- classes ascending; each row is the one that its shape determines
pub record IsDetermined (g : Graph) (t : Transducer) : Type 0 where
  pub shapes : List (Shape ℕ)
  pub rows : AreRows g t shapes
  pub different : AllDifferent shapes
  pub each : (s : Shape ℕ) → IsAmong shapes s → IsState (node_moves g.nodes) g.start s
  pub all : (s : Shape ℕ) → IsState (node_moves g.nodes) g.start s → IsAmong shapes s
  pub shows : (w : List ℕ) → ShowsText g shapes w (passes t w)
  pub numbered : MeetsInOrder 1 (targets_in t.states) (length t.states)
  pub classes : HasClasses g.nodes t.classes

-- the path trees have these shapes, in the order of the states
pub record AreStateTrees (g : Graph) (shapes : List (Shape ℕ)) (trees : List Outline) : Type 0 where
  pub count : length trees ≡ length shapes
  pub each : (i : ℕ) (s : Shape ℕ) → slice_get shapes i ≡ Some s → (t : Outline)
      × (slice_get trees i ≡ Some t) × (t.machine ≡ g) × IsOfShape t s
