-- The lines that the states of a table are written in.
use Rattle.std.specs.Prelude.{◌≡◌, ℕ, zero, suc, ◌≤◌, List, [], ◌∷◌, ◌++◌, Option, Some, None}
use Rattle.std.specs.Prelude.{length, slice_get}
use Rattle.kex_code.specs.Codes.{IsAmong}
use Rattle.kex_model.specs.Labelled.{Shape, shape_of, Grown}
use Rattle.kex_machine.specs.Nodes.{Graph}
use Rattle.kex_sst.specs.declared.parts.Part.{Part}
use Rattle.kex_sst.specs.declared.table.Transition.{Transition}
use Rattle.kex_sst.specs.Parts.{Change}
use Rattle.kex_sst.specs.Tables.{Row, Transducer}
use Rattle.kex_plan.specs.Plans.{Planned}
use Rattle.kex_determine.specs.Determined.{IsDetermined}
use Rattle.kex_paths.specs.Nexts.{Outline, IsOfShape, HasClass, IsNext}
use Rattle.kex_tabfile.specs.Lines.{state_line, init_line, go_line}
use Rattle.kex_tabfile.specs.Walks.{most_table_states}

-- the lines by which a state goes on, from a class on
abbrev pub goes_text : ℕ → ℕ → List (Option Transition) → List ℕ
goes_text state class [] = []
goes_text state class (None ∷ go) = goes_text state (suc class) go
goes_text state class (Some r ∷ go) = go_line state class r.target r.update
    ++ goes_text state (suc class) go

-- the start's update has its line after that of the first state
abbrev pub init_behind : Change → ℕ → List ℕ
init_behind u zero = init_line u
init_behind u (suc state) = []

-- all lines of a state
abbrev pub state_text : List ℕ → Change → ℕ → Shape ℕ → List (Option Transition) → List ℕ
state_text numbers u state s go = state_line numbers state s
    ++ (init_behind u state ++ goes_text state 0 go)

-- those of the states from one on
abbrev pub states_text : List ℕ → Change → ℕ → List (Shape ℕ) → List Row → List ℕ
states_text numbers u state [] rows = []
states_text numbers u state (s ∷ shapes) [] = []
states_text numbers u state (s ∷ shapes) (r ∷ rows) = state_text numbers u state s r.go
    ++ states_text numbers u (suc state) shapes rows

-- the path trees are trees of the machine
abbrev pub AreTreesOf : Graph → List Outline → Type 0
AreTreesOf g trees = (i : ℕ) (t : Outline) → slice_get trees i ≡ Some t → t.machine ≡ g

-- they have the shapes of the first states
abbrev pub AreFirstTrees : List (Shape ℕ) → List Outline → Type 0
AreFirstTrees shapes trees = (i : ℕ) (t : Outline) → slice_get trees i ≡ Some t → (s : Shape ℕ)
    × (slice_get shapes i ≡ Some s) × IsOfShape t s

-- with a class a state of shape s goes on to the target
abbrev pub GoesOnTo : Graph → List (Shape ℕ) → Shape ℕ → ℕ → ℕ → Type 0
GoesOnTo g shapes s class target = (b : ℕ) × (a : Grown Part ℕ) × HasClass g class b
    × IsNext g b s (Some a) × (slice_get shapes target ≡ Some (shape_of a.tree))

-- and so with each class that has a transition
abbrev pub EachGoesOn : Graph → List (Shape ℕ) → Shape ℕ → List (Option Transition) → Type 0
EachGoesOn g shapes s go = (class : ℕ) (r : Transition) → slice_get go class ≡ Some (Some r)
    → GoesOnTo g shapes s class r.target

-- each plan has the table that determinisation makes, of no more states than a file may have
abbrev pub EachDetermined : List Planned → Type 0
EachDetermined plans = (p : Planned) → IsAmong plans p → (t : Transducer) × (p.table ≡ Some t)
    × IsDetermined p.machine t × (length t.states ≤ most_table_states)
