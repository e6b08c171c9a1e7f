-- Which lines of a stage are right, each after those before it.
use Rattle.std.specs.Prelude.{◌≡◌, ℕ, ◌<◌, ◌≤◌, List, [], ◌∷◌, ◌++◌, ◌⊎◌, Option, Some, None}
use Rattle.std.specs.Prelude.{length}
use Rattle.kex_byteset.specs.Classes.{class_count}
use Rattle.kex_code.specs.Codes.{Begins, IsAmong}
use Rattle.kex_model.specs.Labelled.{Shape, shape_of, Grown}
use Rattle.kex_machine.specs.Nodes.{Graph, HasClasses}
use Rattle.kex_sst.specs.declared.parts.Part.{Part}
use Rattle.kex_sst.specs.declared.table.Transition.{Transition}
use Rattle.kex_sst.specs.Parts.{Change}
use Rattle.kex_paths.specs.Nexts.{HasClass, IsFirstTree, IsNext, IsChange}
use Rattle.kex_tabfile.specs.Lines.{stage_line, state_line, init_line, go_line}
use Rattle.kex_tabfile.specs.PlaceNumbers.{ArePlaceNumbers}

-- the most states of a stage
abbrev pub most_table_states : ℕ
most_table_states = 1048576

-- a state to which a line leads, and the tree that it gives it
pub record Target : Type 0 where
  pub state : ℕ
  pub tree : Shape ℕ

-- what the lines of a stage tell, up to one of them: how many states there are; the targets, each
-- once; and for each state that is through where it goes, by class
pub record Told : Type 0 where
  pub states : ℕ
  pub targets : List Target
  pub rows : List (List (Option Transition))

-- by the stage's own line: state 0 is met, and has the start's tree
abbrev pub told_first : ℕ → Shape ℕ → Told
told_first n s = record {
  states = n;
  targets = record { state = 0; tree = s } ∷ [];
  rows = [];
}

-- where a line of a stage comes: the stage's own, with this number; that of the next state, or what
-- comes after the last; that of the start's update; or one of the next state, which has this tree,
-- after some of its classes
pub data Spot : Type 0 where
  at_stage : ℕ → Spot
  at_state : Told → Spot
  at_init : Told → Shape ℕ → Spot
  at_class : Told → Shape ℕ → List (Option Transition) → Spot

-- the first state has the line of the start's update after its own
abbrev pub behind_state : Told → Shape ℕ → List (List (Option Transition)) → Spot
behind_state told s [] = at_init told s
behind_state told s (row ∷ rows) = at_class told s []

-- a target that was met has the tree that it had, and another is one more
abbrev pub MeetsTarget : List Target → Target → List Target → Type 0
MeetsTarget targets x after = (IsAmong targets x × (after ≡ targets))
    ⊎ (((s : Shape ℕ) → IsAmong targets (record { state = x.state; tree = s }) → ⊥)
    × (after ≡ targets ++ x ∷ []))

-- on each byte of the class a tree of this shape goes on so
abbrev pub GoesByClass : Graph → ℕ → Shape ℕ → Option (Grown Part ℕ) → Type 0
GoesByClass g class s a = (b : ℕ) → HasClass g class b → IsNext g b s a

module _ (g : Graph) (numbers classes : List ℕ) where
  -- at this spot the line is right, and leads to that spot
  pub data IsRightLine : Spot → List ℕ → Spot → Type 0 where
    right_stage : {stage : ℕ} (n : ℕ) (a : Grown Part ℕ) → 0 < n → n ≤ most_table_states
        → IsFirstTree g (Some a)
        → IsRightLine (at_stage stage) (stage_line stage (class_count classes) n)
        (at_state (told_first n (shape_of a.tree)))
    right_state : {told : Told} (s : Shape ℕ) → length told.rows < told.states
        → IsAmong told.targets (record { state = length told.rows; tree = s })
        → IsRightLine (at_state told) (state_line numbers (length told.rows) s)
        (behind_state told s told.rows)
    right_init : {told : Told} {s : Shape ℕ} (u : Change) (a : Grown Part ℕ)
        → IsFirstTree g (Some a) → IsChange u a
        → IsRightLine (at_init told s) (init_line u) (at_class told s [])
    right_go : {told : Told} {s : Shape ℕ} {go : List (Option Transition)} (r : Transition)
        (a : Grown Part ℕ) (after : List Target) → length go < class_count classes
        → GoesByClass g (length go) s (Some a) → IsChange r.update a → r.target < told.states
        → MeetsTarget told.targets (record { state = r.target; tree = shape_of a.tree }) after
        → IsRightLine (at_class told s go)
        (go_line (length told.rows) (length go) r.target r.update)
        (at_class (record told { targets = after }) s (go ++ Some r ∷ []))

  -- what is passed by without a line: a class that leaves no survivor, and a state after its
  -- classes
  pub data HasNoLine : Spot → Spot → Type 0 where
    class_over : {told : Told} {s : Shape ℕ} {go : List (Option Transition)}
        → length go < class_count classes → GoesByClass g (length go) s None
        → HasNoLine (at_class told s go) (at_class told s (go ++ None ∷ []))
    state_over : {told : Told} {s : Shape ℕ} {go : List (Option Transition)}
        → length go ≡ class_count classes → HasNoLine (at_class told s go)
        (at_state (record told { rows = told.rows ++ go ∷ [] }))

  -- from one spot to another the bytes are right lines
  pub data WalksLines (from : Spot) : List ℕ → Spot → Type 0 where
    stays : WalksLines from [] from
    passes_by : {bytes : List ℕ} {p q : Spot} → WalksLines from bytes p → HasNoLine p q
        → WalksLines from bytes q
    reads_line : {bytes line : List ℕ} {p q : Spot} → WalksLines from bytes p → IsRightLine p line q
        → WalksLines from (bytes ++ line) q

-- the numbers of a machine's places, and its classes
pub record AreNumbersOf (g : Graph) (numbers classes : List ℕ) : Type 0 where
  pub numbered : ArePlaceNumbers g numbers
  pub classed : HasClasses g.nodes classes

-- all states are through
abbrev pub IsThrough : Told → Type 0
IsThrough told = length told.rows ≡ told.states

-- the bytes are the lines of the stage with this number, whose states go so
pub record IsStageText (stage : ℕ) (g : Graph) (rows : List (List (Option Transition)))
    (bytes : List ℕ) : Type 0 where
  pub numbers : List ℕ
  pub classes : List ℕ
  pub numbers_of : AreNumbersOf g numbers classes
  pub told : Told
  pub walked : WalksLines g numbers classes (at_stage stage) bytes (at_state told)
  pub through : IsThrough told
  pub rows_are : told.rows ≡ rows

abbrev pub IsBehindAll : Spot → Type 0
IsBehindAll (at_stage stage) = ⊥
IsBehindAll (at_state told) = IsThrough told
IsBehindAll (at_init told s) = ⊥
IsBehindAll (at_class told s go) = ⊥

-- from a spot the lines before are right, and none that would be right comes next
pub record BreaksFrom (g : Graph) (numbers classes : List ℕ) (from : Spot)
    (before rest : List ℕ) : Type 0 where
  pub spot : Spot
  pub walked : WalksLines g numbers classes from before spot
  pub has_line : (q : Spot) → HasNoLine g numbers classes spot q → ⊥
  pub unfinished : IsBehindAll spot → ⊥
  pub stuck : (line : List ℕ) (q : Spot) → IsRightLine g numbers classes spot line q
      → Begins rest line → ⊥

-- of the lines of the stage with this number those before are right, and the next isn't
pub record BreaksInStage (stage : ℕ) (g : Graph) (before rest : List ℕ) : Type 0 where
  pub numbers : List ℕ
  pub classes : List ℕ
  pub numbers_of : AreNumbersOf g numbers classes
  pub breaks : BreaksFrom g numbers classes (at_stage stage) before rest
