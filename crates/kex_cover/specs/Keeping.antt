-- What is left of states, one by one: the questions that were asked, marks of leaves, trees and
-- rows.
use Rattle.std.specs.Prelude.{◌≡◌, ℕ, suc, ◌<◌, ◌≤◌, Bool, false, List, [], ◌∷◌, ◌++◌, Option, Some}
use Rattle.std.specs.Prelude.{MatchBool, get_or, length, slice_get}
use Rattle.std.specs.Global.{Vec}
use Rattle.kex_byteset.specs.Classes.{class_at}
use Rattle.kex_code.specs.Codes.{IsAmong}
use Rattle.kex_model.specs.Labelled.{Shape, size_of, Grown}
use Rattle.kex_model.specs.States.{IsState}
use Rattle.kex_machine.specs.Nodes.{Graph, node_moves, IsMachineInRange, IsTrimmed}
use Rattle.kex_machine.specs.Advancing.{first_accepting}
use Rattle.kex_machine.specs.Covering.{restrict_if}
use Rattle.kex_sst.specs.declared.parts.Part.{Part}
use Rattle.kex_sst.specs.declared.table.Transition.{Transition}
use Rattle.kex_sst.specs.Parts.{Change, numbered_tree}
use Rattle.kex_sst.specs.Tables.{Row, Transducer, transition_if}
use Rattle.kex_paths.specs.Nexts.{Outline, HasClass, IsNext, IsChange, IsOfShape, places_of}
use Rattle.kex_determine.specs.Determined.{IsDetermined}
use Rattle.kex_determine.specs.Numbering.{texts}
use Rattle.kex_determine.specs.Rows.{way_to}
use Rattle.kex_cover.specs.declared.questions.Questions.{Questions}
use Rattle.kex_cover.specs.Pairs.{HasMorePairs, HasPairs, IsCoveredBy, IsUncoveredBy}
use Rattle.kex_cover.specs.Searches.{AreSetsMet}
use Rattle.kex_cover.specs.Optimal.{AsksAtMost, AsksMore, BeginsBest, DoesBest, IsBestRow}
use Rattle.kex_cover.specs.Optimal.{IsLeftState, LeftState, has_number, wholes}

-- ---- questions

abbrev pub HasPairsUpTo : Graph → ℕ → ℕ → List ℕ → Type 0
HasPairsUpTo g most leaf before = (n : ℕ) × (n ≤ most) × HasPairs g leaf before n

-- the answer to a question, whose test has no more pairs than are allowed
pub record IsAnswered (g : Graph) (most leaf : ℕ) (before : List ℕ) (told : Bool) : Type 0 where
  pub tells : MatchBool told (IsCoveredBy g leaf before) (IsUncoveredBy g leaf before)
  pub count : HasPairsUpTo g most leaf before

-- each question has its answer
pub record AreAnswered (g : Graph) (most : ℕ) (asked : List (Vec ℕ))
    (answers : List Bool) : Type 0 where
  pub count : length answers ≡ length asked
  pub each : (i leaf : ℕ) (before : List ℕ) (told : Bool)
      → slice_get (texts asked) i ≡ Some (leaf ∷ before) → slice_get answers i ≡ Some told
      → IsAnswered g most leaf before told

-- what was asked of a machine, and what the searches share
pub record AreQuestionsKept (g : Graph) (q : Questions) : Type 0 where
  pub met : AreSetsMet g q.sets
  pub answered : AreAnswered g q.pairs.most q.asked.keys q.answers.items

-- ---- leaves

module _ (g : Graph) where
  -- whether the leaf at a place of the list is covered by those before it
  abbrev pub ToldAt : List ℕ → ℕ → Bool → Type 0
  ToldAt leaves at told = (front : List ℕ) (p : ℕ) (back : List ℕ) → leaves ≡ front ++ p ∷ back
      → length front ≡ at → MatchBool told (IsCoveredBy g p front) (IsUncoveredBy g p front)

  abbrev pub AskedAt : ℕ → List ℕ → ℕ → Type 0
  AskedAt most leaves at = (front : List ℕ) (p : ℕ) (back : List ℕ) → leaves ≡ front ++ p ∷ back
      → length front ≡ at → (front ≡ [] → ⊥) → HasPairsUpTo g most p front

  abbrev pub AsksMoreAt : ℕ → List ℕ → ℕ → Type 0
  AsksMoreAt most leaves at = (front : List ℕ) (p : ℕ) (back : List ℕ)
      → leaves ≡ front ++ p ∷ back → length front ≡ at
      → (front ≡ [] → ⊥) × HasMorePairs g p front most

  -- of the first n leaves those are marked that the leaves before them don't cover, and no others
  pub record AreToldTo (n : ℕ) (leaves : List ℕ) (marks : List Bool) : Type 0 where
    pub tells : (front : List ℕ) (p : ℕ) (back : List ℕ) → leaves ≡ front ++ p ∷ back
        → length front < n
        → MatchBool (get_or marks p false) (IsUncoveredBy g p front) (IsCoveredBy g p front)
    pub later : (front : List ℕ) (p : ℕ) (back : List ℕ) → leaves ≡ front ++ p ∷ back
        → n ≤ length front → get_or marks p false ≡ false

  abbrev pub AreTold : List ℕ → List Bool → Type 0
  AreTold leaves marks = (front : List ℕ) (p : ℕ) (back : List ℕ) → leaves ≡ front ++ p ∷ back
      → MatchBool (get_or marks p false) (IsUncoveredBy g p front) (IsCoveredBy g p front)

  -- ---- trees

  -- the tree of some text
  abbrev pub IsStateTree : Outline → Type 0
  IsStateTree tree = (tree.machine ≡ g) × ((s : Shape ℕ) × IsOfShape tree s
      × IsState (node_moves g.nodes) g.start s)

  -- what is left of a tree
  abbrev pub IsLeftTree : Outline → Outline → Type 0
  IsLeftTree tree left = (left.machine ≡ g) × ((s : Shape ℕ) → IsOfShape tree s → (k : Shape ℕ)
      × IsOfShape left k × IsLeftState g (record { whole = s; left = k }))

  abbrev pub AreStates : List (Shape ℕ) → Type 0
  AreStates shapes = (s : Shape ℕ) → IsAmong shapes s → IsState (node_moves g.nodes) g.start s

  -- the trees are what is left of states of these shapes
  pub record AreLeftTrees (shapes : List (Shape ℕ)) (lefts : List Outline) : Type 0 where
    pub states : List LeftState
    pub wholes_are : wholes states ≡ shapes
    pub count : length lefts ≡ length states
    pub each : (i : ℕ) (s : LeftState) → slice_get states i ≡ Some s → (t : Outline)
        × (slice_get lefts i ≡ Some t) × (t.machine ≡ g) × IsOfShape t s.left × IsLeftState g s

  abbrev pub EachAsksUpTo : ℕ → List (Shape ℕ) → Type 0
  EachAsksUpTo most shapes = (s : Shape ℕ) → IsAmong shapes s → AsksAtMost g most (places_of s)

  abbrev pub OneAsksMore : ℕ → List (Shape ℕ) → Type 0
  OneAsksMore most shapes = (s : Shape ℕ) × IsAmong shapes s × AsksMore g most (places_of s)

  -- ---- rows

  -- a machine's table, and what is left of the trees of its states
  pub record AreStatesLeft (t : Transducer) (lefts : List Outline) : Type 0 where
    pub in_range : IsMachineInRange g.start g.nodes g.registers
    pub trimmed : IsTrimmed g
    pub determined : IsDetermined g t
    pub left : AreLeftTrees determined.shapes lefts

  -- the byte leads from a tree of this shape to a tree, and the update is what is left of it where
  -- these places are kept
  pub record IsUpdateTo (b : ℕ) (s : Shape ℕ) (places : List ℕ) (u : Change) : Type 0 where
    pub next : Grown Part ℕ
    pub is_next : IsNext g b s (Some next)
    pub rest : Grown Part ℕ
    pub is_rest : restrict_if (has_number places) (Some next) ≡ Some rest
    pub change : IsChange u rest

  -- by the class something is reached from the tree, of which something is kept
  abbrev pub KeepsSome : Outline → ℕ → List ℕ → Type 0
  KeepsSome from class places = (s : Shape ℕ) × (b : ℕ) × IsOfShape from s × HasClass g class b
      × ((a : Option (Grown Part ℕ)) → IsNext g b s a → (rest : Grown Part ℕ)
      × (restrict_if (has_number places) a ≡ Some rest))

  -- what a state does on the bytes of the first n classes
  pub record AreBestTo (n : ℕ) (classes : List ℕ) (states : List LeftState) (s : LeftState)
      (go : List (Option Transition)) : Type 0 where
    pub long : length go ≡ n
    pub does : (b : ℕ) → b < 256 → class_at classes b < n
        → DoesBest g states s b (transition_if (slice_get go (class_at classes b)))

  -- the row of a tree of this shape, with these transitions
  pub record IsRowWith (s : Shape ℕ) (go : List (Option Transition)) (r : Row) : Type 0 where
    pub registers : suc r.registers ≡ size_of s
    pub ends : r.accepting ≡ way_to (first_accepting (node_moves g.nodes) (numbered_tree 0 s))
    pub goes : r.go ≡ go

  -- the rows of the first n states
  pub record AreBestRowsTo (n : ℕ) (classes : List ℕ) (states : List LeftState)
      (rows : List Row) : Type 0 where
    pub count : length rows ≡ n
    pub each : (i : ℕ) (s : LeftState) → i < n → slice_get states i ≡ Some s → (r : Row)
        × (slice_get rows i ≡ Some r) × IsBestRow g classes states s r

-- whatever is left of a table's states, of which this number is s
abbrev pub WhereLeft : Graph → Transducer → List Outline → ℕ
    → (List LeftState → LeftState → Type 0) → Type 0
WhereLeft g t lefts at Says = (k : AreStatesLeft g t lefts) (s : LeftState)
    → slice_get k.left.states at ≡ Some s → Says k.left.states s

-- the update before the first byte
abbrev pub IsBestStart : Graph → Transducer → List LeftState → Change → Type 0
IsBestStart g t states u = BeginsBest g
    (record { classes = t.classes; initial = u; states = t.states }) states
