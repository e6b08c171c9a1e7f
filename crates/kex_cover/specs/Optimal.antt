-- The table that passes on what is best: its states are those of a machine's table, with the
-- covered leaves left out.
use Rattle.std.specs.Prelude.{◌≡◌, ℕ, suc, ◌+◌, ◌<◌, ◌≤◌, ◌==◌, Bool, true, false, List, [], ◌∷◌}
use Rattle.std.specs.Prelude.{◌++◌, Option, Some, None, MatchBool, length, map, slice_get}
use Rattle.std.specs.Prelude.{if◌then◌else◌}
use Rattle.kex_byteset.specs.Classes.{class_at, class_count}
use Rattle.kex_code.specs.Codes.{IsAmong}
use Rattle.kex_model.specs.Labelled.{Shape, shape_of, size_of, Grown}
use Rattle.kex_model.specs.States.{AllDifferent, IsState, HasStates, HasMoreStates}
use Rattle.kex_machine.specs.Nodes.{Graph, node_moves}
use Rattle.kex_machine.specs.Advancing.{first_accepting}
use Rattle.kex_machine.specs.Covering.{restrict_if}
use Rattle.kex_sst.specs.declared.parts.Part.{Part}
use Rattle.kex_sst.specs.declared.table.Transition.{Transition}
use Rattle.kex_sst.specs.Parts.{numbered_tree}
use Rattle.kex_sst.specs.Tables.{Row, Transducer, transition_if}
use Rattle.kex_paths.specs.KeptLeaves.{restrict_shape}
use Rattle.kex_paths.specs.Nexts.{IsFirstTree, IsNext, IsChange, places_of}
use Rattle.kex_determine.specs.declared.refusal.DetRefusal.{DetRefusal}
use Rattle.kex_determine.specs.declared.refusal.DetRefusal.TheVariants as states
use Rattle.kex_determine.specs.Rows.{way_to}
use Rattle.kex_cover.specs.declared.fault.CoverFault.{CoverFault}
use Rattle.kex_cover.specs.declared.fault.CoverFault.TheVariants as pairs
use Rattle.kex_cover.specs.declared.refusal.CoverRefusal.{CoverRefusal}
use Rattle.kex_cover.specs.declared.refusal.CoverRefusal.TheVariants.{TooManyStates, TooManyPairs}
use Rattle.kex_cover.specs.declared.refusal.CoverRefusal.TheVariants.{Memory}
use Rattle.kex_cover.specs.Pairs.{HasMorePairs, HasPairs, IsCoveredBy, IsUncoveredBy}

-- ---- what is left of a state

-- the shape of a text's whole tree, and of the tree of its leaves that aren't covered
pub record LeftState : Type 0 where
  pub whole : Shape ℕ
  pub left : Shape ℕ

abbrev pub wholes : List LeftState → List (Shape ℕ)
wholes states = map (λ s. s.whole) states

-- whether a number is among these
abbrev pub has_number : List ℕ → ℕ → Bool
has_number [] p = false
has_number (x ∷ xs) p = if x == p then true else has_number xs p

abbrev pub has_place : Shape ℕ → ℕ → Bool
has_place s p = has_number (places_of s) p

-- left is the tree of those leaves that the leaves before them don't cover
pub record IsLeftState (g : Graph) (s : LeftState) : Type 0 where
  pub tells : (front : List ℕ) (p : ℕ) (back : List ℕ) → places_of s.whole ≡ front ++ p ∷ back
      → MatchBool (has_place s.left p) (IsUncoveredBy g p front) (IsCoveredBy g p front)
  pub left_is : restrict_shape (has_place s.left) s.whole ≡ Some s.left

-- ---- the rows

-- the byte leads from the whole tree to that of the target, and from the tree that is left to
-- `next`; the update is that of `next` with what isn't left of the target's tree left out
pub record IsBestTransition (g : Graph) (states : List LeftState) (s : LeftState) (b : ℕ)
    (r : Transition) : Type 0 where
  pub whole : Grown Part ℕ
  pub is_whole : IsNext g b s.whole (Some whole)
  pub next : Grown Part ℕ
  pub is_next : IsNext g b s.left (Some next)
  pub to : LeftState
  pub at : slice_get states r.target ≡ Some to
  pub whole_is : shape_of whole.tree ≡ to.whole
  pub rest : Grown Part ℕ
  pub is_rest : restrict_if (has_place to.left) (Some next) ≡ Some rest
  pub left_is : shape_of rest.tree ≡ to.left
  pub change : IsChange r.update rest

-- what a state does on a byte
abbrev pub DoesBest : Graph → List LeftState → LeftState → ℕ → Option Transition → Type 0
DoesBest g states s b None = IsNext g b s.whole None
DoesBest g states s b (Some r) = IsBestTransition g states s b r

-- the row of a state: its registers are the edges of the tree that is left
pub record IsBestRow (g : Graph) (classes : List ℕ) (states : List LeftState) (s : LeftState)
    (r : Row) : Type 0 where
  pub registers : suc r.registers ≡ size_of s.left
  pub long : length r.go ≡ class_count classes
  pub ends : r.accepting ≡ way_to (first_accepting (node_moves g.nodes) (numbered_tree 0 s.left))
  pub does : (b : ℕ) → b < 256
      → DoesBest g states s b (transition_if (slice_get r.go (class_at classes b)))

-- the state of the empty text, and the update before the first byte
pub record BeginsBest (g : Graph) (t : Transducer) (states : List LeftState) : Type 0 where
  pub first : Grown Part ℕ
  pub is_first : IsFirstTree g (Some first)
  pub state : LeftState
  pub at : slice_get states 0 ≡ Some state
  pub whole_is : shape_of first.tree ≡ state.whole
  pub rest : Grown Part ℕ
  pub is_rest : restrict_if (has_place state.left) (Some first) ≡ Some rest
  pub left_is : shape_of rest.tree ≡ state.left
  pub change : IsChange t.initial rest

-- the rows are those of these states
pub record AreBestRows (g : Graph) (t : Transducer) (states : List LeftState) : Type 0 where
  pub count : length t.states ≡ length states
  pub each : (i : ℕ) (s : LeftState) → slice_get states i ≡ Some s → IsLeftState g s
  pub begins : BeginsBest g t states
  pub rows : (i : ℕ) (s : LeftState) → slice_get states i ≡ Some s → (r : Row)
      × (slice_get t.states i ≡ Some r) × IsBestRow g t.classes states s r

-- the states are exactly the shapes of the texts, each once, with the covered leaves left out
pub record IsOptimal (g : Graph) (t : Transducer) : Type 0 where
  pub states : List LeftState
  pub rows : AreBestRows g t states
  pub different : AllDifferent (wholes states)
  pub each : (s : Shape ℕ) → IsAmong (wholes states) s → IsState (node_moves g.nodes) g.start s
  pub all : (s : Shape ℕ) → IsState (node_moves g.nodes) g.start s → IsAmong (wholes states) s

-- ---- how much is asked

module _ (g : Graph) (most : ℕ) where
  -- the tests of all leaves but the first, each against all leaves before it, have at most `most`
  -- pairs
  abbrev pub AsksAtMost : List ℕ → Type 0
  AsksAtMost leaves = (front : List ℕ) (p : ℕ) (back : List ℕ) → leaves ≡ front ++ p ∷ back
      → (front ≡ [] → ⊥) → (n : ℕ) × (n ≤ most) × HasPairs g p front n

  -- one of them has more
  abbrev pub AsksMore : List ℕ → Type 0
  AsksMore leaves = (front : List ℕ) × (p : ℕ) × (back : List ℕ) × (leaves ≡ front ++ p ∷ back)
      × (front ≡ [] → ⊥) × HasMorePairs g p front most

  abbrev pub EachAsksAtMost : Type 0
  EachAsksAtMost = (s : Shape ℕ) → IsState (node_moves g.nodes) g.start s
      → AsksAtMost (places_of s)

  abbrev pub SomeAsksMore : Type 0
  SomeAsksMore = (s : Shape ℕ) × IsState (node_moves g.nodes) g.start s × AsksMore (places_of s)

-- ---- refusals

abbrev pub refusal_by_states : DetRefusal → CoverRefusal
refusal_by_states (states.TooManyStates seen) = TooManyStates seen
refusal_by_states states.Memory = Memory

abbrev pub refusal_by_pairs : CoverFault → CoverRefusal
refusal_by_pairs (pairs.TooManyPairs seen) = TooManyPairs seen
refusal_by_pairs pairs.Memory = Memory

-- there is no table: there are more states than are allowed, or no more, but some test has more
-- pairs; what was seen is one more than are allowed
abbrev pub RefusesOptimal : Graph → ℕ → ℕ → CoverRefusal → Type 0
RefusesOptimal g most_states most_pairs (TooManyStates seen) = (seen ≡ most_states + 1)
    × HasMoreStates (node_moves g.nodes) g.start most_states
RefusesOptimal g most_states most_pairs (TooManyPairs seen) = (seen ≡ most_pairs + 1)
    × ((n : ℕ) × (n ≤ most_states) × HasStates (node_moves g.nodes) g.start n)
    × SomeAsksMore g most_pairs
RefusesOptimal g most_states most_pairs Memory = Unit {0}
