-- The numbers of the shapes that were met.
use Rattle.std.specs.Prelude.{◌≡◌, ℕ, ◌+◌, ◌<◌, List, [], ◌∷◌, ◌++◌, ◌⊎◌, Option, Some, None, map}
use Rattle.std.specs.Prelude.{length, slice_get}
use Rattle.std.specs.Global.{Vec}
use Rattle.kex_byteset.specs.Classes.{class_at, class_count}
use Rattle.kex_code.specs.Codes.{IsAmong, Begins}
use Rattle.kex_model.specs.Labelled.{Shape}
use Rattle.kex_model.specs.States.{AllDifferent}
use Rattle.kex_machine.specs.Nodes.{Graph}
use Rattle.kex_sst.specs.declared.table.Transition.{Transition}
use Rattle.kex_sst.specs.Parts.{Change}
use Rattle.kex_sst.specs.Tables.{Row, transition_if}
use Rattle.kex_paths.specs.Nexts.{Outline, IsOfShape, IsNext, FollowsTree}
use Rattle.kex_paths.specs.Spellings.{key_of}
use Rattle.kex_determine.specs.declared.refusal.DetRefusal.{DetRefusal}
use Rattle.kex_determine.specs.declared.refusal.DetRefusal.TheVariants.{TooManyStates, Memory}
use Rattle.kex_determine.specs.Determined.{targets_of, MeetsInOrder}
use Rattle.kex_determine.specs.Rows.{DoesOn, IsRowOf, IsFound}

abbrev pub texts : List (Vec ℕ) → List (List ℕ)
texts vs = map (λ v. v.items) vs

-- the text is there, or is put at the end
abbrev pub IsAdded : List (List ℕ) → List ℕ → List (List ℕ) → Type 0
IsAdded ts x us = (IsAmong ts x × (us ≡ ts)) ⊎ ((¬ IsAmong ts x) × (us ≡ ts ++ x ∷ []))

-- a tree of the machine, of a shape that was found
pub record IsMet (g : Graph) (tree : Outline) (s : Shape ℕ) : Type 0 where
  pub machine : tree.machine ≡ g
  pub shape : IsOfShape tree s
  pub found : IsFound g s

-- the keys and the trees are those of the shapes, each once
pub record AreNumbered (g : Graph) (keys : List (Vec ℕ)) (trees : List Outline)
    (xs : List (Shape ℕ)) : Type 0 where
  pub keyed : texts keys ≡ map key_of xs
  pub count : length trees ≡ length xs
  pub shaped : (i : ℕ) (s : Shape ℕ) → slice_get xs i ≡ Some s → (t : Outline)
      × (slice_get trees i ≡ Some t) × IsMet g t s
  pub different : AllDifferent xs

-- the shape has this number now: it had it, or it is the next
pub record IsWith (g : Graph) (keys : List (Vec ℕ)) (trees : List Outline) (xs : List (Shape ℕ))
    (s : Shape ℕ) (i : ℕ) (ys : List (Shape ℕ)) : Type 0 where
  pub numbered : AreNumbered g keys trees ys
  pub grown : ((ys ≡ xs) × (i < length xs)) ⊎ ((ys ≡ xs ++ s ∷ []) × (i ≡ length xs))
  pub at : slice_get ys i ≡ Some s

-- more shapes than this were found
pub record HasMoreFound (g : Graph) (most : ℕ) : Type 0 where
  pub shapes : List (Shape ℕ)
  pub more : most < length shapes
  pub different : AllDifferent shapes
  pub each : (s : Shape ℕ) → IsAmong shapes s → IsFound g s

-- too many states are answered only where P holds, with one more than are allowed
abbrev pub Refuses : ℕ → Type 0 → DetRefusal → Type 0
Refuses most P (TooManyStates seen) = (seen ≡ most + 1) × P
Refuses most P Memory = Unit {0}

-- what comes next with byte b, from a tree of shape s
abbrev pub NextIs : Graph → ℕ → Shape ℕ → Option (Outline × Change) → Type 0
NextIs g b s None = IsNext g b s None
NextIs g b s (Some n) = (n.0.machine ≡ g) × FollowsTree n.0 b s n.1

abbrev pub IsMetIf : Graph → Option (Outline × Change) → Type 0
IsMetIf g None = Unit {0}
IsMetIf g (Some r) = (s : Shape ℕ) × IsMet g r.0 s

-- the transition has the update, and its target is the shape's number
abbrev pub HasTarget : List (Shape ℕ) → Option (Outline × Change) → Option Transition → Type 0
HasTarget ys None None = Unit {0}
HasTarget ys (Some n) (Some r) = (r.update ≡ n.1)
    × ((s : Shape ℕ) → IsOfShape n.0 s → slice_get ys r.target ≡ Some s)
HasTarget ys _ _ = ⊥

-- a transition, by which a shape may be met that wasn't before
pub record IsFollowed (g : Graph) (keys : List (Vec ℕ)) (trees : List Outline) (xs : List (Shape ℕ))
    (next : Option (Outline × Change)) (ys : List (Shape ℕ)) (r : Option Transition) : Type 0 where
  pub numbered : AreNumbered g keys trees ys
  pub begins : Begins ys xs
  pub target : HasTarget ys next r
  pub order : MeetsInOrder (length xs) (targets_of (r ∷ [])) (length ys)

-- on each byte of the first n classes a state of shape s does what its transition says
abbrev pub DoOn : Graph → List ℕ → List (Shape ℕ) → Shape ℕ → ℕ → List (Option Transition) → Type 0
DoOn g classes ys s n go = (b : ℕ) → b < 256 → class_at classes b < n
    → DoesOn g ys s b (transition_if (slice_get go (class_at classes b)))

-- the transitions on the first n classes, with the shapes that were met by them
pub record AreTransitionsTo (n : ℕ) (g : Graph) (classes : List ℕ) (keys : List (Vec ℕ))
    (trees : List Outline) (xs ys : List (Shape ℕ)) (s : Shape ℕ)
    (go : List (Option Transition)) : Type 0 where
  pub numbered : AreNumbered g keys trees ys
  pub begins : Begins ys xs
  pub long : length go ≡ n
  pub do_on : DoOn g classes ys s n go
  pub order : MeetsInOrder (length xs) (targets_of go) (length ys)

-- those on all classes
abbrev pub AreTransitions : Graph → List ℕ → List (Vec ℕ) → List Outline → List (Shape ℕ)
    → List (Shape ℕ) → Shape ℕ → List (Option Transition) → Type 0
AreTransitions g classes keys trees xs ys s go =
    AreTransitionsTo (class_count classes) g classes keys trees xs ys s go

-- a state's row, with the shapes that were met by it
pub record IsStateWith (g : Graph) (classes : List ℕ) (keys : List (Vec ℕ)) (trees : List Outline)
    (xs ys : List (Shape ℕ)) (s : Shape ℕ) (row : Row) : Type 0 where
  pub numbered : AreNumbered g keys trees ys
  pub begins : Begins ys xs
  pub row_of : IsRowOf g classes ys s row
  pub order : MeetsInOrder (length xs) (targets_of row.go) (length ys)

-- whatever shapes the states have, of which this number has the shape s
abbrev pub WhereNumbered : Graph → List (Vec ℕ) → List Outline → ℕ
    → (List (Shape ℕ) → Shape ℕ → Type 0) → Type 0
WhereNumbered g keys trees at Says = (xs : List (Shape ℕ)) (s : Shape ℕ)
    → AreNumbered g keys trees xs → slice_get xs at ≡ Some s → Says xs s
