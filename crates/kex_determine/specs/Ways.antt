-- A walk to the first leaf that accepts: where it is, and what is still to come.
use Rattle.std.specs.Prelude.{◌≡◌, ℕ, ◌+◌, ◌-◌, Bool, List, [], ◌∷◌, ◌++◌, Option, Some, None, map}
use Rattle.std.specs.Prelude.{length, drop}
use Rattle.kex_code.specs.Codes.{Begins}
use Rattle.kex_model.specs.Moves.{Move}
use Rattle.kex_model.specs.Labelled.{Shape, size_of, Grown}
use Rattle.kex_machine.specs.Advancing.{first_accepting, EachPlace}
use Rattle.kex_sst.specs.declared.parts.Part.{Part}
use Rattle.kex_sst.specs.declared.parts.Part.TheVariants.{Old}
use Rattle.kex_sst.specs.Parts.{numbered_tree}
use Rattle.kex_paths.specs.Nexts.{inner_of, places_of}

-- the right side of a fork that is still to come, and the way to the fork
pub record RightSide : Type 0 where
  pub before : List ℕ
  pub shape : Shape ℕ

abbrev pub inner_in_sides : List RightSide → List Bool
inner_in_sides [] = []
inner_in_sides (x ∷ rest) = inner_of x.shape ++ inner_in_sides rest

abbrev pub places_in_sides : List RightSide → List ℕ
places_in_sides [] = []
places_in_sides (x ∷ rest) = places_of x.shape ++ places_in_sides rest

abbrev pub EachSide : ℕ → List RightSide → Type 0
EachSide m [] = Unit {0}
EachSide m (x ∷ rest) = EachPlace m x.shape × EachSide m rest

-- the forks by how long the way to each is, the last the deepest; each lies on the way
abbrev pub AreForks : List ℕ → List ℕ → List RightSide → Type 0
AreForks way forks [] = forks ≡ []
AreForks way forks (x ∷ rest) = (more : List ℕ) × (forks ≡ more ++ length x.before ∷ [])
    × Begins way x.before × AreForks x.before more rest

abbrev pub either : Option (List Part) → Option (List Part) → Option (List Part)
either None o = o
either (Some way) o = Some way

-- after a way
abbrev pub onward : List ℕ → Option (Grown Part ℕ) → Option (List Part)
onward way None = None
onward way (Some a) = Some (map (λ i. Old i) way ++ a.label)

module _ (moves : ℕ → Move ℕ) where
  -- the first way to the end, from node k on
  abbrev pub from_sides : ℕ → List RightSide → Option (List Part)
  from_sides k [] = None
  from_sides k (x ∷ rest) = either (onward (x.before ++ (k - 1) ∷ [])
      (first_accepting moves (numbered_tree k x.shape))) (from_sides (k + size_of x.shape) rest)

  abbrev pub from_here : ℕ → List ℕ → Shape ℕ → List RightSide → Option (List Part)
  from_here k way s rest = either (onward way (first_accepting moves (numbered_tree k s)))
      (from_sides (k + size_of s) rest)

-- at node k, after `leaf` leaves: what is still to come has the whole tree's way to the end
pub record IsOnWay (moves : ℕ → Move ℕ) (m : ℕ) (shape : List Bool) (leaves : List ℕ)
    (whole : Option (List Part)) (k leaf : ℕ) (way forks : List ℕ) : Type 0 where
  pub here : Shape ℕ
  pub sides : List RightSide
  pub inner : drop k shape ≡ inner_of here ++ inner_in_sides sides
  pub places : drop leaf leaves ≡ places_of here ++ places_in_sides sides
  pub below : EachPlace m here
  pub each : EachSide m sides
  pub forked : AreForks way forks sides
  pub answer : whole ≡ from_here moves k way here sides
