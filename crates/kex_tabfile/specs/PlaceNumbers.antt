-- The numbers of a machine's places: breadth first from its start, the left side before the right.
use Rattle.std.specs.Prelude.{◌≡◌, ℕ, suc, ◌<◌, List, [], ◌∷◌, ◌++◌, ◌⊎◌, Some, length, slice_get}
use Rattle.std.specs.Prelude.{get_or}
use Rattle.kex_code.specs.Codes.{IsAmong, Different}
use Rattle.kex_model.specs.Moves.{Move, accept, read, choose, forced, go}
use Rattle.kex_machine.specs.Nodes.{Graph, node_moves}

-- where a place leads, the left side first
abbrev pub nexts_of : Move ℕ → List ℕ
nexts_of accept = []
nexts_of (read set t) = t ∷ []
nexts_of (choose l r) = l ∷ r ∷ []
nexts_of (forced x t) = t ∷ []
nexts_of (go e t) = t ∷ []

-- a place that is met is in the order, or is put at its end
abbrev pub MeetsPlace : List ℕ → ℕ → List ℕ → Type 0
MeetsPlace order p after = (IsAmong order p × (after ≡ order))
    ⊎ ((IsAmong order p → ⊥) × (after ≡ order ++ p ∷ []))

-- places that are met, one after the other
abbrev pub MeetsPlaces : List ℕ → List ℕ → List ℕ → Type 0
MeetsPlaces order [] after = after ≡ order
MeetsPlaces order (p ∷ ps) after = (more : List ℕ) × MeetsPlace order p more
    × MeetsPlaces more ps after

-- the places that a walk from the start has met, in their order, and how many of them it left
pub data WalksPlaces (g : Graph) : ℕ → List ℕ → Type 0 where
  begins : WalksPlaces g 0 (g.start ∷ [])
  leaves : {k p : ℕ} {order after : List ℕ} → WalksPlaces g k order → slice_get order k ≡ Some p
      → MeetsPlaces order (nexts_of (node_moves g.nodes p)) after → WalksPlaces g (suc k) after

-- each place of the order has its number in the list, and each other the count of places
pub record GivesNumbers (count : ℕ) (order numbers : List ℕ) : Type 0 where
  pub long : length numbers ≡ count
  pub each : (n p : ℕ) → slice_get order n ≡ Some p → get_or numbers p 0 ≡ n
  pub others : (p : ℕ) → p < count → (IsAmong order p → ⊥) → get_or numbers p 0 ≡ count

-- the numbers of the places, by node
pub record ArePlaceNumbers (g : Graph) (numbers : List ℕ) : Type 0 where
  pub order : List ℕ
  pub walked : WalksPlaces g (length order) order
  pub given : GivesNumbers (length g.nodes) order numbers

-- ---- how the code walks

-- the numbers of different places, each below the count
pub record IsOrder (order numbers : List ℕ) : Type 0 where
  pub given : GivesNumbers (length numbers) order numbers
  pub different : Different order
  pub below : (p : ℕ) → IsAmong order p → p < length numbers
  pub few : length numbers < 4294967296
