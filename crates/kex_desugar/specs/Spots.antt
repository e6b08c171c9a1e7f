-- Places by number: each is a frame on the place of another number.
use Rattle.std.specs.Prelude.{◌≡◌, ℕ, List, [], ◌∷◌, ◌++◌, Some, slice_get}
use Rattle.kex_model.specs.Programs.{Grammar}
use Rattle.kex_model.specs.Places.{Place, IsPlace, moves}
use Rattle.kex_model.specs.Alike.{Goes}
use Rattle.kex_machine.specs.Nodes.{move_of}
use Rattle.kex_machine.specs.declared.MNode.{MNode}
use Rattle.kex_desugar.specs.declared.spot.Spot.{Spot}
use Rattle.kex_desugar.specs.declared.spot.Spot.TheVariants.{Empty, On}
use Rattle.kex_desugar.specs.declared.plan.Way.{Way}
use Rattle.kex_desugar.specs.Plans.{frames}

-- the spot is that of the place
abbrev pub SpotIsPlace : List Spot → Spot → Place → Type 0
SpotIsPlace spots s [] = s ≡ Empty
SpotIsPlace spots s (f ∷ p) = (r : ℕ) × (t : Spot) × (s ≡ On f r) × (slice_get spots r ≡ Some t)
    × SpotIsPlace spots t p

-- the spot of number i is that of the place
abbrev pub IsAt : List Spot → Place → ℕ → Type 0
IsAt spots p i = (s : Spot) × (slice_get spots i ≡ Some s) × SpotIsPlace spots s p

-- the spot is that of a place of the stage
abbrev pub IsReal : Grammar → ℕ → List Spot → Spot → Type 0
IsReal P root spots s = (p : Place) × SpotIsPlace spots s p × IsPlace P root p

-- each spot is real, and none is there twice
pub record Real (P : Grammar) (root : ℕ) (spots : List Spot) : Type 0 where
  pub each : (i : ℕ) (s : Spot) → slice_get spots i ≡ Some s → IsReal P root spots s
  pub once : (i j : ℕ) (s : Spot) → slice_get spots i ≡ Some s → slice_get spots j ≡ Some s → i ≡ j

-- what is put on number rest is a place of the stage
abbrev pub IsOnPlace : Grammar → ℕ → List Spot → Way → ℕ → Type 0
IsOnPlace P root spots w rest = (q : Place) × IsAt spots q rest × IsPlace P root (frames w ++ q)

-- the node goes as the place of the spot does
abbrev pub NodeOf : Grammar → List Spot → Spot → MNode → Type 0
NodeOf P spots s m = (p : Place) → SpotIsPlace spots s p
    → Goes (IsAt spots) (moves P p) (move_of (Some m))
