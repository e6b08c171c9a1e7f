-- Sets of waiting places, as lists that fall; the pairs of them that texts lead to; and which place
-- is covered by others.
use Rattle.std.specs.Prelude.{◌≡◌, ℕ, ◌<◌, List, [], ◌∷◌, length}
use Rattle.kex_code.specs.Codes.{bytes_of, IsAmong}
use Rattle.kex_model.specs.Moves.{accept, Step, took, Allows, code_of, Walk, Waits}
use Rattle.kex_model.specs.States.{AllDifferent}
use Rattle.kex_machine.specs.Nodes.{Graph, node_moves}
use Rattle.kex_machine.specs.Covering.{EndsBy}

-- the numbers fall, so each is there once
abbrev pub Falls : List ℕ → Type 0
Falls [] = Unit {0}
Falls (x ∷ xs) = ((y : ℕ) → IsAmong xs y → y < x) × Falls xs

-- two sets of places
pub record PlaceSets : Type 0 where
  pub first : List ℕ
  pub second : List ℕ

-- the same places, each once
pub record IsPlaceSetOf (xs set : List ℕ) : Type 0 where
  pub falls : Falls set
  pub real : (q : ℕ) → IsAmong set q → IsAmong xs q
  pub all : (q : ℕ) → IsAmong xs q → IsAmong set q

module _ (g : Graph) where
  -- the waiting place q is reached from p by x
  abbrev pub GetsTo : ℕ → List ℕ → ℕ → Type 0
  GetsTo p x q = (ks : List (Step ℕ)) × Walk (node_moves g.nodes) p ks q
      × Waits (node_moves g.nodes) q × (bytes_of (code_of ks) ≡ x)

  -- exactly the waiting places that are reached by x from some of these, each once
  pub record AreReached (from : List ℕ) (x : List ℕ) (to : List ℕ) : Type 0 where
    pub falls : Falls to
    pub real : (q : ℕ) → IsAmong to q → (p : ℕ) × IsAmong from p × GetsTo p x q
    pub all : (p q : ℕ) → IsAmong from p → GetsTo p x q → IsAmong to q

  -- a pair of the place p and the places Q: what some text leads to from p, and from some of Q;
  -- from p to some place
  abbrev pub IsPair : ℕ → List ℕ → PlaceSets → Type 0
  IsPair p Q u = (x : List ℕ) × AreReached (p ∷ []) x u.first × AreReached Q x u.second
      × (u.first ≡ [] → ⊥)

  -- there are more than n pairs
  abbrev pub HasMorePairs : ℕ → List ℕ → ℕ → Type 0
  HasMorePairs p Q n = (us : List PlaceSets) × (n < length us) × AllDifferent us
      × ((u : PlaceSets) → IsAmong us u → IsPair p Q u)

  -- there are exactly n pairs
  pub record HasPairs (p : ℕ) (Q : List ℕ) (n : ℕ) : Type 0 where
    pub pairs : List PlaceSets
    pub count : n ≡ length pairs
    pub different : AllDifferent pairs
    pub each : (u : PlaceSets) → IsAmong pairs u → IsPair p Q u
    pub all : (u : PlaceSets) → IsPair p Q u → IsAmong pairs u

  -- the end is among the places
  abbrev pub HoldsEnd : List ℕ → Type 0
  HoldsEnd qs = (e : ℕ) × IsAmong qs e × (node_moves g.nodes e ≡ accept)

  -- in each pair whose first part holds the end the second holds it too
  abbrev pub PairsHold : ℕ → List ℕ → Type 0
  PairsHold p Q = (u : PlaceSets) → IsPair p Q u → HoldsEnd u.first → HoldsEnd u.second

  -- every text that leads from p to the end leads there from some of Q
  abbrev pub IsCoveredBy : ℕ → List ℕ → Type 0
  IsCoveredBy p Q = (x : List ℕ) → EndsBy g p x → (q : ℕ) × IsAmong Q q × EndsBy g q x

  -- some text leads from p to the end, and from none of Q
  abbrev pub IsUncoveredBy : ℕ → List ℕ → Type 0
  IsUncoveredBy p Q = (x : List ℕ) × EndsBy g p x
      × ((q : ℕ) → IsAmong Q q → EndsBy g q x → ⊥)

  -- q is reached from some of these places by a byte
  abbrev pub IsReachedBy : List ℕ → ℕ → ℕ → Type 0
  IsReachedBy from b q = (p : ℕ) × IsAmong from p × ((t : ℕ)
      × Allows (node_moves g.nodes p) (took b t) × ((ks : List (Step ℕ))
      × Walk (node_moves g.nodes) t ks q × (bytes_of (code_of ks) ≡ [])))

  -- exactly the waiting places that are reached from some of these by a byte, each once
  pub record ArePlacesAfter (from : List ℕ) (b : ℕ) (to : List ℕ) : Type 0 where
    pub falls : Falls to
    pub real : (q : ℕ) → IsAmong to q → IsReachedBy from b q × Waits (node_moves g.nodes) q
    pub all : (q : ℕ) → IsReachedBy from b q → Waits (node_moves g.nodes) q → IsAmong to q
