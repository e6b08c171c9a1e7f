-- The tests of which leaves of a stage's states are covered: how many pairs they have, said of
-- places; and that each machine of the stage has as many.
use Rattle.std.specs.Prelude.{◌≡◌, ◌↔◌, ◌<◌, ℕ, List, [], ◌∷◌, ◌++◌, length}
use Rattle.kex_code.specs.Codes.{bytes_of, IsAmong}
use Rattle.kex_model.specs.Programs.{Grammar}
use Rattle.kex_model.specs.Labelled.{Shape, place, parts}
use Rattle.kex_model.specs.Moves.{Move, Step, code_of, Walk, Waits}
use Rattle.kex_model.specs.Places.{moves, start_of}
use Rattle.kex_model.specs.Survivors.{LeadsToEnd}
use Rattle.kex_model.specs.States.{IsState}
use Rattle.kex_machine.specs.Nodes.{Graph}
use Rattle.kex_lowering.specs.Stages.{IsKeptOf}
use Rattle.kex_cover.specs.Optimal.{EachAsksAtMost, SomeAsksMore}

-- ---- pairs

-- two sets of places, each as a list in whatever order
pub record TwoSets (S : Type 0) : Type 0 where
  pub first : List S
  pub second : List S

abbrev pub SameMembers : {S : Type 0} → List S → List S → Type 0
SameMembers {S} xs ys = (q : S) → IsAmong xs q ↔ IsAmong ys q

abbrev pub SameSets : {S : Type 0} → TwoSets S → TwoSets S → Type 0
SameSets u v = SameMembers u.first v.first × SameMembers u.second v.second

-- no two are the same sets
abbrev pub AllApart : {S : Type 0} → List (TwoSets S) → Type 0
AllApart [] = Unit {0}
AllApart {S} (u ∷ us) = ((v : TwoSets S) → IsAmong us v → SameSets u v → ⊥) × AllApart us

-- the places of a shape, in order
abbrev pub leaves_in : {S : Type 0} → Shape S → List S
leaves_in (place p) = p ∷ []
leaves_in (parts l r) = leaves_in l ++ leaves_in r

-- where texts lead from places is what `leads` says
module _ {S : Type 0} (leads : S → List ℕ → S → Type 0) where
  -- exactly the places to which x leads from some of these
  pub record AreLedTo (from : List S) (x : List ℕ) (to : List S) : Type 0 where
    pub real : (q : S) → IsAmong to q → (p : S) × IsAmong from p × leads p x q
    pub all : (p q : S) → IsAmong from p → leads p x q → IsAmong to q

  -- a pair of the place p and the places Q: where some text leads from p, and where from Q; there
  -- is a place to which it leads from p
  abbrev pub IsPairBy : S → List S → TwoSets S → Type 0
  IsPairBy p Q u = (x : List ℕ) × AreLedTo (p ∷ []) x u.first × AreLedTo Q x u.second
      × (u.first ≡ [] → ⊥)

  -- there are more than n pairs
  abbrev pub HasMorePairsThan : S → List S → ℕ → Type 0
  HasMorePairsThan p Q n = (us : List (TwoSets S)) × (n < length us) × AllApart us
      × ((u : TwoSets S) → IsAmong us u → IsPairBy p Q u)

  -- of some shape the test of a leaf but the first, against all leaves before it, has more pairs
  abbrev pub SomeTestHasMore : (Shape S → Type 0) → ℕ → Type 0
  SomeTestHasMore IsOne most = (s : Shape S) × IsOne s × ((front : List S) × (p : S)
      × (back : List S) × (leaves_in s ≡ front ++ p ∷ back) × (front ≡ [] → ⊥)
      × HasMorePairsThan p front most)

-- ---- stages

-- q waits, it is reached from p by x, and from it the end is reached
abbrev pub LeadsAlive : {S : Type 0} → (S → Move S) → S → List ℕ → S → Type 0
LeadsAlive {S} f p x q = ((ks : List (Step S)) × Walk f p ks q × Waits f q
    × (bytes_of (code_of ks) ≡ x)) × LeadsToEnd f q

-- in some state of the stage the test of a leaf against those before it has more pairs
abbrev pub HasTooManyPairs : Grammar → ℕ → ℕ → Type 0
HasTooManyPairs P root most = SomeTestHasMore (λ p x q. LeadsAlive (moves P) p x q)
    (λ s. IsState (moves P) (start_of P root) s) most

-- the machine tells whether the stage has too many
pub record AsksAsItsStage (P : Grammar) (root : ℕ) (m : Graph) (most : ℕ) : Type 0 where
  pub more : HasTooManyPairs P root most ↔ SomeAsksMore m most
  pub fits : EachAsksAtMost m most → HasTooManyPairs P root most → ⊥

abbrev pub MachinesAskAsTheirStage : Type 0
MachinesAskAsTheirStage = (P : Grammar) (root : ℕ) (m : Graph) (most : ℕ) → IsKeptOf P root m
    → AsksAsItsStage P root m most

-- so of two machines of a stage the one asks more where the other does
abbrev pub MachinesAskAlike : Type 0
MachinesAskAlike = (P : Grammar) (root : ℕ) (m m' : Graph) (most : ℕ) → IsKeptOf P root m
    → IsKeptOf P root m' → SomeAsksMore m most → SomeAsksMore m' most
