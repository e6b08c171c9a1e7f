-- What a search over pairs keeps.
use Rattle.std.specs.Prelude.{◌≡◌, ℕ, ◌+◌, ◌/◌, ◌<◌, ◌≤◌, true, List, [], ◌∷◌, ◌++◌}
use Rattle.std.specs.Prelude.{◌⊎◌}
use Rattle.std.specs.Prelude.{Option, Some, MatchBool, map, length, slice_get, get_or}
use Rattle.kex_code.specs.Codes.{Begins, IsAmong}
use Rattle.kex_model.specs.Moves.{accept, took, Allows, Waits}
use Rattle.kex_model.specs.States.{AllDifferent}
use Rattle.kex_machine.specs.declared.MNode.{MNode}
use Rattle.kex_machine.specs.Nodes.{Graph, HasClasses, node_moves}
use Rattle.kex_frontier.specs.Rows.{has_mark, IsReachedQuietly}
use Rattle.kex_paths.specs.Workspaces.{AreSamples}
use Rattle.kex_determine.specs.Numbering.{texts}
use Rattle.kex_cover.specs.declared.pairs.SetPair.{SetPair}
use Rattle.kex_cover.specs.declared.pairs.Pairs.{Pairs}
use Rattle.kex_cover.specs.declared.met_sets.MetSet.{MetSet}
use Rattle.kex_cover.specs.declared.met_sets.MetSets.{MetSets}
use Rattle.kex_cover.specs.declared.sets.MarkPair.{MarkPair}
use Rattle.kex_cover.specs.declared.fault.CoverFault.{CoverFault}
use Rattle.kex_cover.specs.declared.fault.CoverFault.TheVariants.{TooManyPairs, Memory}
use Rattle.kex_cover.specs.Pairs.{Falls, PlaceSets, IsPair, HasMorePairs, ArePlacesAfter}

-- ---- sets

-- each is a number of a node that waits
abbrev pub AreWaiting : Graph → List ℕ → Type 0
AreWaiting g xs = (p : ℕ) → IsAmong xs p → (p < length g.nodes) × Waits (node_moves g.nodes) p

abbrev pub AreWithin : ℕ → List ℕ → Type 0
AreWithin n xs = (p : ℕ) → IsAmong xs p → p < n

-- both rows have room for `count` places
abbrev pub HaveRoom : ℕ → MarkPair → Type 0
HaveRoom count rows = (count / 64 < length rows.from)
    × (length rows.reached ≡ length rows.from)

-- the marks are those of these places
pub record AreMarksOf (xs row : List ℕ) : Type 0 where
  pub real : (t : ℕ) → has_mark row t ≡ true → IsAmong xs t
  pub all : (t : ℕ) → IsAmong xs t → has_mark row t ≡ true

-- the waiting places that are marked, each once
pub record IsListOf (nodes : List MNode) (row : List ℕ) (xs : List ℕ) : Type 0 where
  pub falls : Falls xs
  pub real : (q : ℕ) → IsAmong xs q → (q < length nodes) × (has_mark row q ≡ true)
      × Waits (node_moves nodes) q
  pub all : (q : ℕ) → q < length nodes → has_mark row q ≡ true → Waits (node_moves nodes) q
      → IsAmong xs q

-- q is reached from some of these places by a byte
abbrev pub IsWayFrom : List MNode → List ℕ → ℕ → ℕ → Type 0
IsWayFrom nodes from b q = (p : ℕ) × IsAmong from p
    × ((t : ℕ) × Allows (node_moves nodes p) (took b t) × IsReachedQuietly nodes t q)

-- the marks are those of the places that are reached from some of these by a byte
pub record IsMarkedAfter (nodes : List MNode) (from : List ℕ) (b : ℕ) (row : List ℕ) : Type 0 where
  pub real : (q : ℕ) → has_mark row q ≡ true → IsWayFrom nodes from b q
  pub all : (q : ℕ) → IsWayFrom nodes from b q → has_mark row q ≡ true

-- a node at which a text ends is among the places
abbrev pub HasEnd : List MNode → List ℕ → Type 0
HasEnd nodes places = (e : ℕ) × IsAmong places e × (node_moves nodes e ≡ accept)

-- ---- the sets that were met, by number

abbrev pub met_sets : MetSets → List (List ℕ)
met_sets s = texts s.sets.keys

-- the set of this number is what a set leads to by a byte
abbrev pub IsWayTo : Graph → List (List ℕ) → List ℕ → ℕ → ℕ → Type 0
IsWayTo g sets from b to = (x : List ℕ) × (slice_get sets to ≡ Some x) × ArePlacesAfter g from b x

-- of each class that has a byte one is among these
pub record AreClassBytes (g : Graph) (bytes : List ℕ) : Type 0 where
  pub classes : List ℕ
  pub has : HasClasses g.nodes classes
  pub samples : List (Option ℕ)
  pub are : AreSamples classes samples
  pub listed : (k b : ℕ) → slice_get samples k ≡ Some (Some b) → IsAmong bytes b

-- of the first n samples those that there are are among these
abbrev pub AreListedTo : ℕ → List (Option ℕ) → List ℕ → Type 0
AreListedTo n samples bytes = (k b : ℕ) → k < n → slice_get samples k ≡ Some (Some b)
    → IsAmong bytes b

-- whether a set holds the end, and where it leads by a byte of each class, so far as that is known
pub record IsMetSet (g : Graph) (sets : List (List ℕ)) (bytes : List ℕ) (x : List ℕ)
    (set : MetSet) : Type 0 where
  pub end : MatchBool set.end (HasEnd g.nodes x) (HasEnd g.nodes x → ⊥)
  pub long : length set.ways.items ≡ length bytes
  pub ways : (k b to : ℕ) → slice_get bytes k ≡ Some b
      → slice_get set.ways.items k ≡ Some (Some to) → IsWayTo g sets x b to

-- the sets are of numbers of nodes, each once, and what is known of each is so
pub record AreSetsMet (g : Graph) (s : MetSets) : Type 0 where
  pub rooms : HaveRoom (length g.nodes) s.rows
  pub bytes : AreClassBytes g s.bytes.items
  pub within : (x : List ℕ) → IsAmong (met_sets s) x → AreWithin (length g.nodes) x
  pub different : AllDifferent (met_sets s)
  pub count : length s.met.items ≡ length (met_sets s)
  pub each : (i : ℕ) (x : List ℕ) (set : MetSet) → slice_get (met_sets s) i ≡ Some x
      → slice_get s.met.items i ≡ Some set
      → IsMetSet g (met_sets s) s.bytes.items x set

-- ---- the pairs that were met

-- the sets of a pair of numbers
abbrev pub pair_sets : List (List ℕ) → SetPair → PlaceSets
pair_sets sets p = record { first = get_or sets p.first []; second = get_or sets p.second [] }

abbrev pub all_pair_sets : List (List ℕ) → List SetPair → List PlaceSets
all_pair_sets sets ps = map (pair_sets sets) ps

-- the pairs of a search
abbrev pub pairs_met : MetSets → Pairs → List PlaceSets
pairs_met s p = all_pair_sets (met_sets s) p.met.keys

-- both numbers are those of sets
abbrev pub HasNumbers : List (List ℕ) → SetPair → Type 0
HasNumbers sets p = (p.first < length sets) × (p.second < length sets)

-- it is there, or is put at the end
abbrev pub IsEntered : {A : Type 0} → List A → A → List A → Type 0
IsEntered us u vs = (IsAmong us u × (vs ≡ us)) ⊎ ((¬ IsAmong us u) × (vs ≡ us ++ u ∷ []))

-- too many pairs are answered only where P holds, with one more than are allowed
abbrev pub RefusesPairs : ℕ → Type 0 → CoverFault → Type 0
RefusesPairs most P (TooManyPairs seen) = (seen ≡ most + 1) × P
RefusesPairs most P Memory = Unit {0}

-- ---- the search

module _ (g : Graph) where
  -- what a pair leads to by a byte is among these, or nothing is reached from its first part
  abbrev pub IsDoneFor : List PlaceSets → PlaceSets → ℕ → Type 0
  IsDoneFor us u b = (first : List ℕ) × ArePlacesAfter g u.first b first × ((first ≡ [])
      ⊎ ((second : List ℕ) × ArePlacesAfter g u.second b second
      × IsAmong us (record { first = first; second = second })))

  -- these are pairs of p and Q
  abbrev pub ArePairs : ℕ → List ℕ → List PlaceSets → Type 0
  ArePairs p Q us = (u : PlaceSets) → IsAmong us u → IsPair g p Q u

-- the first part of a pair holds the end, and the second doesn't
abbrev pub Fails : List MNode → PlaceSets → Type 0
Fails nodes u = HasEnd nodes u.first × (HasEnd nodes u.second → ⊥)

abbrev pub Holds : List MNode → PlaceSets → Type 0
Holds nodes u = HasEnd nodes u.first → HasEnd nodes u.second

abbrev pub AllHold : Graph → List PlaceSets → Type 0
AllHold g us = (u : PlaceSets) → IsAmong us u → Holds g.nodes u

abbrev pub SomeFails : Graph → List PlaceSets → Type 0
SomeFails g us = (u : PlaceSets) × IsAmong us u × Fails g.nodes u

-- what a pair leads to by a byte, which is something
pub record IsNextPair (g : Graph) (u : PlaceSets) (b : ℕ) (v : PlaceSets) : Type 0 where
  pub first : ArePlacesAfter g u.first b v.first
  pub second : ArePlacesAfter g u.second b v.second
  pub some : v.first ≡ [] → ⊥

-- the sets that were met, and the pairs: no more than there may be, each once, of numbers of sets
pub record ArePairsKept (g : Graph) (s : MetSets) (p : Pairs) : Type 0 where
  pub sets : AreSetsMet g s
  pub within : length p.met.keys ≤ p.most
  pub different : AllDifferent p.met.keys
  pub numbered : (q : SetPair) → IsAmong p.met.keys q → HasNumbers (met_sets s) q

-- more pairs were met; if the old were pairs of a place and others, so are the new
pub record GrowsPairs (g : Graph) (us vs : List PlaceSets) : Type 0 where
  pub begins : Begins vs us
  pub real : (leaf : ℕ) (before : List ℕ) → ArePairs g leaf before us → ArePairs g leaf before vs

abbrev pub HasMoreFrom : Graph → ℕ → List PlaceSets → Type 0
HasMoreFrom g most us = (leaf : ℕ) (before : List ℕ) → ArePairs g leaf before us
    → HasMorePairs g leaf before most

-- what this pair leads to by the first n bytes is among the pairs
abbrev pub IsPairFollowedTo : ℕ → Graph → List ℕ → List PlaceSets → List PlaceSets → ℕ → Type 0
IsPairFollowedTo n g bytes us vs at = (u : PlaceSets) (k b : ℕ) → k < n → slice_get us at ≡ Some u
    → slice_get bytes k ≡ Some b → IsDoneFor g vs u b

abbrev pub IsPairFollowed : Graph → List ℕ → List PlaceSets → List PlaceSets → ℕ → Type 0
IsPairFollowed g bytes us vs at = (u : PlaceSets) (k b : ℕ) → slice_get us at ≡ Some u
    → slice_get bytes k ≡ Some b → IsDoneFor g vs u b
