-- What a code does between two nodes, and what table registers hold.
use Rattle.std.specs.Prelude.{ℕ, List, [], ◌∷◌, ◌++◌, Option, Some, None, slice_get}
use Rattle.kex_code.specs.declared.symbol.Symbol.{Symbol}
use Rattle.kex_machine.specs.declared.MNode.{MNode}
use Rattle.kex_action.specs.Holdings.{Does}
use Rattle.kex_held.specs.Walks.{TakesCode}
use Rattle.kex_held.specs.Acts.{Act, after_acts}

-- if the code can be taken from n, on the way to anything, it leads to t and does the acts
pub record DoesActs (nodes : List MNode) (n : ℕ) (code : List Symbol) (t : ℕ)
    (acts : List Act) : Type 0 where
  pub does : (c : List Symbol) → TakesCode nodes n (code ++ c)
      → Does nodes n code t (after_acts nodes acts)
  pub takes : (c : List Symbol) → TakesCode nodes n (code ++ c) → TakesCode nodes t c

-- an edge of the path tree: the nodes at its upper and its lower end, and what is done between them
pub record TreeEdge : Type 0 where
  pub from : ℕ
  pub to : ℕ
  pub acts : List Act

-- the table registers hold these codes, the labels of the edges, and each does what its edge says
abbrev pub AreHeld : List MNode → List TreeEdge → List (List Symbol) → Type 0
AreHeld nodes [] [] = Unit {0}
AreHeld nodes [] (c ∷ cs) = ⊥
AreHeld nodes (e ∷ es) [] = ⊥
AreHeld nodes (e ∷ es) (c ∷ cs) = DoesActs nodes e.from c e.to e.acts × AreHeld nodes es cs

abbrev pub acts_if : Option TreeEdge → List Act
acts_if None = []
acts_if (Some e) = e.acts

-- what is done along the edge of a register
abbrev pub acts_at : List TreeEdge → ℕ → List Act
acts_at edges r = acts_if (slice_get edges r)
