-- How what is held after a byte is made of what was held before it, and when that is right.
use Rattle.std.specs.Prelude.{◌≡◌, ℕ, List, [], ◌∷◌, ◌++◌, map, Some}
use Rattle.kex_code.specs.declared.symbol.Symbol.{Symbol}
use Rattle.kex_machine.specs.declared.MNode.{MNode}
use Rattle.kex_action.specs.declared.action.Action.{Action}
use Rattle.kex_sst.specs.declared.parts.Part.{Part}
use Rattle.kex_sst.specs.declared.table.Transition.{Transition}
use Rattle.kex_sst.specs.Parts.{parts_code}
use Rattle.kex_sst.specs.Tables.{Transducer, transition_of}
use Rattle.kex_held.specs.declared.item.HeldItem.{HeldItem}
use Rattle.kex_held.specs.declared.link.Link.{Link}
use Rattle.kex_held.specs.declared.link.Link.TheVariants.{Whole, Own}
use Rattle.kex_held.specs.Walks.{Learns}
use Rattle.kex_held.specs.Acts.{Act, act_of}
use Rattle.kex_held.specs.TreeEdges.{TreeEdge, DoesActs, AreHeld, acts_at}

-- what a register holds: the nodes at the ends of its edge of the path tree, and a list of items
pub record HeldList : Type 0 where
  pub from : ℕ
  pub to : ℕ
  pub items : List HeldItem

abbrev pub own_all : List Action → List Link
own_all [] = []
own_all (a ∷ actions) = Own a ∷ own_all actions

-- what the links come to, where the byte b is read
abbrev pub acts_by_links : List TreeEdge → ℕ → List Link → List Act
acts_by_links edges b [] = []
acts_by_links edges b (Whole r ∷ links) = acts_at edges r ++ acts_by_links edges b links
acts_by_links edges b (Own a ∷ links) = act_of b a ∷ acts_by_links edges b links

-- from one node to another, and by which links
pub record Passage : Type 0 where
  pub from : ℕ
  pub to : ℕ
  pub links : List Link

abbrev pub edge_by : List TreeEdge → ℕ → Passage → TreeEdge
edge_by edges b p = record { from = p.from; to = p.to; acts = acts_by_links edges b p.links }

-- whatever the registers hold and whichever byte is read, the code of the parts does what the
-- passage says
abbrev pub Tracks : List MNode → List TreeEdge → List Part → Passage → Type 0
Tracks nodes edges parts p = (regs : List (List Symbol)) (b : ℕ) → AreHeld nodes edges regs
    → DoesActs nodes p.from (parts_code regs b parts) p.to (acts_by_links edges b p.links)

-- the same of each new register
abbrev pub AreTracked : List MNode → List TreeEdge → List (List Part) → List Passage → Type 0
AreTracked nodes edges [] [] = Unit {0}
AreTracked nodes edges [] (p ∷ ps) = ⊥
AreTracked nodes edges (xs ∷ xss) [] = ⊥
AreTracked nodes edges (xs ∷ xss) (p ∷ ps) = Tracks nodes edges xs p × AreTracked nodes edges xss ps

-- where a table and an actor are: a state, a node, and what the registers hold
pub record HeldState : Type 0 where
  pub state : ℕ
  pub node : ℕ
  pub edges : List TreeEdge

-- a state of the table, the passage of what is passed on, and that of each register
pub record HeldStep : Type 0 where
  pub target : ℕ
  pub out : Passage
  pub regs : List Passage

abbrev pub state_behind : HeldState → ℕ → HeldStep → HeldState
state_behind h b e = record {
  state = e.target;
  node = e.out.to;
  edges = map (λ p. edge_by h.edges b p) e.regs;
}

-- the table goes by an update whose parts do what the step says
pub record IsRightStep (t : Transducer) (nodes : List MNode) (h : HeldState) (class : ℕ)
    (e : HeldStep) : Type 0 where
  pub by : Transition
  pub goes : transition_of t h.state class ≡ Some by
  pub target : e.target ≡ by.target
  pub from : e.out.from ≡ h.node
  pub out : Tracks nodes h.edges by.update.out e.out
  pub regs : AreTracked nodes h.edges by.update.regs e.regs

-- the edges have their ends where the lists say
abbrev pub HaveEnds : List HeldList → List TreeEdge → Type 0
HaveEnds [] [] = Unit {0}
HaveEnds [] (e ∷ es) = ⊥
HaveEnds (x ∷ xs) [] = ⊥
HaveEnds (x ∷ xs) (e ∷ es) = (e.from ≡ x.from) × (e.to ≡ x.to) × HaveEnds xs es

-- with any edges between the nodes of the lists the parts do what the links say
abbrev pub TracksAny : List MNode → List HeldList → List Part → ℕ → ℕ → List Link → Type 0
TracksAny nodes lists parts from to links = (edges : List TreeEdge) → HaveEnds lists edges
    → Tracks nodes edges parts (record { from = from; to = to; links = links })

-- actions are noted, which a walk with the code of the parts does
pub record GoesBy (nodes : List MNode) (from : ℕ) (parts : List Part) (to : ℕ)
    (before after : List Link) : Type 0 where
  pub actions : List Action
  pub noted : after ≡ before ++ own_all actions
  pub learns : Learns nodes from parts to actions

-- links are noted, that say what a part does
pub record StepsBy (nodes : List MNode) (lists : List HeldList) (part : Part) (from to : ℕ)
    (before after : List Link) : Type 0 where
  pub more : List Link
  pub noted : after ≡ before ++ more
  pub tracks : TracksAny nodes lists (part ∷ []) from to more
