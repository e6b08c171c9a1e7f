-- What is to be shown of an edge that is learnt, so that it is right: facts of the table and of
-- lists alone.
use Rattle.std.specs.Prelude.{◌≡◌, ◌+◌, ◌<◌, ◌≤◌, ℕ, List, [], ◌∷◌, Some, length}
use Rattle.kex_machine.specs.declared.MNode.{MNode}
use Rattle.kex_machine.specs.Nodes.{Graph}
use Rattle.kex_sst.specs.declared.parts.Part.{Part}
use Rattle.kex_sst.specs.declared.table.Transition.{Transition}
use Rattle.kex_sst.specs.Tables.{Transducer, transition_of}
use Rattle.kex_held.specs.declared.item.HeldItem.{HeldItem}
use Rattle.kex_held.specs.declared.link.Link.{Link}
use Rattle.kex_held.specs.Tracks.{HeldList, Passage, TracksAny}
use Rattle.kex_held.specs.Slices.{ListGoesOn, MakeSameOver, AreItemsWithin, AreKept}
use Rattle.kex_held.specs.Slices.{items_by_number}
use Rattle.kex_held.specs.HeldRows.{HeldRow, RowEdge, AreListsWithin, items_by_links}

-- each new register from some node on
abbrev pub AreTrackedAny : List MNode → List HeldList → List (List Part) → List Passage → Type 0
AreTrackedAny nodes lists [] [] = Unit {0}
AreTrackedAny nodes lists [] (v ∷ vs) = ⊥
AreTrackedAny nodes lists (xs ∷ xss) [] = ⊥
AreTrackedAny nodes lists (xs ∷ xss) (v ∷ vs) =
    TracksAny nodes lists xs v.from v.to v.links × AreTrackedAny nodes lists xss vs

-- by the edge's points the items come to what the links name
abbrev pub ComesToLinks : List MNode → HeldRow → List Link → List HeldItem → Type 0
ComesToLinks nodes r links items =
    MakeSameOver nodes (r.marks + 2) (items_by_links r.lists r.marks links) items

abbrev pub AreComing : List MNode → HeldRow → List ℕ → List HeldList → List Passage → Type 0
AreComing nodes r keep [] [] = Unit {0}
AreComing nodes r keep [] (v ∷ vs) = ⊥
AreComing nodes r keep (x ∷ xs) [] = ⊥
AreComing nodes r keep (x ∷ xs) (v ∷ vs) = (x.from ≡ v.from) × (x.to ≡ v.to)
    × ComesToLinks nodes r v.links (items_by_number (r.marks + 1) keep x.items)
    × AreComing nodes r keep xs vs

-- the table goes by an update whose parts were tracked, and the edge's lists come to the links
pub record IsLearnt (t : Transducer) (nodes : List MNode) (r : HeldRow) (class : ℕ)
    (e : RowEdge) : Type 0 where
  pub by : Transition
  pub goes : transition_of t r.state class ≡ Some by
  pub state : e.to.state ≡ by.target
  pub out : Passage
  pub regs : List Passage
  pub from : out.from ≡ r.node
  pub to : e.to.node ≡ out.to
  pub out_tracks : TracksAny nodes r.lists by.update.out out.from out.to out.links
  pub regs_track : AreTrackedAny nodes r.lists by.update.regs regs
  pub outs : ComesToLinks nodes r out.links e.outs
  pub lists : AreComing nodes r e.keep e.to.lists regs
  pub keep : AreKept (r.marks + 2) e.keep
  pub count : length e.keep ≡ e.to.marks
  pub outs_within : AreItemsWithin (r.marks + 2) e.outs
  pub within : AreListsWithin (e.to.marks + 1) e.to.lists

-- a state of the table, a node of the machine, not too many marks, and lists between those
pub record IsRowWithin (t : Transducer) (g : Graph) (r : HeldRow) : Type 0 where
  pub state : r.state < length t.states
  pub node : r.node < length g.nodes
  pub marks : r.marks ≤ 60
  pub within : AreListsWithin (r.marks + 1) r.lists

-- each list is what the links of a passage name
abbrev pub AreListsOf : List MNode → List HeldList → ℕ → List Passage → List HeldList → Type 0
AreListsOf nodes olds m [] [] = Unit {0}
AreListsOf nodes olds m [] (x ∷ xs) = ⊥
AreListsOf nodes olds m (v ∷ vs) [] = ⊥
AreListsOf nodes olds m (v ∷ vs) (x ∷ xs) = (x.from ≡ v.from) × (x.to ≡ v.to)
    × ListGoesOn nodes [] (items_by_links olds m v.links) x.items × AreListsOf nodes olds m vs xs

-- the same lists by the numbers that their points get
abbrev pub AreRenumbered : ℕ → List ℕ → List HeldList → List HeldList → Type 0
AreRenumbered last keep [] [] = Unit {0}
AreRenumbered last keep [] (y ∷ ys) = ⊥
AreRenumbered last keep (x ∷ xs) [] = ⊥
AreRenumbered last keep (x ∷ xs) (y ∷ ys) = (y.from ≡ x.from) × (y.to ≡ x.to)
    × (items_by_number last keep y.items ≡ x.items) × AreItemsWithin (length keep + 1) y.items
    × AreRenumbered last keep xs ys

-- the edge leads to this state and node, and has these items and, by other numbers, these lists
pub record IsEdgeWith (state node last : ℕ) (outs : List HeldItem) (xs : List HeldList)
    (e : RowEdge) : Type 0 where
  pub state_is : e.to.state ≡ state
  pub node_is : e.to.node ≡ node
  pub outs_are : e.outs ≡ outs
  pub keep : AreKept last e.keep
  pub count : length e.keep ≡ e.to.marks
  pub few : e.to.marks ≤ 60
  pub renumbered : AreRenumbered last e.keep xs e.to.lists
