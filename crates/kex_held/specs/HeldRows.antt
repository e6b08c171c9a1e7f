-- Rows: a state, a node, and a list for each table register; and edges between them.
use Rattle.std.specs.Prelude.{◌≡◌, ◌+◌, ℕ, List, [], ◌∷◌, ◌++◌, Option, Some, None, map, length}
use Rattle.std.specs.Prelude.{slice_get}
use Rattle.kex_machine.specs.declared.MNode.{MNode}
use Rattle.kex_sst.specs.Tables.{Transducer}
use Rattle.kex_held.specs.declared.item.HeldItem.{HeldItem}
use Rattle.kex_held.specs.declared.link.Link.{Link}
use Rattle.kex_held.specs.declared.link.Link.TheVariants.{Whole, Own}
use Rattle.kex_held.specs.Acts.{MakeSame}
use Rattle.kex_held.specs.TreeEdges.{TreeEdge}
use Rattle.kex_held.specs.Tracks.{HeldList, acts_by_links, Passage, HeldState, HeldStep}
use Rattle.kex_held.specs.Tracks.{IsRightStep}
use Rattle.kex_held.specs.Slices.{acts_over, AreRising, points_of, edge_points, AreItemsWithin}
use Rattle.kex_held.specs.Slices.{AreKept, items_by_number, item_of}

abbrev pub tree_edge_of : List ℕ → List ℕ → HeldList → TreeEdge
tree_edge_of w points x = record { from = x.from; to = x.to; acts = acts_over w points x.items }

abbrev pub tree_edges_of : List ℕ → List ℕ → List HeldList → List TreeEdge
tree_edges_of w points xs = map (λ x. tree_edge_of w points x) xs

-- a state, a node, how many marks there are, and what each register holds
pub record HeldRow : Type 0 where
  pub state : ℕ
  pub node : ℕ
  pub marks : ℕ
  pub lists : List HeldList

-- what a row stands for over a window and its marks
abbrev pub state_over : List ℕ → List ℕ → HeldRow → HeldState
state_over w marks r =
    record { state = r.state; node = r.node; edges = tree_edges_of w (points_of w marks) r.lists }

abbrev pub AreListsWithin : ℕ → List HeldList → Type 0
AreListsWithin count [] = Unit {0}
AreListsWithin count (x ∷ xs) = AreItemsWithin count x.items × AreListsWithin count xs

-- there are as many marks as the row has; they rise and lie in the window
pub record FitsWindow (w marks : List ℕ) (r : HeldRow) : Type 0 where
  pub count : length marks ≡ r.marks
  pub rising : AreRising (length w) marks
  pub within : AreListsWithin (r.marks + 1) r.lists

-- an edge between rows: what goes to the output, and which of the edge's points stay marks
pub record RowEdge : Type 0 where
  pub to : HeldRow
  pub outs : List HeldItem
  pub keep : List ℕ

-- the lists after the edge, by the edge's points, do what the links make of the old lists
abbrev pub AreMadeBy : List MNode → List TreeEdge → ℕ → List ℕ → List ℕ → ℕ → List ℕ
    → List HeldList → List Passage → Type 0
AreMadeBy nodes olds b w points last keep [] [] = Unit {0}
AreMadeBy nodes olds b w points last keep [] (v ∷ vs) = ⊥
AreMadeBy nodes olds b w points last keep (x ∷ xs) [] = ⊥
AreMadeBy nodes olds b w points last keep (x ∷ xs) (v ∷ vs) = (x.from ≡ v.from) × (x.to ≡ v.to)
    × MakeSame nodes (acts_by_links olds b v.links)
    (acts_over w points (items_by_number last keep x.items))
    × AreMadeBy nodes olds b w points last keep xs vs

-- whatever the window and its marks: the table and the machine go by a step of what is held, and
-- the lists do what that makes
pub record IsRightAt (t : Transducer) (nodes : List MNode) (r : HeldRow) (class : ℕ)
    (e : RowEdge) : Type 0 where
  pub by : HeldStep
  pub state : e.to.state ≡ by.target
  pub node : e.to.node ≡ by.out.to
  pub right : (w marks : List ℕ) → FitsWindow w marks r
      → IsRightStep t nodes (state_over w marks r) class by
  pub outs : (w marks : List ℕ) (b : ℕ) → FitsWindow w marks r
      → MakeSame nodes (acts_by_links (state_over w marks r).edges b by.out.links)
      (acts_over (w ++ b ∷ []) (edge_points w marks) e.outs)
  pub regs : (w marks : List ℕ) (b : ℕ) → FitsWindow w marks r
      → AreMadeBy nodes (state_over w marks r).edges b (w ++ b ∷ []) (edge_points w marks)
      (r.marks + 1) e.keep e.to.lists by.regs
  pub keep : AreKept (r.marks + 2) e.keep
  pub count : length e.keep ≡ e.to.marks
  pub outs_within : AreItemsWithin (r.marks + 2) e.outs
  pub within : AreListsWithin (e.to.marks + 1) e.to.lists

abbrev pub items_if : Option HeldList → List HeldItem
items_if None = []
items_if (Some x) = x.items

-- what the links name, by the edge's points: where there are m marks, the byte is between points m
-- and m + 1
abbrev pub items_by_links : List HeldList → ℕ → List Link → List HeldItem
items_by_links xs m [] = []
items_by_links xs m (Whole r ∷ rest) = items_if (slice_get xs r) ++ items_by_links xs m rest
items_by_links xs m (Own a ∷ rest) = item_of m a ∷ items_by_links xs m rest
