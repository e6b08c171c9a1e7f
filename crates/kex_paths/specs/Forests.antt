-- Trees of parts, as edges by number.
use Rattle.std.specs.Prelude.{◌≡◌, ℕ, suc, ◌≤◌, List, [], ◌∷◌, Option, Some, None, slice_get}
use Rattle.kex_model.specs.Labelled.{Labelled, tip, fork, Grown}
use Rattle.kex_sst.specs.declared.parts.Part.{Part}
use Rattle.kex_paths.specs.declared.forest.LabelCell.{LabelCell}
use Rattle.kex_paths.specs.declared.forest.PathEdge.{PathEdge}
use Rattle.kex_paths.specs.declared.forest.TreeNode.{TreeNode}
use Rattle.kex_paths.specs.declared.forest.TreeNode.TheVariants.{Tip, Fork}

-- edges by number, and the cells of their labels
pub record EdgeStock : Type 0 where
  pub all : List PathEdge
  pub cells : List LabelCell

abbrev pub no_edges : EdgeStock
no_edges = record { all = []; cells = [] }

-- trees side by side: the edges below their roots, and the edges to these, the last first; a tree
-- may be gone
pub record Trees : Type 0 where
  pub edges : EdgeStock
  pub roots : List (Option PathEdge)

abbrev pub no_trees : Trees
no_trees = record { edges = no_edges; roots = [] }

-- the label of this number: 0 is the empty one, and n + 1 is that of cell n, which is a part and
-- the label after it
pub data IsLabel (cells : List LabelCell) : ℕ → List Part → Type 0 where
  no_parts : IsLabel cells 0 []
  first_part : {n : ℕ} {c : LabelCell} {xs : List Part} → slice_get cells n ≡ Some c → c.rest ≤ n
      → IsLabel cells c.rest xs → IsLabel cells (suc n) (c.part ∷ xs)

-- the tree that a node leads to
pub data IsTreeAt (edges : EdgeStock) : TreeNode → Labelled Part ℕ → Type 0 where
  at_tip : {p : ℕ} → IsTreeAt edges (Tip p) (tip p)
  at_fork : {n m : ℕ} {x y : PathEdge} {u v : List Part} {l r : Labelled Part ℕ}
      → slice_get edges.all n ≡ Some x → slice_get edges.all m ≡ Some y
      → IsLabel edges.cells x.label u → IsLabel edges.cells y.label v → IsTreeAt edges x.node l
      → IsTreeAt edges y.node r → IsTreeAt edges (Fork n m) (fork u l v r)

-- the tree that an edge leads to, with the edge's label, if it is there
abbrev pub LeadsToTree : EdgeStock → Option PathEdge → Option (Grown Part ℕ) → Type 0
LeadsToTree edges None None = Unit {0}
LeadsToTree edges None (Some g) = ⊥
LeadsToTree edges (Some x) None = ⊥
LeadsToTree edges (Some x) (Some g) = IsLabel edges.cells x.label g.label
    × IsTreeAt edges x.node g.tree

abbrev pub LeadToEach : EdgeStock → List (Option PathEdge) → List (Option (Grown Part ℕ)) → Type 0
LeadToEach edges [] [] = Unit {0}
LeadToEach edges [] (t ∷ ts) = ⊥
LeadToEach edges (x ∷ xs) [] = ⊥
LeadToEach edges (x ∷ xs) (t ∷ ts) = LeadsToTree edges x t × LeadToEach edges xs ts

-- the forest has these trees, the last first
abbrev pub HasTrees : Trees → List (Option (Grown Part ℕ)) → Type 0
HasTrees w rs = LeadToEach w.edges w.roots rs

abbrev pub last_tree : List (Option (Grown Part ℕ)) → Option (Grown Part ℕ)
last_tree [] = None
last_tree (t ∷ ts) = t

abbrev pub trees_before : List (Option (Grown Part ℕ)) → List (Option (Grown Part ℕ))
trees_before [] = []
trees_before (t ∷ ts) = ts
