-- Trees spelled in preorder.
use Rattle.std.specs.Prelude.{◌≡◌, ℕ, suc, ◌*◌, ◌^◌, ◌<◌, ◌≤◌, Bool, true, false, List, [], ◌∷◌}
use Rattle.std.specs.Prelude.{◌++◌, Some, length, reverse, slice_get}
use Rattle.kex_model.specs.Labelled.{labels_of, Shape, place, parts, shape_of, size_of, Grown}
use Rattle.kex_machine.specs.Nodes.{Graph}
use Rattle.kex_machine.specs.Advancing.{EachPlace}
use Rattle.kex_sst.specs.declared.parts.Part.{Part}
use Rattle.kex_paths.specs.Nexts.{inner_of, places_of}
use Rattle.kex_paths.specs.Forests.{EdgeStock, IsLabel, IsTreeAt}
use Rattle.kex_paths.specs.declared.forest.PathEdge.{PathEdge}
use Rattle.kex_paths.specs.declared.forest.TreeNode.{TreeNode}
use Rattle.kex_paths.specs.declared.forest.TreeNode.TheVariants as node
use Rattle.kex_paths.specs.declared.walk.TreeToken.{TreeToken}
use Rattle.kex_paths.specs.declared.walk.TreeToken.TheVariants.{Tip, Fork}

-- these are the lists of a tree of the machine's places, of which all numbers fit 32 bits
pub record IsTreeSound (g : Graph) (inner : List Bool) (places : List ℕ) : Type 0 where
  pub shape : Shape ℕ
  pub inner_is : inner ≡ inner_of shape
  pub places_are : places ≡ places_of shape
  pub in_range : EachPlace (length g.nodes) shape
  pub small : size_of shape < 2 * length g.nodes
  pub few : 2 * length g.nodes ≤ 2 ^ 32

-- a shape as numbers, in preorder: 0 for an inner node, and for a leaf one more than its place
abbrev pub key_of : Shape ℕ → List ℕ
key_of (place p) = suc p ∷ []
key_of (parts l r) = 0 ∷ (key_of l ++ key_of r)

-- a node as a number
abbrev pub token_number : TreeToken → ℕ
token_number Fork = 0
token_number (Tip p) = suc p

abbrev pub is_inner : TreeNode → Bool
is_inner (node.Tip p) = false
is_inner (node.Fork l r) = true

abbrev pub tip_in : TreeNode → List ℕ
tip_in (node.Tip p) = p ∷ []
tip_in (node.Fork l r) = []

-- the edges that go from a node, the last first
abbrev pub edges_from : TreeNode → List ℕ
edges_from (node.Tip p) = []
edges_from (node.Fork l r) = r ∷ l ∷ []

-- the edge of this number leads to the tree
pub record IsPathEdge (edges : EdgeStock) (i : ℕ) (t : Grown Part ℕ) : Type 0 where
  pub edge : PathEdge
  pub here : slice_get edges.all i ≡ Some edge
  pub label : IsLabel edges.cells edge.label t.label
  pub stands : IsTreeAt edges edge.node t.tree

abbrev pub AreEdges : EdgeStock → List ℕ → List (Grown Part ℕ) → Type 0
AreEdges edges [] [] = Unit {0}
AreEdges edges [] (t ∷ ts) = ⊥
AreEdges edges (i ∷ is) [] = ⊥
AreEdges edges (i ∷ is) (t ∷ ts) = IsPathEdge edges i t × AreEdges edges is ts

abbrev pub inner_in : List (Grown Part ℕ) → List Bool
inner_in [] = []
inner_in (t ∷ ts) = inner_of (shape_of t.tree) ++ inner_in ts

abbrev pub places_in : List (Grown Part ℕ) → List ℕ
places_in [] = []
places_in (t ∷ ts) = places_of (shape_of t.tree) ++ places_in ts

abbrev pub labels_in : List (Grown Part ℕ) → List (List Part)
labels_in [] = []
labels_in (t ∷ ts) = t.label ∷ (labels_of t.tree ++ labels_in ts)

-- a tree is spelled so far; what is left are the trees of these edges, of which the last is the
-- next
pub record IsSpelled (edges : EdgeStock) (a : Grown Part ℕ) (inner : List Bool)
    (places : List ℕ) (labels : List (List Part)) (pending : List ℕ) : Type 0 where
  pub left : List (Grown Part ℕ)
  pub are : AreEdges edges (reverse pending) left
  pub inner_is : inner_of (shape_of a.tree) ≡ inner ++ inner_in left
  pub places_are : places_of (shape_of a.tree) ≡ places ++ places_in left
  pub labels_are : labels_of a.tree ≡ labels ++ labels_in left
