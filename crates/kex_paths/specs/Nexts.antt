-- How a path tree goes on with a byte, from its shape alone: old registers have the labels of its
-- edges.
use Rattle.std.specs.Prelude.{◌≡◌, ℕ, suc, ◌<◌, ◌≤◌, Bool, true, false, List, [], ◌∷◌, ◌++◌, Option}
use Rattle.std.specs.Prelude.{Some, map, length, replicate, MatchOption}
use Rattle.kex_byteset.specs.Classes.{class_at}
use Rattle.kex_code.specs.declared.symbol.Symbol.{Symbol}
use Rattle.kex_model.specs.Moves.{Move}
use Rattle.kex_model.specs.Labelled.{Labelled, labels_of, Shape, place, parts, shape_of, Grown}
use Rattle.kex_model.specs.Survivors.{HasTree}
use Rattle.kex_machine.specs.Nodes.{Graph, node_moves, HasClasses}
use Rattle.kex_machine.specs.Answers.{IsViableFor}
use Rattle.kex_machine.specs.Advancing.{Visits, Advances}
use Rattle.kex_sst.specs.declared.parts.Part.{Part}
use Rattle.kex_sst.specs.declared.parts.Part.TheVariants.{Put, Input}
use Rattle.kex_sst.specs.Parts.{Change, parts_code, numbered_tree}

-- the tree of the waiting places that are reached from place n without a byte, with parts for
-- labels
abbrev pub Explores : (ℕ → Move ℕ) → List Bool → ℕ → Option (Grown Part ℕ) → List Bool → Type 0
Explores moves f n a g = Visits (λ s. Put s) moves f n a g

-- the tree of this shape, whose labels are registers in preorder from k on, goes on with byte b
abbrev pub TreeGoesOn : (ℕ → Move ℕ) → ℕ → ℕ → List Bool → Shape ℕ → Option (Grown Part ℕ)
    → List Bool → Type 0
TreeGoesOn moves b k f s a g = Advances (λ s. Put s) Input moves b f (numbered_tree k s) a g

-- the tree of the empty text, and its label: what the survivors agree on
abbrev pub IsFirstTree : Graph → Option (Grown Part ℕ) → Type 0
IsFirstTree g a = (marks : List Bool)
    × Explores (node_moves g.nodes) (replicate (length g.nodes) false) g.start a marks

-- the tree that a tree of this shape goes on to with byte b, and its label: what is agreed on
-- besides; none where no place is left
abbrev pub IsNext : Graph → ℕ → Shape ℕ → Option (Grown Part ℕ) → Type 0
IsNext g b s a = (marks : List Bool)
    × TreeGoesOn (node_moves g.nodes) b 0 (replicate (length g.nodes) false) s a marks

-- the update passes on the label before the root, and gives the registers the other labels, in
-- preorder
abbrev pub IsChange : Change → Grown Part ℕ → Type 0
IsChange u a = (u.out ≡ a.label) × (u.regs ≡ labels_of a.tree)

-- b is a byte of this class of the machine's
abbrev pub HasClass : Graph → ℕ → ℕ → Type 0
HasClass g class b = (classes : List ℕ) × HasClasses g.nodes classes × (b < 256)
    × (class_at classes b ≡ class)

-- whether each node of a shape is an inner one, in preorder
abbrev pub inner_of : Shape ℕ → List Bool
inner_of (place p) = false ∷ []
inner_of (parts l r) = true ∷ (inner_of l ++ inner_of r)

-- the places of a shape, in order
abbrev pub places_of : Shape ℕ → List ℕ
places_of (place p) = p ∷ []
places_of (parts l r) = places_of l ++ places_of r

-- a path tree: its machine, whether each of its nodes is an inner one, in preorder, and the places
-- of its leaves
pub record Outline : Type 0 where
  pub machine : Graph
  pub shape : List Bool
  pub leaves : List ℕ

abbrev pub IsOfShape : Outline → Shape ℕ → Type 0
IsOfShape t s = (t.shape ≡ inner_of s) × (t.leaves ≡ places_of s)

-- the tree and the update are those of the start
abbrev pub BeginsTree : Outline → Change → Type 0
BeginsTree t u = (a : Grown Part ℕ) × IsFirstTree t.machine (Some a) × IsOfShape t (shape_of a.tree)
    × IsChange u a

-- from the tree of shape s this tree and this update come with byte b
abbrev pub FollowsTree : Outline → ℕ → Shape ℕ → Change → Type 0
FollowsTree t b s u = (a : Grown Part ℕ) × IsNext t.machine b s (Some a)
    × IsOfShape t (shape_of a.tree) × IsChange u a

-- with registers that hold these labels the update passes on the code x and leaves the labels of
-- the tree, and the path tree has the tree's shape
pub record Shows (t : Outline) (u : Change) (b : ℕ) (labels : List (List Symbol)) (x : List Symbol)
    (tree : Labelled Symbol ℕ) : Type 0 where
  pub shape : IsOfShape t (shape_of tree)
  pub passed : x ≡ parts_code labels b u.out
  pub registers : labels_of tree ≡ map (λ parts. parts_code labels b parts) u.regs

-- the path tree is that of the empty text, and the update passes on what its survivors agree on
abbrev pub ShowsFirst : Outline → Change → Type 0
ShowsFirst t u = (x : List Symbol) × (tree : Labelled Symbol ℕ) × Shows t u 0 [] x tree
    × HasTree (node_moves t.machine.nodes) t.machine.start [] x tree

-- where the registers hold the labels of the tree of w, and c is agreed on, the path tree is that
-- of w and b, and the update passes on what is agreed on besides
abbrev pub ShowsNext : Outline → Change → ℕ → List ℕ → List Symbol → Labelled Symbol ℕ → Type 0
ShowsNext t u b w c old = (x : List Symbol) × (tree : Labelled Symbol ℕ)
    × Shows t u b (labels_of old) x tree
    × HasTree (node_moves t.machine.nodes) t.machine.start (w ++ b ∷ []) (c ++ x) tree

-- what comes of a path tree by a class: for each text of whose tree it has the shape, and each byte
-- of the class, a tree that shows the tree of the longer text, and none where that isn't viable
abbrev pub ShowsFor : Outline → ℕ → Option (Outline × Change) → Type 0
ShowsFor old class r = (w : List ℕ) (c : List Symbol) (t : Labelled Symbol ℕ) (b : ℕ)
    → HasTree (node_moves old.machine.nodes) old.machine.start w c t → IsOfShape old (shape_of t)
    → HasClass old.machine class b
    → MatchOption r (¬ IsViableFor old.machine (w ++ b ∷ [])) (λ n. ShowsNext n.0 n.1 b w c t)

-- the numbers rise, from lo on and below hi: so each is there at most once
abbrev pub RiseWithin : ℕ → ℕ → List ℕ → Type 0
RiseWithin lo hi [] = Unit {0}
RiseWithin lo hi (x ∷ xs) = (lo ≤ x) × (x < hi) × RiseWithin (suc x) hi xs
