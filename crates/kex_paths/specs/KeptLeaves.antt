-- What is left of trees where some of their leaves are kept, node by node from the last.
use Rattle.std.specs.Prelude.{◌≡◌, ℕ, zero, suc, Bool, List, [], ◌∷◌, ◌++◌, Option, Some, None, map}
use Rattle.std.specs.Prelude.{MatchOption, if◌then◌else◌}
use Rattle.kex_model.specs.Labelled.{Labelled, tip, fork, Shape, place, parts, shape_of, Grown}
use Rattle.kex_model.specs.Labelled.{fork_of}
use Rattle.kex_machine.specs.Covering.{restrict, restrict_if}
use Rattle.kex_sst.specs.declared.parts.Part.{Part}
use Rattle.kex_sst.specs.Parts.{Change}
use Rattle.kex_paths.specs.declared.walk.TreeToken.{TreeToken}
use Rattle.kex_paths.specs.declared.walk.TreeToken.TheVariants.{Fork, Tip}
use Rattle.kex_paths.specs.Forests.{last_tree, trees_before}
use Rattle.kex_paths.specs.Nexts.{Outline, IsOfShape, IsChange}

-- what is left of a node's tree, above the trees after the node, of which the first is the last
abbrev pub node_left : (ℕ → Bool) → TreeToken → List (Option (Grown Part ℕ))
    → Option (Grown Part ℕ)
node_left keep (Tip p) rs = restrict keep (tip p)
node_left keep Fork rs = fork_of (last_tree rs) (last_tree (trees_before rs))

-- the trees after a node that are not below it
abbrev pub trees_beside : TreeToken → List (Option (Grown Part ℕ)) → List (Option (Grown Part ℕ))
trees_beside (Tip p) rs = rs
trees_beside Fork rs = trees_before (trees_before rs)

-- the sides of a fork
abbrev pub sides_of : Labelled Part ℕ → List (Grown Part ℕ)
sides_of (tip p) = []
sides_of (fork x l y r) = record { label = x; tree = l } ∷ record { label = y; tree = r } ∷ []

-- the trees that come after the first n nodes in preorder
abbrev pub trees_behind : ℕ → List (Grown Part ℕ) → List (Grown Part ℕ)
trees_behind zero ts = ts
trees_behind (suc n) [] = []
trees_behind (suc n) (t ∷ ts) = trees_behind n (sides_of t.tree ++ ts)

-- what is left of each
abbrev pub restrict_each : (ℕ → Bool) → List (Grown Part ℕ) → List (Option (Grown Part ℕ))
restrict_each keep ts = map (λ t. restrict_if keep (Some t)) ts

-- two sides of a fork, of which one may be gone
abbrev pub parts_of : Option (Shape ℕ) → Option (Shape ℕ) → Option (Shape ℕ)
parts_of None None = None
parts_of (Some l) None = Some l
parts_of None (Some r) = Some r
parts_of (Some l) (Some r) = Some (parts l r)

-- the shape of the leaves that are kept
abbrev pub restrict_shape : (ℕ → Bool) → Shape ℕ → Option (Shape ℕ)
restrict_shape keep (place p) = if keep p then Some (place p) else None
restrict_shape keep (parts l r) = parts_of (restrict_shape keep l) (restrict_shape keep r)

-- the tree is what is left of another, if a leaf is kept
abbrev pub IsRestrictedTree : (ℕ → Bool) → Outline → Option Outline → Type 0
IsRestrictedTree keep tree r = (s : Shape ℕ) → IsOfShape tree s
    → MatchOption r (restrict_shape keep s ≡ None) (λ t. (k : Shape ℕ)
    × (restrict_shape keep s ≡ Some k) × IsOfShape t k)

-- the tree and the update are what is left of another tree and its update, if a leaf is kept
abbrev pub IsRestricted : (ℕ → Bool) → Outline → Change → Option (Outline × Change) → Type 0
IsRestricted keep tree update r = (a : Grown Part ℕ) → IsOfShape tree (shape_of a.tree)
    → IsChange update a → MatchOption r (restrict_if keep (Some a) ≡ None) (λ n. (k : Grown Part ℕ)
    × (restrict_if keep (Some a) ≡ Some k) × IsOfShape n.0 (shape_of k.tree) × IsChange n.1 k)
