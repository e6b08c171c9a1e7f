-- Labelled trees as lists of edges, in postorder, and trees side by side.
use Rattle.std.specs.Prelude.{◌≡◌, ℕ, ◌<◌, ◌⊎◌, length, Bool, true, false, List, [], ◌∷◌, ◌++◌}
use Rattle.std.specs.Prelude.{Option, Some, None, reverse}
use Rattle.kex_code.specs.declared.symbol.Symbol.{Symbol}
use Rattle.kex_model.specs.Labelled.{Labelled, tip, fork, Grown, with_prefix, fork_of}
use Rattle.kex_machine.specs.Advancing.{left_or_right}

-- an edge: its label, and the place that it leads to, if that is a tip
pub record Edge : Type 0 where
  pub label : List Symbol
  pub at : Option ℕ

-- the edges of a tree, with a label to its root, and each label turned by h
abbrev pub edges_by : (List Symbol → List Symbol) → Labelled Symbol ℕ → List Symbol → List Edge
edges_by h (tip p) c = record { label = h c; at = Some p } ∷ []
edges_by h (fork x l y r) c =
    (edges_by h l x ++ edges_by h r y) ++ record { label = h c; at = None } ∷ []

abbrev pub as_is : List Symbol → List Symbol
as_is c = c

abbrev pub edges_of : Labelled Symbol ℕ → List Symbol → List Edge
edges_of t c = edges_by as_is t c

abbrev pub edges_if : (List Symbol → List Symbol) → Option (Grown Symbol ℕ) → List Edge
edges_if h None = []
edges_if h (Some g) = edges_by h g.tree g.label

abbrev pub is_there : Option (Grown Symbol ℕ) → Bool
is_there None = false
is_there (Some g) = true

-- trees side by side: all their edges, and which of the trees are there, the last first
pub record CodeTrees : Type 0 where
  pub edges : List Edge
  pub there : List Bool

-- the edges of trees of which the last comes first
abbrev pub edges_in : (List Symbol → List Symbol) → List (Option (Grown Symbol ℕ)) → List Edge
edges_in h [] = []
edges_in h (r ∷ rs) = edges_in h rs ++ edges_if h r

abbrev pub there_flags : List (Option (Grown Symbol ℕ)) → List Bool
there_flags [] = []
there_flags (r ∷ rs) = is_there r ∷ there_flags rs

-- the forest has these trees, the last first, with each label turned by h
abbrev pub HasCodeTrees : (List Symbol → List Symbol) → CodeTrees → List (Option (Grown Symbol ℕ))
    → Type 0
HasCodeTrees h f rs = (f.edges ≡ edges_in h rs) × (f.there ≡ there_flags rs)

abbrev pub no_code_trees : CodeTrees
no_code_trees = record { edges = []; there = [] }

abbrev pub last_code_tree : List (Option (Grown Symbol ℕ)) → Option (Grown Symbol ℕ)
last_code_tree [] = None
last_code_tree (r ∷ rs) = r

abbrev pub code_trees_before : List (Option (Grown Symbol ℕ)) → List (Option (Grown Symbol ℕ))
code_trees_before [] = []
code_trees_before (r ∷ rs) = rs

-- the last tree with more in front
abbrev pub with_front : List Symbol → List (Option (Grown Symbol ℕ))
    → List (Option (Grown Symbol ℕ))
with_front x [] = []
with_front x (r ∷ rs) = with_prefix x r ∷ rs

-- the last two trees as sides of a fork
abbrev pub with_fork : List (Option (Grown Symbol ℕ)) → List (Option (Grown Symbol ℕ))
with_fork rs = fork_of (last_code_tree (code_trees_before rs)) (last_code_tree rs)
    ∷ code_trees_before (code_trees_before rs)

-- a fork's edge, if both of its sides are there
abbrev pub fork_if : Bool → List Edge
fork_if true = record { label = []; at = None } ∷ []
fork_if false = []

-- of the last two trees the first that is there
abbrev pub with_first_tree : List (Option (Grown Symbol ℕ)) → List (Option (Grown Symbol ℕ))
with_first_tree rs = left_or_right (last_code_tree (code_trees_before rs)) (last_code_tree rs)
    ∷ code_trees_before (code_trees_before rs)

-- the tree is a tip, if it is there
abbrev pub IsTipIf : Option (Grown Symbol ℕ) → Type 0
IsTipIf None = Unit {0}
IsTipIf (Some g) = (p : ℕ) × (g.tree ≡ tip p)

abbrev pub root_label : Option (Grown Symbol ℕ) → List Symbol
root_label None = []
root_label (Some g) = g.label

-- the edges of a tree with no label to its root
abbrev pub bare_edges : Option (Grown Symbol ℕ) → List Edge
bare_edges None = []
bare_edges (Some g) = edges_of g.tree []

abbrev pub with_label_turned : Edge → Edge
with_label_turned k = record { label = reverse k.label; at = k.at }

-- each place of the tree is below the count
abbrev pub TipsBelow : ℕ → Labelled Symbol ℕ → Type 0
TipsBelow m (tip p) = p < m
TipsBelow m (fork x l y r) = TipsBelow m l × TipsBelow m r

-- these are the edges of a tree of places below the count
abbrev pub IsTreeBelow : ℕ → List Edge → Type 0
IsTreeBelow m ks = (t : Labelled Symbol ℕ) × (ks ≡ edges_of t []) × TipsBelow m t

-- marks for m places, and no edges or those of a tree of such places
pub record IsKeptTree (m : ℕ) (ks : List Edge) (marks : List Bool) : Type 0 where
  pub long : length marks ≡ m
  pub tree : (ks ≡ []) ⊎ IsTreeBelow m ks
