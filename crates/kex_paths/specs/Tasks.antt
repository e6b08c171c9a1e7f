-- What a walk has still to do, with the shapes that are walked, and where it leads.
use Rattle.std.specs.Prelude.{◌≡◌, ℕ, ◌+◌, ◌-◌, ◌<◌, Bool, true, false, List, [], ◌∷◌, ◌++◌, Option}
use Rattle.std.specs.Prelude.{Some, None, get_or}
use Rattle.kex_code.specs.declared.symbol.Symbol.TheVariants.{L, R}
use Rattle.kex_code.specs.Codes.{IsAmong}
use Rattle.kex_model.specs.Moves.{Move, accept, read, choose, forced, go, symbol_of}
use Rattle.kex_model.specs.Labelled.{tip, Shape, place, parts, size_of, Grown, with_prefix, fork_of}
use Rattle.kex_sst.specs.declared.parts.Part.{Part}
use Rattle.kex_sst.specs.declared.parts.Part.TheVariants.{Put, Old, Input}
use Rattle.kex_paths.specs.declared.walk.TreeToken.{TreeToken}
use Rattle.kex_paths.specs.declared.walk.TreeToken.TheVariants.{Fork, Tip}
use Rattle.kex_paths.specs.declared.walk.Task.{Task}
use Rattle.kex_paths.specs.declared.walk.Task.TheVariants.{OldTree, OldEdge, Merge, Front, Visit}
use Rattle.kex_paths.specs.Forests.{last_tree, trees_before}
use Rattle.kex_paths.specs.Nexts.{Explores, TreeGoesOn}

-- a shape in preorder
abbrev pub tokens : Shape ℕ → List TreeToken
tokens (place p) = Tip p ∷ []
tokens (parts l r) = Fork ∷ (tokens l ++ tokens r)

-- what is to be done at a place, the last first
abbrev pub tasks_from : Move ℕ → List Task
tasks_from accept = []
tasks_from (read set t) = []
tasks_from (choose l r) = Merge ∷ Front (Put R) ∷ Visit r ∷ Front (Put L) ∷ Visit l ∷ []
tasks_from (forced x t) = Front (Put (symbol_of x)) ∷ Visit t ∷ []
tasks_from (go e t) = Visit t ∷ []

abbrev pub leaf_at : Move ℕ → ℕ → List (Option (Grown Part ℕ))
leaf_at accept n = Some (record { label = []; tree = tip n }) ∷ []
leaf_at (read set t) n = Some (record { label = []; tree = tip n }) ∷ []
leaf_at (choose l r) n = []
leaf_at (forced x t) n = []
leaf_at (go e t) n = []

abbrev pub IsTipBelow : ℕ → TreeToken → Type 0
IsTipBelow m Fork = Unit {0}
IsTipBelow m (Tip p) = p < m

abbrev pub EachTip : ℕ → List TreeToken → Type 0
EachTip m xs = (x : TreeToken) → IsAmong xs x → IsTipBelow m x

abbrev pub IsTaskBelow : ℕ → Task → Type 0
IsTaskBelow m (Visit n) = n < m
IsTaskBelow m _ = Unit {0}

abbrev pub EachTask : ℕ → List Task → Type 0
EachTask m xs = (x : Task) → IsAmong xs x → IsTaskBelow m x

abbrev pub byte_tasks : Bool → ℕ → List Task
byte_tasks true t = Front Input ∷ Visit t ∷ []
byte_tasks false t = []

-- what is to be done where a byte is read
abbrev pub read_tasks : Move ℕ → ℕ → List Task
read_tasks (read set t) b = byte_tasks (get_or set b false) t
read_tasks _ b = []

-- what is to be done at a token of the old shape
abbrev pub token_tasks : (ℕ → Move ℕ) → ℕ → TreeToken → List Task
token_tasks moves b Fork = Merge ∷ OldEdge ∷ OldEdge ∷ []
token_tasks moves b (Tip p) = read_tasks (moves p) b

abbrev pub byte_dead : Bool → List (Option (Grown Part ℕ))
byte_dead true = []
byte_dead false = None ∷ []

abbrev pub read_dead : Move ℕ → ℕ → List (Option (Grown Part ℕ))
read_dead (read set t) b = byte_dead (get_or set b false)
read_dead _ b = None ∷ []

-- what a token of the old shape leaves at once
abbrev pub token_dead : (ℕ → Move ℕ) → ℕ → TreeToken → List (Option (Grown Part ℕ))
token_dead moves b Fork = []
token_dead moves b (Tip p) = read_dead (moves p) b

abbrev pub place_tasks : Bool → Move ℕ → List Task
place_tasks true m = []
place_tasks false m = tasks_from m

abbrev pub place_trees : Bool → Move ℕ → ℕ → List (Option (Grown Part ℕ))
place_trees true m n = None ∷ []
place_trees false m n = leaf_at m n

-- the tokens of a tree as two lists
abbrev pub tokens_from : List Bool → List ℕ → List TreeToken
tokens_from [] ps = []
tokens_from (true ∷ xs) ps = Fork ∷ tokens_from xs ps
tokens_from (false ∷ xs) [] = tokens_from xs []
tokens_from (false ∷ xs) (p ∷ ps) = Tip p ∷ tokens_from xs ps

-- what is to be done, with the shapes that are walked
pub data ShapedTask : Type 0 where
  tree : Shape ℕ → ShapedTask
  edge : Shape ℕ → ShapedTask
  merge_two : ShapedTask
  put_front : Part → ShapedTask
  go_to : ℕ → ShapedTask

abbrev pub task_of : ShapedTask → Task
task_of (tree s) = OldTree
task_of (edge s) = OldEdge
task_of merge_two = Merge
task_of (put_front x) = Front x
task_of (go_to n) = Visit n

-- the tokens that are still to be read
abbrev pub tokens_left : List ShapedTask → List TreeToken
tokens_left [] = []
tokens_left (tree s ∷ js) = tokens s ++ tokens_left js
tokens_left (edge s ∷ js) = tokens s ++ tokens_left js
tokens_left (merge_two ∷ js) = tokens_left js
tokens_left (put_front x ∷ js) = tokens_left js
tokens_left (go_to n ∷ js) = tokens_left js

module _ (moves : ℕ → Move ℕ) (b : ℕ) where
  -- the tasks lead from marks f and trees rs, at token k, to marks g and trees out
  abbrev pub RunsTasks : List ShapedTask → ℕ → List Bool → List (Option (Grown Part ℕ)) → List Bool
      → List (Option (Grown Part ℕ)) → Type 0
  RunsTasks [] k f rs g out = (f ≡ g) × (rs ≡ out)
  RunsTasks (tree s ∷ js) k f rs g out = (a : Option (Grown Part ℕ)) × (h : List Bool)
      × TreeGoesOn moves b k f s a h × RunsTasks js (k + size_of s) h (a ∷ rs) g out
  RunsTasks (edge s ∷ js) k f rs g out = (a : Option (Grown Part ℕ)) × (h : List Bool)
      × TreeGoesOn moves b k f s a h
      × RunsTasks js (k + size_of s) h (with_prefix (Old (k - 1) ∷ []) a ∷ rs) g out
  RunsTasks (merge_two ∷ js) k f rs g out = RunsTasks js k f
      (fork_of (last_tree (trees_before rs)) (last_tree rs) ∷ trees_before (trees_before rs)) g out
  RunsTasks (put_front x ∷ js) k f rs g out =
      RunsTasks js k f (with_prefix (x ∷ []) (last_tree rs) ∷ trees_before rs) g out
  RunsTasks (go_to n ∷ js) k f rs g out = (a : Option (Grown Part ℕ)) × (h : List Bool)
      × Explores moves f n a h × RunsTasks js k h (a ∷ rs) g out
