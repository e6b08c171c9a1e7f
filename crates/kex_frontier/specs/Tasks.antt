-- What a walk has still to do, and where it leads.
use Rattle.std.specs.Prelude.{◌≡◌, ℕ, ◌<◌, Bool, true, false, List, [], ◌∷◌, Option, Some, None}
use Rattle.kex_code.specs.declared.symbol.Symbol.{Symbol}
use Rattle.kex_code.specs.declared.symbol.Symbol.TheVariants.{L, R}
use Rattle.kex_model.specs.Moves.{Move, accept, read, choose, forced, go, symbol_of}
use Rattle.kex_model.specs.Labelled.{tip, Grown}
use Rattle.kex_frontier.specs.Edges.{with_front, with_fork}
use Rattle.kex_frontier.specs.Going.{VisitsCodes}
use Rattle.kex_frontier.specs.declared.visit.VisitTask.{VisitTask}
use Rattle.kex_frontier.specs.declared.visit.VisitTask.TheVariants.{Visit, Front, Merge}

-- what is to be done at a place, the last first
abbrev pub visits_from : Move ℕ → List VisitTask
visits_from accept = []
visits_from (read set t) = []
visits_from (choose l r) = Merge ∷ Front R ∷ Visit r ∷ Front L ∷ Visit l ∷ []
visits_from (forced x t) = Front (symbol_of x) ∷ Visit t ∷ []
visits_from (go e t) = Visit t ∷ []

-- the tree that a waiting place is
abbrev pub code_leaf_at : Move ℕ → ℕ → List (Option (Grown Symbol ℕ))
code_leaf_at accept n = Some (record { label = []; tree = tip n }) ∷ []
code_leaf_at (read set t) n = Some (record { label = []; tree = tip n }) ∷ []
code_leaf_at (choose l r) n = []
code_leaf_at (forced x t) n = []
code_leaf_at (go e t) n = []

abbrev pub tasks_at : Bool → Move ℕ → List VisitTask
tasks_at true m = []
tasks_at false m = visits_from m

abbrev pub trees_at : Bool → Move ℕ → ℕ → List (Option (Grown Symbol ℕ))
trees_at true m n = None ∷ []
trees_at false m n = code_leaf_at m n

-- the place that is to be visited is below the count
abbrev pub IsVisitBelow : ℕ → VisitTask → Type 0
IsVisitBelow m (Visit n) = n < m
IsVisitBelow m (Front s) = Unit {0}
IsVisitBelow m Merge = Unit {0}

module _ (moves : ℕ → Move ℕ) where
  -- the tasks lead from marks f and trees rs to marks g and trees out
  abbrev pub RunsVisits : List VisitTask → List Bool → List (Option (Grown Symbol ℕ)) → List Bool
      → List (Option (Grown Symbol ℕ)) → Type 0
  RunsVisits [] f rs g out = (f ≡ g) × (rs ≡ out)
  RunsVisits (Visit n ∷ js) f rs g out = (a : Option (Grown Symbol ℕ)) × (h : List Bool)
      × VisitsCodes moves f n a h × RunsVisits js h (a ∷ rs) g out
  RunsVisits (Front s ∷ js) f rs g out = RunsVisits js f (with_front (s ∷ []) rs) g out
  RunsVisits (Merge ∷ js) f rs g out = RunsVisits js f (with_fork rs) g out
