-- What a frontier shows: the bytes that it was fed, and the symbols that were taken.
use Rattle.std.specs.Prelude.{◌≡◌, ℕ, Bool, true, false, length, List, [], ◌++◌, ◌⊎◌}
use Rattle.kex_code.specs.declared.symbol.Symbol.{Symbol}
use Rattle.kex_model.specs.Labelled.{Labelled}
use Rattle.kex_model.specs.Survivors.{HasTree}
use Rattle.kex_machine.specs.Nodes.{Graph, node_moves, IsTrimmed}
use Rattle.kex_machine.specs.Answers.{IsViableFor, HasRun, IsSaid, IsGreedy}
use Rattle.kex_frontier.specs.Edges.{Edge, edges_of, IsKeptTree}
use Rattle.kex_frontier.specs.declared.frontier.Fed.{Fed}
use Rattle.kex_frontier.specs.declared.frontier.Fed.TheVariants.{On, Dead}
use Rattle.kex_frontier.specs.declared.frontier.Ended.{Ended}
use Rattle.kex_frontier.specs.declared.frontier.Ended.TheVariants.{Parsed, Cut}

-- a frontier: its machine, what is agreed and wasn't taken, the edges of the survivors' tree,
-- whether the end was given, and whether no call has answered want of memory
pub record Front : Type 0 where
  pub machine : Graph
  pub untaken : List Symbol
  pub edges : List Edge
  pub ended : Bool
  pub usable : Bool

-- the frontier has the tree of w
abbrev pub IsLive : Front → List ℕ → List Symbol → Type 0
IsLive f w taken = (t : Labelled Symbol ℕ)
    × HasTree (node_moves f.machine.nodes) f.machine.start w (taken ++ f.untaken) t
    × (f.edges ≡ edges_of t [])

-- w isn't viable, and no tree is left
abbrev pub IsDead : Front → List ℕ → List Symbol → Type 0
IsDead f w taken = (¬ IsViableFor f.machine w) × IsSaid f.machine w (taken ++ f.untaken)
    × (f.edges ≡ [])

-- the frontier was fed w, and these symbols were taken
abbrev pub IsFed : Front → List ℕ → List Symbol → Type 0
IsFed f w taken = IsLive f w taken ⊎ IsDead f w taken

-- and what feeding its last byte has answered
abbrev pub IsFedBy : Fed → Front → List ℕ → List Symbol → Type 0
IsFedBy On f w taken = IsViableFor f.machine w × IsFed f w taken
IsFedBy Dead f w taken = (¬ IsViableFor f.machine w) × IsFed f w taken

-- the frontier was fed w and then the end, which has answered this, and these symbols were taken
abbrev pub IsOver : Ended → Front → List ℕ → List Symbol → Type 0
IsOver Parsed f w taken = IsGreedy f.machine w (taken ++ f.untaken)
IsOver Cut f w taken = (¬ HasRun f.machine w) × IsSaid f.machine w (taken ++ f.untaken)

abbrev pub answer_of : Bool → Fed
answer_of true = On
answer_of false = Dead

abbrev pub end_answer : Bool → Ended
end_answer true = Parsed
end_answer false = Cut

-- the machine is trimmed; while the frontier is usable, its edges and marks are those of a tree of
-- the machine's places
pub record IsFrontierSound (g : Graph) (edges : List Edge) (marks : List Bool)
    (usable : Bool) : Type 0 where
  pub trimmed : IsTrimmed g
  pub kept : usable ≡ true → IsKeptTree (length g.nodes) edges marks
