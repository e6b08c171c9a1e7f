-- What a matcher shows: the bytes that it was fed.
use Rattle.std.specs.Prelude.{◌≡◌, ℕ, Bool, true, false, List, length}
use Rattle.kex_model.specs.Survivors.{LongestViable}
use Rattle.kex_machine.specs.Nodes.{Graph, node_moves}
use Rattle.kex_machine.specs.Answers.{IsViableFor}
use Rattle.kex_frontier.specs.declared.matcher.Matched.{Matched}
use Rattle.kex_frontier.specs.declared.matcher.Matched.TheVariants.{On, Dead}
use Rattle.kex_frontier.specs.Rows.{IsMarkRow}

-- a matcher: its machine, the row of the bytes that it was fed, how many of them were good, and
-- whether one was not
pub record Match : Type 0 where
  pub machine : Graph
  pub row : List ℕ
  pub good : ℕ
  pub dead : Bool

-- w isn't viable, and its longest viable front has this many bytes
abbrev pub IsDeadAt : Graph → List ℕ → ℕ → Type 0
IsDeadAt g w at = (¬ IsViableFor g w)
    × ((v : List ℕ) × LongestViable (node_moves g.nodes) g.start w v × (length v ≡ at))

-- what is answered on w
abbrev pub IsAnswer : Matched → Graph → List ℕ → Type 0
IsAnswer On g w = IsViableFor g w
IsAnswer (Dead at) g w = IsDeadAt g w at

-- the matcher was fed w
pub record WasFed (m : Match) (w : List ℕ) : Type 0 where
  pub row : IsMarkRow m.machine w m.row
  pub good : m.dead ≡ false → IsViableFor m.machine w × (m.good ≡ length w)
  pub dead : m.dead ≡ true → IsDeadAt m.machine w m.good
