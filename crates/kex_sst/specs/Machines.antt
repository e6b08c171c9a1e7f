-- Which table is that of a machine.
use Rattle.std.specs.Prelude.{◌≡◌, ℕ, List, Some, None}
use Rattle.kex_code.specs.declared.symbol.Symbol.{Symbol}
use Rattle.kex_model.specs.Survivors.{Agreed}
use Rattle.kex_machine.specs.Nodes.{Graph, node_moves}
use Rattle.kex_machine.specs.Answers.{IsViableFor, HasRun, IsGreedy}
use Rattle.kex_machine.specs.Covering.{Best}
use Rattle.kex_sst.specs.Tables.{Transducer}
use Rattle.kex_sst.specs.Passes.{Pass, passes, whole_code}

-- along each text the table passes on a code that is `Told` of it, and none where it can't go on;
-- at its end, the greedy code
pub record IsTableBy (Told : List ℕ → List Symbol → Type 0) (g : Graph)
    (t : Transducer) : Type 0 where
  pub goes_on : (w : List ℕ) (p : Pass) → passes t w ≡ Some p → Told w p.code
  pub stops : (w : List ℕ) → passes t w ≡ None → ¬ IsViableFor g w
  pub parsed : (w : List ℕ) (p : Pass) (c : List Symbol) → passes t w ≡ Some p
      → whole_code t p ≡ Some c → IsGreedy g w c
  pub cut : (w : List ℕ) (p : Pass) → passes t w ≡ Some p → whole_code t p ≡ None → ¬ HasRun g w

-- the table passes on what the survivors agree on
abbrev pub IsTableOf : Graph → Transducer → Type 0
IsTableOf g t = IsTableBy (Agreed (node_moves g.nodes) g.start) g t

-- the table passes on what is best: what the survivors that aren't covered agree on
abbrev pub IsBestTableOf : Graph → Transducer → Type 0
IsBestTableOf g t = IsTableBy (Best g) g t
