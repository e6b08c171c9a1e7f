-- How oracle and actor go on together.
use Rattle.std.specs.Prelude.{◌≡◌, ℕ, ◌<◌, ◌≤◌, ◌+◌, Bool, true, false, List, ◌++◌, length, take}
use Rattle.kex_code.specs.declared.symbol.Symbol.{Symbol}
use Rattle.kex_machine.specs.Nodes.{Graph}
use Rattle.kex_machine.specs.Answers.{IsViableFor, HasRun, MeansByRun}
use Rattle.kex_action.specs.Actors.{Position, HasPerformed}
use Rattle.kex_plan.specs.Plans.{SaysAs}
use Rattle.kex_plan.specs.declared.plan.Telling.{Telling}
use Rattle.kex_stage.specs.declared.oracle.Oracle.{Oracle}
use Rattle.kex_stage.specs.declared.speak.StageFault.{StageFault}
use Rattle.kex_stage.specs.declared.speak.StageFault.TheVariants as faults
use Rattle.kex_stage.specs.Oracles.{Hears}

-- the oracle was fed w, the actor has performed what it told, and out was written
pub record Followed (k : Telling) (g : Graph) (o : Oracle) (a : Position)
    (w out : List ℕ) : Type 0 where
  pub code : List Symbol
  pub hears : Hears k g o w code
  pub performed : HasPerformed a code code out
  pub machine : a.machine ≡ g

-- of a piece after w, on which text was written, `count` bytes are good, and what is said is
-- written
pub record WorksOn (k : Telling) (g : Graph) (o : Oracle) (a : Position)
    (w text piece : List ℕ) (count : ℕ) (before after : List ℕ) : Type 0 where
  pub more : List ℕ
  pub written : after ≡ before ++ more
  pub followed : count ≡ length piece → Followed k g o a (w ++ piece) (text ++ more)
  pub good : IsViableFor g (w ++ take count piece)
  pub bad : count < length piece → ¬ IsViableFor g (w ++ take (count + 1) piece)
  pub says : SaysAs k g (w ++ take count piece) (text ++ more)

-- oracle and actor went along a piece, of which `count` bytes are good
pub record StageWorks (old new : Oracle) (a b : Position) (piece : List ℕ) (count : ℕ)
    (before after : List ℕ) : Type 0 where
  pub within : count ≤ length piece
  pub works : (k : Telling) (g : Graph) (w text : List ℕ) → Followed k g old a w text
      → IsViableFor g w → WorksOn k g new b w text piece count before after

-- where oracle and actor have followed a text that can go on, the fault is want of memory: nothing
-- that the oracle tells is refused
abbrev pub RefusesNone : Oracle → Position → StageFault → Type 0
RefusesNone o a fault = (k : Telling) (g : Graph) (w text : List ℕ) → Followed k g o a w text
    → IsViableFor g w → fault ≡ faults.Memory

-- bytes after w are good, and more is written
pub record GoesOn (k : Telling) (g : Graph) (o : Oracle) (a : Position)
    (w text piece before after : List ℕ) : Type 0 where
  pub more : List ℕ
  pub written : after ≡ before ++ more
  pub followed : Followed k g o a (w ++ piece) (text ++ more)
  pub good : IsViableFor g (w ++ piece)

-- oracle and actor went along good bytes
pub record StageGoes (old new : Oracle) (a b : Position)
    (piece before after : List ℕ) : Type 0 where
  pub goes : (k : Telling) (g : Graph) (w text : List ℕ) → Followed k g old a w text
      → IsViableFor g w → GoesOn k g new b w text piece before after

-- at the end what w means is written, or what is said on it
abbrev pub WritesEnd : Bool → Telling → Graph → List ℕ → List ℕ → Type 0
WritesEnd true k g w text = MeansByRun g w text
WritesEnd false k g w text = (¬ HasRun g w) × SaysAs k g w text

pub record StageFinishes (parsed : Bool) (old : Oracle) (a : Position)
    (before after : List ℕ) : Type 0 where
  pub more : List ℕ
  pub written : after ≡ before ++ more
  pub finishes : (k : Telling) (g : Graph) (w out : List ℕ) → Followed k g old a w out
      → IsViableFor g w → WritesEnd parsed k g w (out ++ more)
