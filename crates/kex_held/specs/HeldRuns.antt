-- A run along edges: the table goes on with registers, and the actor performs what is passed on.
use Rattle.std.specs.Prelude.{◌≡◌, ℕ, List, ◌++◌, Some}
use Rattle.kex_code.specs.declared.symbol.Symbol.{Symbol}
use Rattle.kex_action.specs.Actors.{Position, HasPerformed, BeginsRun, WentOn}
use Rattle.kex_sst.specs.Tables.{Transducer}
use Rattle.kex_sst.specs.Passes.{Pass, passes, passes_if}
use Rattle.kex_held.specs.Walks.{TakesCode}
use Rattle.kex_held.specs.TreeEdges.{AreHeld}
use Rattle.kex_held.specs.Tracks.{HeldState}

abbrev pub pass_with : HeldState → List Symbol → List (List Symbol) → Pass
pass_with h c regs = record { state = h.state; code = c; registers = regs }

-- along the bytes the table goes from h to h', and what it passes on the actor performs, where it
-- can be taken
pub record GoesHeld (t : Transducer) (old new : Position) (h h' : HeldState)
    (regs : List (List Symbol)) (bs before after : List ℕ) : Type 0 where
  pub said : List Symbol
  pub registers : List (List Symbol)
  pub passed : (c : List Symbol)
      → passes_if t (Some (pass_with h c regs)) bs ≡ Some (pass_with h' (c ++ said) registers)
  pub held : AreHeld old.machine.nodes h'.edges registers
  pub went : (x : List Symbol) → TakesCode old.machine.nodes old.at (said ++ x)
      → WentOn old new said said before after
  pub takes : (x : List Symbol) → TakesCode old.machine.nodes old.at (said ++ x)
      → TakesCode new.machine.nodes new.at x

-- where the table, after a text, holds what h says, it goes along the bytes to what h' says; and if
-- all that was said begins a run's code, the actor that has performed it performs this too
pub record RunsHeld (t : Transducer) (old new : Position) (h h' : HeldState)
    (regs : List (List Symbol)) (bs before after : List ℕ) : Type 0 where
  pub said : List Symbol
  pub registers : List (List Symbol)
  pub passed : (w : List ℕ) (c : List Symbol) → passes t w ≡ Some (pass_with h c regs)
      → passes t (w ++ bs) ≡ Some (pass_with h' (c ++ said) registers)
  pub held : AreHeld old.machine.nodes h'.edges registers
  pub went : (given c : List Symbol) (written : List ℕ) → HasPerformed old given c written
      → BeginsRun old.machine (c ++ said) → WentOn old new said said before after
