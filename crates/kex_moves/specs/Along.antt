-- What a run does: the table goes on, and the actor performs what it says.
use Rattle.std.specs.Prelude.{◌≡◌, ℕ, List, [], ◌++◌, Some, true}
use Rattle.kex_code.specs.declared.symbol.Symbol.{Symbol}
use Rattle.kex_machine.specs.Nodes.{Graph}
use Rattle.kex_action.specs.declared.sheet.Sheet.{Sheet}
use Rattle.kex_action.specs.Sheets.{state_with}
use Rattle.kex_action.specs.Actors.{Position, HasPerformed, BeginsRun, WentOn}
use Rattle.kex_sst.specs.Tables.{Transducer}
use Rattle.kex_sst.specs.Laws.{IsPassOf}
use Rattle.kex_sst.specs.Passes.{Pass, passes, passes_if, whole_code}
use Rattle.kex_held.specs.Walks.{TakesCode}
use Rattle.kex_moves.specs.Known.{Known, HasRowFor}

-- at a state without registers
abbrev pub bare : ℕ → List Symbol → Pass
bare q c = record { state = q; code = c; registers = [] }

-- q is a state of the table, and has no registers
abbrev pub IsBareState : Transducer → ℕ → Type 0
IsBareState t q = IsPassOf t (bare q [])

-- along the bytes the table goes from q to r and says a code, and where that can be taken, on the
-- way to anything, the actor has performed it
pub record GoesAlong (t : Transducer) (old new : Position) (q r : ℕ)
    (bs before after : List ℕ) : Type 0 where
  pub said : List Symbol
  pub passed : (c : List Symbol) → passes_if t (Some (bare q c)) bs ≡ Some (bare r (c ++ said))
  pub went : (x : List Symbol) → TakesCode old.machine.nodes old.at (said ++ x)
      → WentOn old new said said before after
  pub takes : (x : List Symbol) → TakesCode old.machine.nodes old.at (said ++ x)
      → TakesCode new.machine.nodes new.at x

-- the same, to the row of a state and of the node where the actor is
pub record Reached (t : Transducer) (k : Known) (old new : Position) (q row : ℕ)
    (bs before after : List ℕ) : Type 0 where
  pub state : ℕ
  pub row_for : HasRowFor k row state new.at
  pub goes : GoesAlong t old new q state bs before after

-- the actor, as if what is on the sheet were handed on at a node
abbrev pub with_sheet : Position → ℕ → Sheet → List ℕ → Position
with_sheet a n s out = let z = state_with s out a.holding
    in record {
      machine = a.machine;
      at = n;
      holding = record {
        buffers = z.buffers;
        registers = z.registers;
      };
      refused = a.refused;
      usable = true;
    }

-- what is written then
abbrev pub written_with : Position → Sheet → List ℕ → List ℕ
written_with a s out = (state_with s out a.holding).out

-- along the bytes the actor and its sheet have come to a row, and to some node
pub record ReachedWith (t : Transducer) (k : Known) (from new : Position) (s : Sheet) (q row : ℕ)
    (bs before after : List ℕ) : Type 0 where
  pub node : ℕ
  pub reached
      : Reached t k from (with_sheet new node s after) q row bs before (written_with new s after)

-- the same from the row of any state and the node where the actor and its sheet are
abbrev pub ReachedOn : Transducer → Known → Known → Position → Position → Sheet → Sheet → ℕ → ℕ
    → List ℕ → List ℕ → List ℕ → Type 0
ReachedOn t k k' old new s s' row row' bs before after = (q n : ℕ) → HasRowFor k row q n
    → ReachedWith t k' (with_sheet old n s before) new s' q row' bs
    (written_with old s before) after

-- a table and a machine
pub record Over : Type 0 where
  pub table : Transducer
  pub machine : Graph

-- where the table, after a text, is at q without registers, it goes along the bytes to r and says a
-- code, without registers again; and if all that was said begins a run's code, the actor that has
-- performed it performs this too
pub record RunsOn (t : Transducer) (old new : Position) (q r : ℕ)
    (bs before after : List ℕ) : Type 0 where
  pub said : List Symbol
  pub passed : (w : List ℕ) (c : List Symbol) → passes t w ≡ Some (bare q c)
      → passes t (w ++ bs) ≡ Some (bare r (c ++ said))
  pub went : (given c : List Symbol) (written : List ℕ) → HasPerformed old given c written
      → BeginsRun old.machine (c ++ said) → WentOn old new said said before after

-- where the table, after a text, is at q without registers, and the text ends after the bytes, a
-- code is said of these and of the end; and if all that was said begins a run's code, the actor
-- that has performed what came before performs this too
pub record EndsOn (t : Transducer) (old new : Position) (q : ℕ) (bs before after : List ℕ) : Type 0
  where
    pub said : List Symbol
    pub ended : (w : List ℕ) (c : List Symbol) → passes t w ≡ Some (bare q c)
        → (p : Pass) × (passes t (w ++ bs) ≡ Some p) × (whole_code t p ≡ Some (c ++ said))
    pub went : (given c : List Symbol) (written : List ℕ) → HasPerformed old given c written
        → BeginsRun old.machine (c ++ said) → WentOn old new said said before after
