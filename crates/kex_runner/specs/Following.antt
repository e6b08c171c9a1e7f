-- How a table is followed along a piece from a state.
use Rattle.std.specs.Prelude.{◌≡◌, ℕ, ◌<◌, ◌≤◌, ◌+◌, List, ◌++◌, Some, None, length, take}
use Rattle.std.specs.Prelude.{slice_get}
use Rattle.kex_code.specs.declared.symbol.Symbol.{Symbol}
use Rattle.kex_sst.specs.Tables.{Row, Transducer, IsTable}
use Rattle.kex_sst.specs.Passes.{Pass, passes_if}
use Rattle.kex_script.specs.Scripts.{Sheet, IsScriptOf}
use Rattle.kex_runner.specs.Noting.{contents}
use Rattle.kex_runner.specs.declared.registers.Registers.{Registers}

-- a state of the table, and as many registers as it has
pub record IsTablePlace (t : Transducer) (state : ℕ) (registers : List (List Symbol)) : Type 0 where
  pub row : Row
  pub at : slice_get t.states state ≡ Some row
  pub count : length registers ≡ row.registers

-- a table, and a place of it
pub record IsRunnerSound (t : Transducer) (state : ℕ)
    (registers : List (List Symbol)) : Type 0 where
  pub table : IsTable t
  pub place : IsTablePlace t state registers

-- where a table is that has passed on c
abbrev pub pass_at : ℕ → List Symbol → List (List Symbol) → Pass
pass_at state c registers = record { state = state; code = c; registers = registers }

-- from one place the table goes on along the first bytes of a piece to another, and puts a code
-- after what was there; it stops at the byte after them, if there is one
pub record Follows (t : Transducer) (state : ℕ) (registers : List (List Symbol)) (piece : List ℕ)
    (count state' : ℕ) (registers' : List (List Symbol)) (before after : List Symbol) : Type 0 where
  pub within : count ≤ length piece
  pub more : List Symbol
  pub code : after ≡ before ++ more
  pub goes : (c : List Symbol) → passes_if t (Some (pass_at state c registers)) (take count piece)
      ≡ Some (pass_at state' (c ++ more) registers')
  pub stops : (c : List Symbol) → count < length piece
      → passes_if t (Some (pass_at state c registers)) (take (count + 1) piece) ≡ None

-- a runner's parts: its table and place, the script of the table, and the count of its registers
pub record IsRunner (t : Transducer) (s : Sheet) (state : ℕ) (registers : Registers) : Type 0 where
  pub sound : IsRunnerSound t state (contents s registers)
  pub script : IsScriptOf s t
  pub counted : registers.count ≡ length (contents s registers)
