-- What pieces make an actor do.
use Rattle.std.specs.Prelude.{ℕ, List, [], ◌++◌, ◌∷◌, map, Option, Some, None, replicate}
use Rattle.kex_code.specs.declared.symbol.Symbol.{Symbol}
use Rattle.kex_machine.specs.Nodes.{Graph}
use Rattle.kex_action.specs.declared.sheet.Sheet.{Sheet}
use Rattle.kex_action.specs.Actors.{Position, HasPerformed, BeginsRun, WentOn}
use Rattle.kex_sst.specs.declared.parts.Part.{Part}
use Rattle.kex_sst.specs.declared.table.Transition.{Transition}
use Rattle.kex_sst.specs.Tables.{Transducer}
use Rattle.kex_moves.specs.declared.edges.Pair.{Pair}
use Rattle.kex_moves.specs.Known.{Known, IsPairRow}
use Rattle.kex_moves.specs.Along.{with_sheet, written_with}

-- a list of words, and a machine
pub record Speech : Type 0 where
  pub words : List (List Part)
  pub machine : Graph

-- a word as a transition of the only state
abbrev pub says_word : List Part → Option Transition
says_word w = Some (record { target = 0; update = record { out = w; regs = [] } })

-- a table with one state, whose classes are the words; no byte has one
abbrev pub words_table : List (List Part) → Transducer
words_table words = record {
  classes = replicate 256 0;
  initial = record { out = []; regs = [] };
  states = record { registers = 0; accepting = None; go = map says_word words } ∷ [];
}

-- what was given begins no run's code with these symbols after it
abbrev pub RefusesCode : Position → List Symbol → Type 0
RefusesCode a symbols = (given c : List Symbol) (written : List ℕ) → HasPerformed a given c written
    → BeginsRun a.machine (given ++ symbols) → ⊥

-- if all that was performed and what is said begin a run's code, the actor has performed what is
-- said too
abbrev pub PerformsSaid : Position → Position → List Symbol → List ℕ → List ℕ → Type 0
PerformsSaid old new said before after = (given c : List Symbol) (written : List ℕ)
    → HasPerformed old given c written → BeginsRun old.machine (c ++ said)
    → WentOn old new said said before after

-- the same, where the actor and its sheet have come to the node of a row
pub record SaidWith (k : Known) (from new : Position) (s : Sheet) (row : ℕ) (said : List Symbol)
    (before after : List ℕ) : Type 0 where
  pub to : Pair
  pub row_of : IsPairRow k row to
  pub performs
      : PerformsSaid from (with_sheet new to.node s after) said before (written_with new s after)

-- the same from the node of a row
abbrev pub SaidOn : Known → Position → Position → Sheet → Sheet → ℕ → ℕ → List Symbol → List ℕ
    → List ℕ → Type 0
SaidOn k old new s s' row row' said before after = (p : Pair) → IsPairRow k row p
    → SaidWith k (with_sheet old p.node s before) new s' row' said (written_with old s before) after
