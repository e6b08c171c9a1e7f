-- What an actor stands for: the symbols that it was given, those that it performed, and the bytes
-- written for them.
use Rattle.std.specs.Prelude.{◌≡◌, ℕ, suc, ◌<◌, Bool, true, false, List, ◌++◌, length, take}
use Rattle.kex_code.specs.declared.symbol.Symbol.{Symbol}
use Rattle.kex_code.specs.Codes.{Begins}
use Rattle.kex_model.specs.Moves.{Step, code_of}
use Rattle.kex_machine.specs.Nodes.{Graph, node_moves}
use Rattle.kex_machine.specs.Answers.{start_state, IsRun, left_by}
use Rattle.kex_action.specs.Holdings.{Holding, state_of, Rests, LeadsByCode}

-- an actor: its machine, the node where it is, what it holds, whether it was given what is no
-- code, and whether no call has answered want of memory
pub record Position : Type 0 where
  pub machine : Graph
  pub at : ℕ
  pub holding : Holding
  pub refused : Bool
  pub usable : Bool

-- all is done that needs no symbol
abbrev pub IsSettled : Position → Type 0
IsSettled a = Rests (node_moves a.machine.nodes a.at)

-- c begins a run's code
abbrev pub BeginsRun : Graph → List Symbol → Type 0
BeginsRun g c = (ks : List (Step ℕ)) × IsRun g ks × Begins (code_of ks) c

-- c is a run's whole code
abbrev pub IsWholeCode : Graph → List Symbol → Type 0
IsWholeCode g c = (ks : List (Step ℕ)) × IsRun g ks × (code_of ks ≡ c)

-- of all symbols that were given the actor has performed c, and out are all bytes that were written
pub record HasPerformed (a : Position) (given c : List Symbol) (out : List ℕ) : Type 0 where
  pub came : LeadsByCode a.machine.nodes a.machine.start (start_state a.machine.registers) c a.at
      (state_of out a.holding)
  -- out and the registers are what every run leaves whose code begins with c
  pub left : IsSettled a → (ks : List (Step ℕ)) → IsRun a.machine ks → Begins (code_of ks) c
      → left_by a.machine ks c ≡ state_of out a.holding
  pub all : a.refused ≡ false → given ≡ c
  pub none : a.refused ≡ true → BeginsRun a.machine given → ⊥

-- more symbols were given, of which these were performed, and more bytes written
pub record WentOn (old new : Position) (given done : List Symbol)
    (before after : List ℕ) : Type 0 where
  pub more : List ℕ
  pub written : after ≡ before ++ more
  pub performed : (g c : List Symbol) (out : List ℕ) → HasPerformed old g c out
      → HasPerformed new (g ++ given) (c ++ done) (out ++ more)

-- all symbols were performed: with each of them what was given begins a run's code
pub record TookAll (old new : Position) (symbols : List Symbol)
    (before after : List ℕ) : Type 0 where
  pub went : WentOn old new symbols symbols before after
  pub settled : IsSettled new
  pub good : (g c : List Symbol) (out : List ℕ) → HasPerformed old g c out → (i : ℕ)
      → i < length symbols → BeginsRun old.machine (g ++ take (suc i) symbols)

-- the symbols before number i were performed: i is the least up to which what was given begins no
-- run's code
pub record StoppedAt (i : ℕ) (old new : Position) (symbols : List Symbol)
    (before after : List ℕ) : Type 0 where
  pub went : WentOn old new symbols (take i symbols) before after
  pub settled : IsSettled new
  pub within : i < length symbols
  pub bad : (g c : List Symbol) (out : List ℕ) → HasPerformed old g c out
      → BeginsRun old.machine (g ++ take (suc i) symbols) → ⊥
  pub least : (g c : List Symbol) (out : List ℕ) → HasPerformed old g c out → (j : ℕ) → j < i
      → BeginsRun old.machine (g ++ take (suc j) symbols)

-- what was written is a front of what every run leaves whose code goes on with the symbols
pub record WroteFront (old : Position) (symbols : List Symbol)
    (before after : List ℕ) : Type 0 where
  pub more : List ℕ
  pub written : after ≡ before ++ more
  pub front : (g c : List Symbol) (out : List ℕ) → HasPerformed old g c out → (ks : List (Step ℕ))
      → IsRun old.machine ks → Begins (code_of ks) (c ++ symbols)
      → Begins (left_by old.machine ks (c ++ symbols)).out (out ++ more)
