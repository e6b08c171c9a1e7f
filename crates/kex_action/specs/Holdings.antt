-- What an actor holds between steps, and what steps make of it.
use Rattle.std.specs.Prelude.{◌≡◌, ℕ, Bool, IsTrue, ◌<◌, ◌≤◌, List, [], ◌∷◌, Some, slice_get}
use Rattle.std.specs.Prelude.{length, take}
use Rattle.kex_code.specs.declared.symbol.Symbol.{Symbol}
use Rattle.kex_code.specs.declared.symbol.Symbol.TheVariants.{L, R, Byte}
use Rattle.kex_code.specs.Codes.{Begins}
use Rattle.kex_code.specs.Registers.{Registers, with_content}
use Rattle.kex_model.specs.Moves.{Move, accept, read, choose, forced, go, to_left, to_right, Effect}
use Rattle.kex_model.specs.Moves.{Step, took, chose, went, Allows, code_of, Walk}
use Rattle.kex_model.specs.Acting.{ActingState, after_append, after_effect, after_steps}
use Rattle.kex_machine.specs.declared.MNode.{MNode}
use Rattle.kex_machine.specs.declared.MNode.TheVariants.{Do}
use Rattle.kex_machine.specs.Nodes.{Graph, node_moves, HasRegisters, IsMachineInRange, IsTrimmed}

-- the open buffers, the innermost first, and the registers
pub record Holding : Type 0 where
  pub buffers : List (List ℕ)
  pub registers : Registers

abbrev pub state_of : List ℕ → Holding → ActingState
state_of out h = record { out = out; buffers = h.buffers; registers = h.registers }

-- what comes next is a symbol, or the end
abbrev pub Rests : {S : Type 0} → Move S → Type 0
Rests accept = Unit {0}
Rests (read set n) = Unit {0}
Rests (choose l r) = Unit {0}
Rests (forced x n) = Unit {0}
Rests (go e n) = ⊥

-- steps with the code c lead from s to t, and make of one state the other
pub record LeadsByCode (nodes : List MNode) (s : ℕ) (before : ActingState) (c : List Symbol) (t : ℕ)
    (after : ActingState) : Type 0 where
  pub steps : List (Step ℕ)
  pub walk : Walk (node_moves nodes) s steps t
  pub codes : code_of steps ≡ c
  pub did : after_steps steps c before ≡ after

-- bytes are written
abbrev pub with_bytes : List ℕ → ActingState → ActingState
with_bytes bytes s = after_append bytes s.out s.buffers s.registers

-- steps with the code c lead from s to t, and make f of every state
abbrev pub Does : List MNode → ℕ → List Symbol → ℕ → (ActingState → ActingState) → Type 0
Does nodes s c t f = (before : ActingState) → LeadsByCode nodes s before c t (f before)

-- some steps, whose code c begins with, write so much
pub record WritesFront (nodes : List MNode) (s : ℕ) (before : ActingState) (c : List Symbol)
    (out : List ℕ) : Type 0 where
  pub steps : List (Step ℕ)
  pub to : ℕ
  pub walk : Walk (node_moves nodes) s steps to
  pub begins : Begins c (code_of steps)
  pub wrote : (after_steps steps (code_of steps) before).out ≡ out

-- the innermost buffer is gone
abbrev pub dropped_from : List (List ℕ) → Registers → Holding
dropped_from [] regs = record { buffers = []; registers = regs }
dropped_from (b ∷ bs) regs = record { buffers = bs; registers = regs }

-- the register has what the innermost buffer had
abbrev pub moved_to : ℕ → List (List ℕ) → Registers → Holding
moved_to r [] regs = record { buffers = []; registers = regs }
moved_to r (b ∷ bs) regs = record { buffers = bs; registers = with_content regs r b }

-- n is a node of the machine, and there are as many registers as it has
pub record Fits (g : Graph) (n : ℕ) (h : Holding) : Type 0 where
  pub node : n < length g.nodes
  pub count : length h.registers ≡ g.registers

-- the machine is trimmed and in range, and what can be used of the actor fits it
pub record IsActorSound (g : Graph) (n : ℕ) (h : Holding) (usable : Bool) : Type 0 where
  pub trimmed : IsTrimmed g
  pub in_range : IsMachineInRange g.start g.nodes g.registers
  pub fits : IsTrue usable → Fits g n h

-- the step that gives the symbol and enters t
abbrev pub step_by : Symbol → ℕ → Step ℕ
step_by L t = chose to_left t
step_by R t = chose to_right t
step_by (Byte b) t = took b t

-- from n the symbols were followed as far as there are steps for them, to t, and then all was done
-- that needs none
pub record FollowedCode (g : Graph) (n : ℕ) (before : ActingState) (symbols : List Symbol)
    (count t : ℕ) (out : List ℕ) (h : Holding) : Type 0 where
  pub leads : LeadsByCode g.nodes n before (take count symbols) t (state_of out h)
  pub rests : Rests (node_moves g.nodes t)
  pub fits : Fits g t h
  pub within : count ≤ length symbols
  pub none : (y : Symbol) (s : ℕ) → slice_get symbols count ≡ Some y
      → Allows (node_moves g.nodes t) (step_by y s) → ⊥

-- steps without a symbol lead from s to t
pub record ReachesSilently (nodes : List MNode) (s t : ℕ) : Type 0 where
  pub steps : List (Step ℕ)
  pub walk : Walk (node_moves nodes) s steps t
  pub codes : code_of steps ≡ []

-- the registers of what the node does are below the count
abbrev pub CanAct : ℕ → MNode → Type 0
CanAct registers (Do e n) = HasRegisters registers e
CanAct registers _ = Unit {0}

-- a step without a symbol leads to t, and makes of one state the other
pub record PassesMove (m : Move ℕ) (before : ActingState) (t : ℕ)
    (after : ActingState) : Type 0 where
  pub effect : Effect
  pub allowed : Allows m (went effect t)
  pub did : after_effect effect before ≡ after

abbrev pub IsPassed : Move ℕ → ℕ → Type 0
IsPassed m t = (e : Effect) × Allows m (went e t)
