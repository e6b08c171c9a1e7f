-- A stage's answer over a machine's nodes: a tree is a run to the end, and it means what its steps
-- do. A text that has a run has a parse.
use Rattle.std.specs.Prelude.{◌≡◌, ℕ, Bool, List, [], replicate}
use Rattle.kex_code.specs.declared.symbol.Symbol.{Symbol}
use Rattle.kex_code.specs.Codes.{bytes_of, Begins, AtMost}
use Rattle.kex_model.specs.Moves.{accept, Step, code_of, Walk}
use Rattle.kex_model.specs.Acting.{ActingState, after_steps}
use Rattle.kex_model.specs.Survivors.{Agreed, Greedy, IsViable, LongestViable}
use Rattle.kex_model.specs.Answers.{Answer, Answers}
use Rattle.kex_machine.specs.Nodes.{Graph, node_moves}

-- nothing is written, no buffer is open, and all registers are empty
abbrev pub start_state : ℕ → ActingState
start_state registers = record { out = []; buffers = []; registers = replicate registers [] }

module _ (g : Graph) where
  abbrev pub IsViableFor : List ℕ → Type 0
  IsViableFor w = IsViable (node_moves g.nodes) g.start w

  -- the steps lead from the start to the end
  abbrev pub IsRun : List (Step ℕ) → Type 0
  IsRun ks = (e : ℕ) × Walk (node_moves g.nodes) g.start ks e × (node_moves g.nodes e ≡ accept)

  abbrev pub HasRun : List ℕ → Type 0
  HasRun w = (ks : List (Step ℕ)) × IsRun ks × (bytes_of (code_of ks) ≡ w)

  -- what is left when a run was followed as far as the code goes
  abbrev pub left_by : List (Step ℕ) → List Symbol → ActingState
  left_by ks c = after_steps ks c (start_state g.registers)

  -- the text that is said on w where a code is found for w: what a run on a text that begins with w
  -- does with the symbols of that code
  pub record SaysTold (Told : List ℕ → List Symbol → Type 0) (w text : List ℕ) : Type 0 where
    pub agreed : List Symbol
    pub is_agreed : Told w agreed
    pub run : List (Step ℕ)
    pub runs : IsRun run
    pub reads : Begins (bytes_of (code_of run)) w
    pub begins : Begins (code_of run) agreed
    pub said : text ≡ (left_by run agreed).out

  -- the code is what the survivors agree on
  abbrev pub SaysByRun : List ℕ → List ℕ → Type 0
  SaysByRun w text = SaysTold (Agreed (node_moves g.nodes) g.start) w text

  -- the text that w means
  pub record MeansByRun (w text : List ℕ) : Type 0 where
    pub greedy : List Symbol
    pub is_greedy : Greedy (node_moves g.nodes) g.start w greedy
    pub least : (d : List Symbol) → Greedy (node_moves g.nodes) g.start w d → AtMost greedy d
    pub run : List (Step ℕ)
    pub runs : IsRun run
    pub codes : code_of run ≡ greedy
    pub meant : text ≡ (left_by run greedy).out

  -- the stage's answer on w, open or (true) ended, within a limit
  abbrev pub MachineAnswers : ℕ → List ℕ → Bool → Answer → Type 0
  MachineAnswers limit w e a = Answers IsViableFor SaysByRun HasRun MeansByRun limit w e a

-- c is agreed of the longest front of w that is viable: of w itself where w is viable
pub record IsSaid (g : Graph) (w : List ℕ) (c : List Symbol) : Type 0 where
  pub of : List ℕ
  pub longest : LongestViable (node_moves g.nodes) g.start w of
  pub agreed : Agreed (node_moves g.nodes) g.start of c

-- c is the code of the greedy parse of w: of the paths to the end the least
pub record IsGreedy (g : Graph) (w : List ℕ) (c : List Symbol) : Type 0 where
  pub parse : HasRun g w
  pub greedy : Greedy (node_moves g.nodes) g.start w c
  pub least : (d : List Symbol) → Greedy (node_moves g.nodes) g.start w d → AtMost c d
