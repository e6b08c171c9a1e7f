-- A stage's machine, said of the stage's places.
use Rattle.std.specs.Prelude.{◌≡◌, ◌↔◌, ℕ, Bool, List, length}
use Rattle.kex_code.specs.Codes.{HasNumber}
use Rattle.kex_code.specs.declared.symbol.Symbol.{Symbol}
use Rattle.kex_model.specs.Programs.{Grammar}
use Rattle.kex_model.specs.Places.{Place, IsPlace, moves, start_of}
use Rattle.kex_model.specs.Survivors.{LeadsToEnd, Survives, Agreed, Greedy, IsViable}
use Rattle.kex_model.specs.Moves.{Step, code_of}
use Rattle.kex_model.specs.Trees.{Tree, IsTree, kind_at, part_meaning}
use Rattle.kex_model.specs.Answers.{Answer}
use Rattle.kex_machine.specs.Nodes.{Graph, node_moves}
use Rattle.kex_desugar.specs.Machines.{HasMore, IsMachineOf}
use Rattle.kex_trim.specs.Trim.{IsTrimOf}
use Rattle.kex_lowering.specs.declared.refusal.StageRefusal.{StageRefusal}
use Rattle.kex_lowering.specs.declared.refusal.StageRefusal.TheVariants.{TooManyPlaces, NoText}
use Rattle.kex_lowering.specs.declared.refusal.StageRefusal.TheVariants.{Memory}
use Rattle.kex_model.specs.Answers as places
use Rattle.kex_model.specs.Laws as stages
use Rattle.kex_machine.specs.Answers as nodes

module _ (P : Grammar) (root : ℕ) (m : Graph) where
  -- each survivor has a partner with the same code
  pub record SameSurvivors (w : List ℕ) : Type 0 where
    pub to_node : (p : Place) (c : List Symbol) → Survives (moves P) (start_of P root) w p c
        → (n : ℕ) × Survives (node_moves m.nodes) m.start w n c
    pub to_place : (n : ℕ) (c : List Symbol) → Survives (node_moves m.nodes) m.start w n c
        → (p : Place) × Survives (moves P) (start_of P root) w p c

  -- the tree and the run have one code; with any front of it they write the same, and leave the
  -- same registers
  pub record SameRun (t : Tree) (ks : List (Step ℕ)) : Type 0 where
    pub codes : code_of ks ≡ places.code_at P root t
    pub written : (c : List Symbol)
        → (nodes.left_by m ks c).out ≡ (part_meaning P (kind_at P root) t c (places.empty P)).bytes
    pub registers : (c : List Symbol) → (nodes.left_by m ks c).registers
        ≡ (part_meaning P (kind_at P root) t c (places.empty P)).registers

  -- the machine answers as the stage does
  pub record Carries : Type 0 where
    pub some_text : LeadsToEnd (moves P) (start_of P root)
    pub survivors : (w : List ℕ) → SameSurvivors w
    pub viable : (w : List ℕ) → IsViable (moves P) (start_of P root) w
        ↔ IsViable (node_moves m.nodes) m.start w
    pub agreed : (w : List ℕ) (c : List Symbol) → Agreed (moves P) (start_of P root) w c
        ↔ Agreed (node_moves m.nodes) m.start w c
    pub greedy : (w : List ℕ) (c : List Symbol) → Greedy (moves P) (start_of P root) w c
        ↔ Greedy (node_moves m.nodes) m.start w c
    pub parsed : (w : List ℕ) → places.HasParse P root w ↔ nodes.HasRun m w
    pub says : (w text : List ℕ) → places.Says P root w text ↔ nodes.SaysByRun m w text
    pub means : (w text : List ℕ) → places.Means P root w text ↔ nodes.MeansByRun m w text
    pub answers : (limit : ℕ) (w : List ℕ) (e : Bool) (a : Answer)
        → stages.StageAnswers P root limit w e a ↔ nodes.MachineAnswers m limit w e a
    pub registers : m.registers ≡ P.registers
    pub runs : (t : Tree) → IsTree P (kind_at P root) t → (ks : List (Step ℕ)) × nodes.IsRun m ks
        × SameRun t ks
    pub trees : (ks : List (Step ℕ)) → nodes.IsRun m ks → (t : Tree) × IsTree P (kind_at P root) t
        × SameRun t ks

-- the machine has the stage's places for nodes, one to one, and of them those that lead to the end:
-- so it has the stage's paths to the places that it keeps, and their shapes
pub record IsKeptOf (P : Grammar) (root : ℕ) (kept : Graph) : Type 0 where
  pub whole : Graph
  pub of_places : IsMachineOf P root whole
  pub trimmed : IsTrimOf whole kept

-- what a stage's machine leaves when it is trimmed answers as the stage does
abbrev pub NodesAnswerAsPlaces : Type 0
NodesAnswerAsPlaces = (P : Grammar) (root : ℕ) (m t : Graph) → IsMachineOf P root m → IsTrimOf m t
    → Carries P root t

-- the stage has just `count` places: each is once in a list of this length, and nothing else is
pub record HasPlaces (P : Grammar) (root count : ℕ) : Type 0 where
  pub places : List Place
  pub long : length places ≡ count
  pub each : (p : Place) (i : ℕ) → HasNumber places p i → IsPlace P root p
  pub all : (p : Place) → IsPlace P root p → (i : ℕ) × HasNumber places p i
  pub once : (p : Place) (i j : ℕ) → HasNumber places p i → HasNumber places p j → i ≡ j

-- why a stage has no machine: no cause of a lower number is there
abbrev pub IsWhy : Grammar → ℕ → ℕ → StageRefusal → Type 0
IsWhy P root max TooManyPlaces = HasMore P root max
IsWhy P root max NoText = (HasMore P root max → ⊥) × (LeadsToEnd (moves P) (start_of P root) → ⊥)
IsWhy P root max Memory = Unit {0}
