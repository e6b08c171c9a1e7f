-- That there is an answer, and what a viable text is.
use Rattle.std.specs.Prelude.{ℕ, ◌<◌, ◌++◌, ◌↔◌, Bool, List, length}
use Rattle.kex_model.specs.Programs.{Grammar}
use Rattle.kex_model.specs.Answers.{Answer, HasParse, Viable}
use Rattle.kex_machine.specs.Nodes.{Graph, IsTrimmed, StaysWithin}
use Rattle.kex_lowering.specs.Stages.{IsKeptOf}
use Rattle.kex_machine.specs.Answers as nodes
use Rattle.kex_model.specs.Laws as stages

-- on each text, open or ended, the machine has an answer
abbrev pub MachineHasAnswers : Graph → Type 0
MachineHasAnswers g = (limit : ℕ) (w : List ℕ) (e : Bool) → (a : Answer)
    × nodes.MachineAnswers g limit w e a

-- so has each whose nodes lead to nodes, and all of them to the end
abbrev pub MachinesHaveAnswers : Type 0
MachinesHaveAnswers = (g : Graph) → StaysWithin g.nodes → g.start < length g.nodes → IsTrimmed g
    → MachineHasAnswers g

-- and each stage that has a machine
abbrev pub StagesHaveAnswers : Type 0
StagesHaveAnswers = (P : Grammar) (root : ℕ) (m : Graph) → IsKeptOf P root m
    → (limit : ℕ) (w : List ℕ) (e : Bool) → (a : Answer) × stages.StageAnswers P root limit w e a

-- a text is viable exactly where some text that begins with it has a parse
abbrev pub ViableTextsGoOn : Type 0
ViableTextsGoOn = (P : Grammar) (root : ℕ) (m : Graph) → IsKeptOf P root m → (w : List ℕ)
    → Viable P root w ↔ ((v : List ℕ) × HasParse P root (w ++ v))
