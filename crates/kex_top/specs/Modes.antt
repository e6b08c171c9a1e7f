-- What each command says of the bytes of its input.
use Rattle.std.specs.Prelude.{◌≡◌, ℕ, Bool, true, false, List, []}
use Rattle.kex_code.specs.declared.symbol.Symbol.{Symbol}
use Rattle.kex_code.specs.Codes.{AtMost, Begins}
use Rattle.kex_code.specs.Texts.{text_of}
use Rattle.kex_model.specs.Programs.{Grammar}
use Rattle.kex_model.specs.Places.{moves, start_of}
use Rattle.kex_model.specs.Survivors.{Agreed, Greedy}
use Rattle.kex_model.specs.Answers.{Answer, Answers, HasParse, Viable, code_at, empty}
use Rattle.kex_machine.specs.Nodes.{Graph}
use Rattle.kex_machine.specs.Answers as machine
use Rattle.kex_machine.specs.Covering.{BestAnswers}
use Rattle.kex_lowering.specs.Best.{StageAnswersBest}
use Rattle.kex_model.specs.Laws.{StageAnswers}
use Rattle.kex_model.specs.Trees.{Tree, IsTree, kind_at, part_meaning}
use Rattle.kex_single.specs.Plays.{Plays}
use Rattle.kex_single.specs.Plays as plays
use Rattle.kex_single.specs.Singles as nodes
use Rattle.kex_compile.specs.Stages.{roots_of}
use Rattle.kex_compile.specs.declared.limits.Limits.{Limits}
use Rattle.kex_words.specs.Words.{Mode}
use Rattle.kex_words.specs.Words.Mode.{running, coding, acting, testing}
use Rattle.kex_pipeline.specs.Sayings.{Said, PipelineSays, StagesSay}

-- what is asked of a program: where its input is run through its stages, that no stage has more
-- than this many states, and, where that is optimal, none too many pairs; otherwise that it has one
-- stage
abbrev pub limits_of : Mode → Limits
limits_of (running states optimal) =
    record { states = states; one_stage = false; tables = true; optimal = optimal }
limits_of coding = record { states = 4096; one_stage = true; tables = false; optimal = false }
limits_of acting = record { states = 4096; one_stage = true; tables = false; optimal = false }
limits_of testing = record { states = 4096; one_stage = true; tables = false; optimal = false }

-- of a program to check
abbrev pub limits_to_check : ℕ → Limits
limits_to_check states = limits_of (running states false)

module _ (P : Grammar) (root : ℕ) where
  -- the text of what the survivors of w agree on
  abbrev pub SaysCode : List ℕ → List ℕ → Type 0
  SaysCode w text = (c : List Symbol) × Agreed (moves P) (start_of P root) w c × (text ≡ text_of c)

  -- c is the code of the greedy parse of w: of the paths to the end the least
  pub record IsGreedyCode (w : List ℕ) (c : List Symbol) : Type 0 where
    pub parse : HasParse P root w
    pub greedy : Greedy (moves P) (start_of P root) w c
    pub least : (d : List Symbol) → Greedy (moves P) (start_of P root) w d → AtMost c d

  -- the text of the greedy code of w
  abbrev pub MeansCode : List ℕ → List ℕ → Type 0
  MeansCode w text = (c : List Symbol) × IsGreedyCode w c × (text ≡ text_of c)

  abbrev pub SaysNothing : List ℕ → List ℕ → Type 0
  SaysNothing w text = text ≡ []

  abbrev pub HasParseAlone : List ℕ → List ℕ → Type 0
  HasParseAlone w text = Viable P root w × HasParse P root w × (text ≡ [])

  -- the code of w, open or (true) ended, within a limit
  abbrev pub CodeAnswers : ℕ → List ℕ → Bool → Answer → Type 0
  CodeAnswers limit w e a = Answers (Viable P root) SaysCode (HasParse P root) MeansCode limit w e a

  -- whether w has a parse
  abbrev pub TestAnswers : ℕ → List ℕ → Bool → Answer → Type 0
  TestAnswers limit w e a =
      Answers (Viable P root) SaysNothing (HasParse P root) HasParseAlone limit w e a

  -- c begins the code of a tree
  abbrev pub BeginsTreeCode : List Symbol → Type 0
  BeginsTreeCode c = (t : Tree) × IsTree P (kind_at P root) t × Begins (code_at P root t) c

  -- c is the whole code of a tree
  abbrev pub IsTreeCode : List Symbol → Type 0
  IsTreeCode c = (t : Tree) × IsTree P (kind_at P root) t × (code_at P root t ≡ c)

  -- the bytes of the part of a tree that its code's front c gives
  abbrev pub WritesPart : List Symbol → List ℕ → Type 0
  WritesPart c text = (t : Tree) × IsTree P (kind_at P root) t × Begins (code_at P root t) c
      × (text ≡ (part_meaning P (kind_at P root) t c (empty P)).bytes)

  -- what w means as the text of a code, within a limit
  abbrev pub ActAnswers : ℕ → List ℕ → Bool → Answer → Type 0
  ActAnswers limit w e a = Plays BeginsTreeCode IsTreeCode WritesPart limit w e a

-- the answer of a stage that begins there: to a run by what its survivors agree on, and to an
-- optimal one by what is best
abbrev pub StageGives : Mode → Grammar → ℕ → ℕ → List ℕ → Bool → Answer → Type 0
StageGives (running states false) P limit root w e a = StageAnswers P root limit w e a
StageGives (running states true) P limit root w e a = StageAnswersBest P root limit w e a
StageGives coding P limit root w e a = CodeAnswers P root limit w e a
StageGives acting P limit root w e a = ActAnswers P root limit w e a
StageGives testing P limit root w e a = TestAnswers P root limit w e a

-- over a machine
abbrev pub MachineGives : Mode → ℕ → Graph → List ℕ → Bool → Answer → Type 0
MachineGives (running states false) limit m w e a = machine.MachineAnswers m limit w e a
MachineGives (running states true) limit m w e a = BestAnswers m limit w e a
MachineGives coding limit m w e a = nodes.MachineCodeAnswers m limit w e a
MachineGives acting limit m w e a = plays.MachineActAnswers m limit w e a
MachineGives testing limit m w e a = nodes.MachineTestAnswers m limit w e a

-- what a program says of an input
abbrev pub SaysBy : Mode → Grammar → ℕ → List ℕ → Bool → Said → Type 0
SaysBy mode P limit w e said =
    PipelineSays (λ root v d a. StageGives mode P limit root v d a) (roots_of P) w e said

-- what its machines say
abbrev pub MachinesSay : Mode → ℕ → List Graph → List ℕ → Bool → Said → Type 0
MachinesSay mode limit ms w e said =
    StagesSay (λ m v d a. MachineGives mode limit m v d a) ms w e said
