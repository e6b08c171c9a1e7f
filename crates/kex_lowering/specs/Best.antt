-- What is best of a text, said of a stage's places, and that its machine has the same.
use Rattle.std.specs.Prelude.{◌≡◌, ◌↔◌, ℕ, Bool, false, List, ◌++◌, Option, None, length}
use Rattle.kex_code.specs.Codes.{Begins}
use Rattle.kex_code.specs.declared.symbol.Symbol.{Symbol}
use Rattle.kex_model.specs.Programs.{Grammar}
use Rattle.kex_model.specs.Trees.{Tree, Parses, kind_at, part_meaning}
use Rattle.kex_model.specs.Answers.{GreedyParse, HasParse, Means, Viable, code_at, empty}
use Rattle.kex_model.specs.Answers.{Answer, Answers, Report, Pipeline}
use Rattle.kex_machine.specs.Nodes.{Graph}
use Rattle.kex_machine.specs.Covering.{Best, BestAnswers, SaysBest, cut_behind}
use Rattle.kex_lowering.specs.Stages.{IsKeptOf}

module _ (P : Grammar) (root : ℕ) where
  -- c is the longest common prefix of the greedy codes of all texts that begin with w and have a
  -- parse, each cut where w ends
  pub record BestCode (w : List ℕ) (c : List Symbol) : Type 0 where
    pub viable : Viable P root w
    pub common : (x : List ℕ) (t : Tree) → GreedyParse P root (w ++ x) t
        → Begins (cut_behind (length w) (code_at P root t)) c
    pub longest : (c' : List Symbol) → ((x : List ℕ) (t : Tree) → GreedyParse P root (w ++ x) t
        → Begins (cut_behind (length w) (code_at P root t)) c') → Begins c c'

  -- the text that is said on w by a stage that says what is best: what any tree of a text that
  -- begins with w does with the symbols of that code
  pub record SaysBestCode (w text : List ℕ) : Type 0 where
    pub best : List Symbol
    pub is_best : BestCode w best
    pub tree : Tree
    pub more : List ℕ
    pub parses : Parses P root tree (w ++ more)
    pub begins : Begins (code_at P root tree) best
    pub said : text ≡ (part_meaning P (kind_at P root) tree best (empty P)).bytes

  -- the stage's answer then
  abbrev pub StageAnswersBest : ℕ → List ℕ → Bool → Answer → Type 0
  StageAnswersBest limit w e a =
      Answers (Viable P root) SaysBestCode (HasParse P root) (Means P root) limit w e a

  -- a machine tells what is best as the stage does
  pub record CarriesBest (m : Graph) : Type 0 where
    pub best : (w : List ℕ) (c : List Symbol) → BestCode w c ↔ Best m w c
    pub says : (w text : List ℕ) → SaysBestCode w text ↔ SaysBest m w text
    pub answers : (limit : ℕ) (w : List ℕ) (e : Bool) (a : Answer)
        → StageAnswersBest limit w e a ↔ BestAnswers m limit w e a

  -- on each text the stage has at most one answer; the text grows, and a stop stays
  pub record BestStageStands (limit : ℕ) : Type 0 where
    pub one : (w : List ℕ) (e : Bool) (a b : Answer) → StageAnswersBest limit w e a
        → StageAnswersBest limit w e b → a ≡ b
    pub grows : (w v : List ℕ) (e : Bool) (a b : Answer) → StageAnswersBest limit w false a
        → StageAnswersBest limit (w ++ v) e b → Begins b.text a.text
    pub stays : (w v : List ℕ) (e : Bool) (a b : Answer) → StageAnswersBest limit w false a
        → StageAnswersBest limit (w ++ v) e b → (a.stop ≡ None → ⊥) → b ≡ a

-- the stages by their roots, each of which tells what is best
abbrev pub StagesAnswerBest : Grammar → ℕ → List ℕ → List ℕ → Bool → List ℕ → Option Report
    → Type 0
StagesAnswerBest P limit roots w e text report =
    Pipeline (λ root v f a. StageAnswersBest P root limit v f a) 1 roots w e text report

-- what is left of a stage's machine tells what is best as the stage does
abbrev pub NodesTellBestAsPlaces : Type 0
NodesTellBestAsPlaces = (P : Grammar) (root : ℕ) (m : Graph) → IsKeptOf P root m
    → CarriesBest P root m

abbrev pub BestStagesStand : Type 0
BestStagesStand = (P : Grammar) (root limit : ℕ) → BestStageStands P root limit
