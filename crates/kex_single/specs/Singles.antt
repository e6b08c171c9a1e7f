-- What one stage answers by itself: the code of its input, or that there is a parse.
use Rattle.std.specs.Prelude.{◌≡◌, ℕ, Bool, List, []}
use Rattle.kex_code.specs.declared.symbol.Symbol.{Symbol}
use Rattle.kex_code.specs.Texts.{text_of}
use Rattle.kex_model.specs.Answers.{Answer, Answers}
use Rattle.kex_model.specs.Survivors.{Agreed}
use Rattle.kex_machine.specs.Nodes.{Graph, node_moves}
use Rattle.kex_machine.specs.Answers.{IsViableFor, HasRun, IsGreedy}
use Rattle.kex_pipe.specs.Working.{BoundedPlan}

-- a machine, and the most bytes that it takes
abbrev pub Single : Type 0
Single = BoundedPlan Graph

module _ (g : Graph) where
  -- the text of what the survivors of w agree on
  abbrev pub SaysSharedCode : List ℕ → List ℕ → Type 0
  SaysSharedCode w text = (c : List Symbol) × Agreed (node_moves g.nodes) g.start w c
      × (text ≡ text_of c)

  -- the text of the greedy code of w
  abbrev pub MeansRunCode : List ℕ → List ℕ → Type 0
  MeansRunCode w text = (c : List Symbol) × IsGreedy g w c × (text ≡ text_of c)

  -- the code of w, open or (true) ended, within a limit
  abbrev pub MachineCodeAnswers : ℕ → List ℕ → Bool → Answer → Type 0
  MachineCodeAnswers limit w e a =
      Answers (IsViableFor g) SaysSharedCode (HasRun g) MeansRunCode limit w e a

  abbrev pub SaysNoText : List ℕ → List ℕ → Type 0
  SaysNoText w text = text ≡ []

  -- w has a parse, and nothing is written
  abbrev pub HasRunAlone : List ℕ → List ℕ → Type 0
  HasRunAlone w text = IsViableFor g w × HasRun g w × (text ≡ [])

  -- whether w has a parse
  abbrev pub MachineTestAnswers : ℕ → List ℕ → Bool → Answer → Type 0
  MachineTestAnswers limit w e a =
      Answers (IsViableFor g) SaysNoText (HasRun g) HasRunAlone limit w e a
