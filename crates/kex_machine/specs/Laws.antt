-- Laws of paths, runs and a stage's answers over nodes.
use Rattle.std.specs.Prelude.{◌≡◌, ℕ, ◌<◌, Bool, false, List, ◌++◌, None, IsSome, is_none, ◌&&◌}
use Rattle.std.specs.Prelude.{length}
use Rattle.kex_code.specs.declared.symbol.Symbol.{Symbol}
use Rattle.kex_code.specs.Codes.{Begins}
use Rattle.kex_model.specs.Moves.{accept, Step, code_of}
use Rattle.kex_model.specs.Survivors.{IsPath, Reaches, Agreed, Greedy}
use Rattle.kex_model.specs.Answers.{Answer}
use Rattle.kex_machine.specs.Nodes.{Graph, node_moves}
use Rattle.kex_machine.specs.Answers.{IsRun, HasRun, left_by, IsViableFor, SaysByRun, MeansByRun}
use Rattle.kex_machine.specs.Answers.{MachineAnswers}

-- of two paths on one text neither code is a proper prefix of the other, and equal codes are of
-- equal paths
abbrev pub OneRunPath : Graph → Type 0
OneRunPath g = (w : List ℕ) (p q : ℕ) (js ks : List (Step ℕ))
    → IsPath (node_moves g.nodes) g.start w p js → IsPath (node_moves g.nodes) g.start w q ks
    → Begins (code_of ks) (code_of js) → js ≡ ks

-- a text that has a run to the end has a path to it, which is then a parse
abbrev pub RunsHavePaths : Graph → Type 0
RunsHavePaths g = (w : List ℕ) → HasRun g w → (e : ℕ) × (c : List Symbol)
    × (node_moves g.nodes e ≡ accept) × Reaches (node_moves g.nodes) g.start w e c

-- all runs whose codes begin with c leave the same when they are followed so far
abbrev pub OneLeft : Graph → Type 0
OneLeft g = (js ks : List (Step ℕ)) (c : List Symbol) → IsRun g js → IsRun g ks
    → Begins (code_of js) c → Begins (code_of ks) c → left_by g js c ≡ left_by g ks c

-- what is agreed and what is said grow with the text, up to the greedy code and the meaning
pub record RunsGrow (g : Graph) (w v : List ℕ) : Type 0 where
  pub viable : IsViableFor g (w ++ v) → IsViableFor g w
  pub agreed : (c d : List Symbol) → Agreed (node_moves g.nodes) g.start w c
      → Agreed (node_moves g.nodes) g.start (w ++ v) d → Begins d c
  pub greedy : (c d : List Symbol) → Agreed (node_moves g.nodes) g.start w c
      → Greedy (node_moves g.nodes) g.start (w ++ v) d → Begins d c
  pub said : (s t : List ℕ) → SaysByRun g w s → SaysByRun g (w ++ v) t → Begins t s
  pub meant : (s t : List ℕ) → SaysByRun g w s → MeansByRun g (w ++ v) t → Begins t s

-- on each text there is at most one answer; the text grows, and a stop stays; past the limit there
-- is a stop
pub record MachineAnswersStand (g : Graph) (n : ℕ) : Type 0 where
  pub one : (w : List ℕ) (e : Bool) (a b : Answer) → MachineAnswers g n w e a
      → MachineAnswers g n w e b → a ≡ b
  pub grows : (w v : List ℕ) (e : Bool) (a b : Answer) → MachineAnswers g n w false a
      → MachineAnswers g n (w ++ v) e b → Begins b.text a.text
  pub stays : (w v : List ℕ) (e : Bool) (a b : Answer) → MachineAnswers g n w false a
      → MachineAnswers g n (w ++ v) e b → (a.stop ≡ None → ⊥) → b ≡ a
  pub ends : (w : List ℕ) (e : Bool) (a : Answer) → MachineAnswers g n w e a
      → a.ended ≡ (e && is_none a.stop)
  pub past_limit : (w : List ℕ) (e : Bool) (a : Answer) → MachineAnswers g n w e a → n < length w
      → IsSome a.stop
