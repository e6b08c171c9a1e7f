-- What an oracle has told whose code is written, be it a frontier or a runner of a table.
use Rattle.std.specs.Prelude.{◌≡◌, ℕ, Bool, true, false, IsTrue, List, ◌++◌, Option, Some, None}
use Rattle.std.specs.Prelude.{[], length, take}
use Rattle.kex_code.specs.declared.symbol.Symbol.{Symbol}
use Rattle.kex_code.specs.Texts.{text_of}
use Rattle.kex_model.specs.Survivors.{Agreed}
use Rattle.kex_machine.specs.Nodes.{Graph, node_moves, IsTrimmed}
use Rattle.kex_machine.specs.Answers.{HasRun, IsGreedy, IsViableFor}
use Rattle.kex_frontier.specs.Frontiers.{IsFed}
use Rattle.kex_runner.specs.Running.{Running, IsRunOf, IsRunnerFed}
use Rattle.kex_runner.specs.declared.answers.Fed.{Fed}
use Rattle.kex_sst.specs.Machines.{IsTableOf}
use Rattle.kex_single.specs.Standing.{MachineGoesOn}
use Rattle.kex_single.specs.declared.code_oracle.CodeOracle.{CodeOracle}
use Rattle.kex_single.specs.declared.code_oracle.CodeOracle.TheVariants.{Paths, Table}

-- the oracle is one of this machine, was fed w, and has told c
abbrev pub HasTold : Graph → CodeOracle → List ℕ → List Symbol → Type 0
HasTold g (Paths f) w c = (f.machine ≡ g) × IsFed f w c
HasTold g (Table t) w c = IsTrimmed g × IsTableOf g t.runner.table × IsRunOf t.runner w c

abbrev pub is_usable : CodeOracle → Bool
is_usable (Paths f) = f.usable
is_usable (Table t) = t.runner.usable

-- whether it was given the end
abbrev pub has_ended : CodeOracle → Bool
has_ended (Paths f) = f.ended
has_ended (Table t) = t.runner.ended

-- it can be fed
abbrev pub IsOpen : CodeOracle → Type 0
IsOpen o = IsTrue (is_usable o) × (has_ended o ≡ false)

-- how many bytes its runner has counted, if it has one
abbrev pub read_by : CodeOracle → ℕ
read_by (Paths f) = 0
read_by (Table t) = t.runner.read

-- the survivors of w agree on c
abbrev pub AgreeOn : Graph → List ℕ → List Symbol → Type 0
AgreeOn g = Agreed (node_moves g.nodes) g.start

-- the bytes of a piece before the one with which no parse begins
abbrev pub good_of : List ℕ → Option ℕ → List ℕ
good_of piece None = piece
good_of piece (Some k) = take k piece

-- a piece was taken after w, of which c was told; what it says more was written as text
pub record TellsMore (g : Graph) (new : CodeOracle) (w piece : List ℕ) (bad : Option ℕ)
    (c : List Symbol) (before after : List ℕ) : Type 0 where
  pub more : List Symbol
  pub written : after ≡ before ++ text_of more
  pub goes : MachineGoesOn g w piece bad
  pub agreed : AgreeOn g (w ++ good_of piece bad) (c ++ more)
  pub told : bad ≡ None → HasTold g new (w ++ piece) (c ++ more)

-- what the end shows after w: a parse, of which c is the greedy code, or none
abbrev pub ShowsCode : Bool → Graph → List ℕ → List Symbol → Type 0
ShowsCode true g w c = IsGreedy g w c
ShowsCode false g w c = (¬ HasRun g w) × AgreeOn g w c

-- the end came after w, of which c was told, and the text of the rest was written
pub record TellsLast (g : Graph) (w : List ℕ) (parsed : Bool) (c : List Symbol)
    (before after : List ℕ) : Type 0 where
  pub more : List Symbol
  pub written : after ≡ before ++ text_of more
  pub shows : ShowsCode parsed g w (c ++ more)

-- the oracle was fed w, and the text of its code was written
pub record CodeFollows (g : Graph) (o : CodeOracle) (read : ℕ) (w text : List ℕ) : Type 0 where
  pub code : List Symbol
  pub told : HasTold g o w code
  pub written : text ≡ text_of code
  pub count : read ≡ length w
  pub good : IsViableFor g w

-- a runner was fed a piece, and the text of what it passes on was written
pub record WritesFed (answer : Fed) (old new : Running) (piece before after : List ℕ) : Type 0 where
  pub more : List Symbol
  pub written : after ≡ before ++ text_of more
  pub fed : (w : List ℕ) (c : List Symbol) → IsRunOf old w c
      → IsRunnerFed answer new (w ++ piece) (c ++ more)
  pub told : new.pending ≡ []
