-- What an oracle stands for, whether it goes by paths or by a table: the bytes that it was fed, and
-- the code that it has told.
use Rattle.std.specs.Prelude.{◌≡◌, ℕ, ◌<◌, ◌≤◌, ◌+◌, Bool, true, false, IsTrue, List, ◌++◌, length}
use Rattle.std.specs.Prelude.{take}
use Rattle.kex_code.specs.declared.symbol.Symbol.{Symbol}
use Rattle.kex_code.specs.Codes.{Begins, bytes_of}
use Rattle.kex_model.specs.Moves.{Step, code_of}
use Rattle.kex_model.specs.Survivors.{Survives}
use Rattle.kex_machine.specs.Nodes.{Graph, node_moves, IsTrimmed}
use Rattle.kex_machine.specs.Answers.{IsViableFor, IsRun, HasRun, IsGreedy}
use Rattle.kex_frontier.specs.Frontiers.{Front, IsFed}
use Rattle.kex_frontier.specs.declared.frontier.Ended.{Ended}
use Rattle.kex_frontier.specs.declared.frontier.Ended.TheVariants.{Parsed, Cut}
use Rattle.kex_runner.specs.Running as runs
use Rattle.kex_plan.specs.Plans.{IsTableAs, ToldBy}
use Rattle.kex_plan.specs.declared.plan.Telling.{Telling}
use Rattle.kex_plan.specs.declared.plan.Telling.TheVariants as telling
use Rattle.kex_stage.specs.declared.oracle.Oracle.{Oracle}
use Rattle.kex_stage.specs.declared.oracle.Oracle.TheVariants.{Paths, Table}

-- the oracle was fed w, and has told c: paths tell what is agreed
abbrev pub Hears : Telling → Graph → Oracle → List ℕ → List Symbol → Type 0
Hears k g (Paths p) w c = (k ≡ telling.Agreed) × (p.frontier.machine ≡ g) × IsFed p.frontier w c
Hears k g (Table f) w c = IsTrimmed g × IsTableAs k g f.runner.table
    × (f.moves.table ≡ f.runner.table) × runs.IsRunOf f.runner w c

-- the oracle is one of this machine, and tells this
abbrev pub IsOracleFor : Telling → Graph → Oracle → Type 0
IsOracleFor k g (Paths p) = (k ≡ telling.Agreed) × (p.frontier.machine ≡ g)
IsOracleFor k g (Table f) = IsTrimmed g × IsTableAs k g f.runner.table

-- how many good bytes it has read
abbrev pub read_of : Oracle → ℕ
read_of (Paths p) = p.read
read_of (Table f) = f.runner.read

abbrev pub usable_of : Oracle → Bool
usable_of (Paths p) = p.frontier.usable
usable_of (Table f) = f.runner.usable

-- whether it was given the end
abbrev pub oracle_ended : Oracle → Bool
oracle_ended (Paths p) = p.frontier.ended
oracle_ended (Table f) = f.runner.ended

-- it can be fed
abbrev pub IsReady : Oracle → Type 0
IsReady o = IsTrue (usable_of o) × (oracle_ended o ≡ false)

-- the machine that was learnt, if one was
abbrev pub learnt_of : Oracle → Graph → Graph
learnt_of (Paths p) g = g
learnt_of (Table f) g = f.moves.machine

-- some survivor of w
abbrev pub HasSurvivor : Graph → List ℕ → Type 0
HasSurvivor g w = (q : ℕ) × (c : List Symbol) × Survives (node_moves g.nodes) g.start w q c

-- an oracle tells c of w; it begins the code of some run, and w begins that run's text
pub record Agrees (k : Telling) (g : Graph) (w : List ℕ) (c : List Symbol) : Type 0 where
  pub told : ToldBy k g w c
  pub run : List (Step ℕ)
  pub runs : IsRun g run
  pub begins : Begins (code_of run) c
  pub reads : Begins (bytes_of (code_of run)) w

-- of a piece after w `count` bytes are good; where that is all of it, the oracle has told c
pub record HearsOn (k : Telling) (g : Graph) (o : Oracle) (w piece : List ℕ) (count : ℕ)
    (c : List Symbol) : Type 0 where
  pub hears : count ≡ length piece → Hears k g o (w ++ piece) c
  pub good : IsViableFor g (w ++ take count piece)
  pub bad : count < length piece → ¬ IsViableFor g (w ++ take (count + 1) piece)
  pub agrees : Agrees k g (w ++ take count piece) c

-- the oracle was fed a piece, and has told what there is to tell
pub record Tells (old new : Oracle) (piece : List ℕ) (count : ℕ)
    (before after : List Symbol) : Type 0 where
  pub more : List Symbol
  pub code : after ≡ before ++ more
  pub within : count ≤ length piece
  pub tells : (k : Telling) (g : Graph) (w : List ℕ) (c : List Symbol) → Hears k g old w c
      → IsViableFor g w → HearsOn k g new w piece count (c ++ more)

-- what the end shows after w: a parse, of which c is the greedy code, or none
abbrev pub ShowsEnd : Bool → Telling → Graph → List ℕ → List Symbol → Type 0
ShowsEnd true k g w c = IsGreedy g w c
ShowsEnd false k g w c = (¬ HasRun g w) × Agrees k g w c

-- the oracle was given the end
pub record TellsEnd (parsed : Bool) (old : Oracle) (before after : List Symbol) : Type 0 where
  pub more : List Symbol
  pub code : after ≡ before ++ more
  pub tells : (k : Telling) (g : Graph) (w : List ℕ) (c : List Symbol) → Hears k g old w c
      → IsViableFor g w → ShowsEnd parsed k g w (c ++ more)

-- going by paths, `count` bytes of a piece after w are good: the frontier was fed them, and the
-- byte after them, if there is one
pub record ReadsOn (f : Front) (g : Graph) (w piece : List ℕ) (count : ℕ)
    (c : List Symbol) : Type 0 where
  pub good : IsViableFor g (w ++ take count piece)
  pub survivor : HasSurvivor g (w ++ take count piece)
  pub all : count ≡ length piece → IsFed f (w ++ piece) c
  pub bad : count < length piece → (¬ IsViableFor g (w ++ take (count + 1) piece))
      × IsFed f (w ++ take (count + 1) piece) c

abbrev pub OracleReads : Front → Front → List ℕ → ℕ → Type 0
OracleReads old new piece count = (w : List ℕ) (c : List Symbol) → IsFed old w c
    → IsViableFor old.machine w → ReadsOn new old.machine w piece count c

abbrev pub is_parsed : Ended → Bool
is_parsed Parsed = true
is_parsed Cut = false
