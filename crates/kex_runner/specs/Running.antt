-- What a runner stands for: the bytes that it was fed, and the code that it has passed on.
use Rattle.std.specs.Prelude.{◌≡◌, ℕ, ◌⊎◌, Bool, true, false, length, List, [], ◌∷◌, ◌++◌, Option}
use Rattle.std.specs.Prelude.{Some, None, if◌then◌else◌}
use Rattle.kex_code.specs.declared.symbol.Symbol.{Symbol}
use Rattle.kex_sst.specs.declared.parts.Part.{Part}
use Rattle.kex_sst.specs.Tables.{Transducer}
use Rattle.kex_sst.specs.Passes.{Pass, passes, whole_code}
use Rattle.kex_runner.specs.Items.{items_along}
use Rattle.kex_runner.specs.declared.answers.Fed.{Fed}
use Rattle.kex_runner.specs.declared.answers.Fed.TheVariants.{On, Dead}
use Rattle.kex_runner.specs.declared.answers.Ended.{Ended}
use Rattle.kex_runner.specs.declared.answers.Ended.TheVariants.{Parsed, Cut}

-- a runner: its table, its words, its state, what is still to be passed on, and what its registers
-- hold. Then the count of good bytes, and whether a byte was refused, the end was given, and no
-- call has answered want of memory.
pub record Running : Type 0 where
  pub table : Transducer
  pub words : List (List Part)
  pub state : ℕ
  pub pending : List Symbol
  pub registers : List (List Symbol)
  pub read : ℕ
  pub dead : Bool
  pub ended : Bool
  pub usable : Bool

-- a runner that has passed on c: where its table is
abbrev pub pass_of : Running → List Symbol → Pass
pass_of r c = record { state = r.state; code = c ++ r.pending; registers = r.registers }

-- v is a front of w, and the table stops at the byte after it
pub record StopsBehind (t : Transducer) (w v : List ℕ) : Type 0 where
  pub byte : ℕ
  pub rest : List ℕ
  pub front : w ≡ v ++ byte ∷ rest
  pub stops : passes t (v ++ byte ∷ []) ≡ None

-- v is the longest front of w on which the table goes on
abbrev pub IsLongestFront : Transducer → List ℕ → List ℕ → Type 0
IsLongestFront t w v = (w ≡ v) ⊎ StopsBehind t w v

-- the table went on along v, and c was passed on
pub record HasPassed (r : Running) (v : List ℕ) (c : List Symbol) : Type 0 where
  pub passes : passes r.table v ≡ Some (pass_of r c)
  pub count : r.read ≡ length v

-- no byte of w was refused
abbrev pub IsRunnerLive : Running → List ℕ → List Symbol → Type 0
IsRunnerLive r w c = (r.dead ≡ false) × HasPassed r w c

-- a byte of w was refused
abbrev pub IsRunnerDead : Running → List ℕ → List Symbol → Type 0
IsRunnerDead r w c = (r.dead ≡ true) × ((v : List ℕ) × StopsBehind r.table w v × HasPassed r v c)

-- the runner was fed w, and has passed on c
abbrev pub IsRunOf : Running → List ℕ → List Symbol → Type 0
IsRunOf r w c = IsRunnerLive r w c ⊎ IsRunnerDead r w c

-- and what the last piece was answered by
abbrev pub IsRunnerFed : Fed → Running → List ℕ → List Symbol → Type 0
IsRunnerFed On r w c = (passes r.table w
    ≡ Some (record { state = r.state; code = c; registers = r.registers })) × IsRunOf r w c
IsRunnerFed Dead r w c = (passes r.table w ≡ None) × IsRunOf r w c

-- feeding a piece has put its code after what was there
pub record RunnerFeeds (answer : Fed) (old new : Running) (piece : List ℕ)
    (before after : List Symbol) : Type 0 where
  pub more : List Symbol
  pub code : after ≡ before ++ more
  pub fed : (w : List ℕ) (c : List Symbol) → IsRunOf old w c
      → IsRunnerFed answer new (w ++ piece) (c ++ more)
  pub told : new.pending ≡ []

-- the table goes on along w to a state in which nothing ends, or doesn't go on
abbrev pub HasNoEnd : Transducer → Option Pass → Type 0
HasNoEnd t None = Unit {0}
HasNoEnd t (Some p) = whole_code t p ≡ None

-- c was passed on of the longest front of w on which the table goes on
pub record IsPassedOn (t : Transducer) (w : List ℕ) (c : List Symbol) : Type 0 where
  pub of : List ℕ
  pub longest : IsLongestFront t w of
  pub pass : Pass
  pub passes : passes t of ≡ Some pass
  pub code : c ≡ pass.code

-- how the end was answered after w, where c was passed on in all
abbrev pub IsRunnerOver : Ended → Transducer → List ℕ → List Symbol → Type 0
IsRunnerOver Parsed t w c = (p : Pass) × (passes t w ≡ Some p) × (whole_code t p ≡ Some c)
IsRunnerOver Cut t w c = HasNoEnd t (passes t w) × IsPassedOn t w c

-- the end has put its code after what was there
pub record RunnerEnds (answer : Ended) (old : Running) (before after : List Symbol) : Type 0 where
  pub more : List Symbol
  pub code : after ≡ before ++ more
  pub over : (w : List ℕ) (c : List Symbol) → IsRunOf old w c
      → IsRunnerOver answer old.table w (c ++ more)

-- how many items the updates have of the bytes of a piece that are taken
abbrev pub items_taken : Running → List ℕ → ℕ
items_taken r piece = if r.dead then 0 else items_along r.table r.state piece

abbrev pub runner_answer : Bool → Fed
runner_answer false = On
runner_answer true = Dead
