-- What a call of the program leaves, by what its words ask for and by its answer.
use Rattle.std.specs.Prelude.{◌≡◌, ◌⊎◌, ◌+◌, ◌-◌, ◌^◌, ◌<◌, ℕ, List, [], ◌++◌, Option, Some}
use Rattle.std.specs.Prelude.{None, IsSome, min, ⊤}
use Rattle.kex_ports.specs.Named.{Texts}
use Rattle.kex_ports.specs.Reads.{Reads}
use Rattle.kex_ports.specs.Shelf.{present, IsTold}
use Rattle.kex_model.specs.Programs.{Grammar}
use Rattle.kex_compile.specs.Compiled.{Accepts}
use Rattle.kex_compile.specs.Stages.{roots_of}
use Rattle.kex_words.specs.Gains.{StreamChange}
use Rattle.kex_words.specs.Words.{Asked}
use Rattle.kex_words.specs.declared.refusals.Refusal.{Refusal}
use Rattle.kex_top.specs.Commands.{InputIsGood, Performs, calls_of, taken_for, told_text}
use Rattle.kex_top.specs.Pipelines.{MeansInTurn}
use Rattle.kex_top.specs.Refusals.{HoldsProgram, IsRefusedFor}
use Rattle.kex_top.specs.Run.{Left}
use Rattle.kex_top.specs.Shelves.{ShelfChange}
use Rattle.kex_top.specs.Taken.{Taken, a_table_file, a_text}
use Rattle.kex_top.specs.declared.status.Status.{Status}
use Rattle.kex_top.specs.declared.status.Status.TheVariants.{Usage, Refused, ShelfFault, Memory}

-- A command works with this program: one that the text spells and that keeps what is asked of it,
-- or one that the table file holds.
abbrev pub WorksWith : Taken → List ℕ → Grammar → Type 0
WorksWith (a_text limits) text P = Accepts limits text P
WorksWith a_table_file file P = HoldsProgram file P

-- The command worked with a program of the text that is shown.
pub record CommandWorks (asked : Asked) (texts : Option Texts) (reads : Option Reads)
    (source sink : StreamChange) (status : Status) : Type 0 where
  pub text : List ℕ
  pub is_told : IsTold (told_text texts asked) text
  pub program : Grammar
  pub works : WorksWith (taken_for asked) text program
  pub performs : Performs asked text program reads source sink status

-- What each answer to a command says. Where it doesn't begin, nothing is read or written.
abbrev pub CommandAnswers : Asked → Option Texts → Option Reads → StreamChange → StreamChange
    → Status → Type 0
CommandAnswers asked texts reads source sink Usage = ⊥
CommandAnswers asked texts reads source sink ShelfFault =
    IsSome (calls_of (Some asked)).takes × Left source sink
CommandAnswers asked texts reads source sink (Refused r) =
    Left source sink × IsRefusedFor (taken_for asked) (told_text texts asked) r
CommandAnswers asked texts reads source sink Memory =
    Left source sink ⊎ CommandWorks asked texts reads source sink Memory
CommandAnswers asked texts reads source sink status =
    CommandWorks asked texts reads source sink status

-- What is answered where nothing is asked for.
abbrev pub IsUnasked : Status → Type 0
IsUnasked Usage = ⊤
IsUnasked Memory = ⊤
IsUnasked status = ⊥

-- What each answer to words says.
abbrev pub CallAnswers : Option Asked → Option Texts → Option Reads → StreamChange → StreamChange
    → Status → Type 0
CallAnswers None texts reads source sink status = IsUnasked status
CallAnswers (Some asked) texts reads source sink status =
    CommandAnswers asked texts reads source sink status

-- A count that didn't rise.
abbrev pub HasNotRisen : ℕ → ℕ → Type 0
HasNotRisen before now = now < min (before + 1) (2 ^ 64 - 1)

-- What the command takes isn't refused, its input is good, and no count rose of what it calls.
pub record BreaksNoRule (asked : Asked) (texts : Option Texts) (shelf : ShelfChange)
    (source sink : StreamChange) : Type 0 where
  pub text : List ℕ
  pub is_told : told_text texts asked ≡ present text
  pub unrefused : (r : Refusal) → IsRefusedFor (taken_for asked) (present text) r → ⊥
  pub input_is_good : InputIsGood asked text source
  pub on_shelf : IsSome (calls_of (Some asked)).takes
      → HasNotRisen shelf.breaks_before shelf.breaks_now
  pub readable : IsSome (calls_of (Some asked)).block → HasNotRisen source.before source.now
  pub writable : HasNotRisen sink.before sink.now

-- Nothing is in the way of what the words ask for.
abbrev pub IsComplete : Option Asked → Option Texts → ShelfChange → StreamChange → StreamChange
    → Type 0
IsComplete None texts shelf source sink = ⊥
IsComplete (Some asked) texts shelf source sink = BreaksNoRule asked texts shelf source sink

-- With all told: the source was read to its end. The sink holds what it held and then exactly
-- what a program means on the input that the text spells, or the table file holds: the meaning of
-- each stage's greedy parse of what the stage before it wrote.
pub record Headline (taken : Taken) (text : List ℕ) (limit : ℕ) (input before : List ℕ)
    (rest held : Option (List ℕ)) : Type 0 where
  pub program : Grammar
  pub works : WorksWith taken text program
  pub meant : List ℕ
  pub means : MeansInTurn program limit (roots_of program) input meant
  pub written : held ≡ Some (before ++ meant)
  pub read : rest ≡ Some []
