-- What the commands are, case by case: what each calls, what it takes for its program, and what it
-- does.
use Rattle.std.specs.Prelude.{◌≡◌, ℕ, Bool, true, false, List, Option, Some, None, length, ⊤}
use Rattle.kex_ports.specs.Named.{Texts}
use Rattle.kex_ports.specs.Reads.{Reads, last_given}
use Rattle.kex_ports.specs.Shelf.{ShelfText, present, told_of}
use Rattle.kex_model.specs.Programs.{Grammar}
use Rattle.kex_reader.specs.Spelling.{Spells}
use Rattle.kex_compile.specs.Stages.{HaveInAll, HaveStatesInAll, roots_of}
use Rattle.kex_plan.specs.Plans.{Planned}
use Rattle.kex_tabfile.specs.TableFiles.{ArePlansOf, IsGood}
use Rattle.kex_words.specs.Words.{most_input, Asked, Mode}
use Rattle.kex_words.specs.Gains.{StreamChange, GainsFront, GainsWhole}
use Rattle.kex_words.specs.Lines.{counts_line, trial_line}
use Rattle.kex_words.specs.Words.Asked.{ToCheck, ToCompile, ToEach, ToExec, ToStream, ToTry}
use Rattle.kex_words.specs.Words.Mode.{running, testing}
use Rattle.kex_words.specs.declared.counts.TrialCounts.{TrialCounts}
use Rattle.kex_pipeline.specs.Sayings.{Said}
use Rattle.kex_top.specs.ByLines.{IsShort, RanByLines, SaysLines, line_block}
use Rattle.kex_top.specs.Modes.{SaysBy, limits_of, limits_to_check}
use Rattle.kex_top.specs.Pipelines.{Answered}
use Rattle.kex_top.specs.Refusals.{HoldsProgram}
use Rattle.kex_top.specs.Run.{IsAsBefore, Ran}
use Rattle.kex_top.specs.Taken.{Taken, a_table_file, a_text}
use Rattle.kex_top.specs.Trials.{AreTrialCounts, trial_text, usual_states}
use Rattle.kex_top.specs.declared.status.Status.{Status}
use Rattle.kex_top.specs.declared.status.Status.TheVariants.{Done, WriteFault}

-- The name of the text that a command takes from the shelf, how many bytes each of its reads asks
-- for, and whether it calls the sink.
pub record CommandCalls : Type 0 where
  pub takes : Option (List ℕ)
  pub block : Option ℕ
  pub writes : Bool

-- A test writes nothing.
abbrev pub is_writing : Mode → Bool
is_writing testing = false
is_writing mode = true

-- Words out of form call nothing.
abbrev pub calls_of : Option Asked → CommandCalls
calls_of None = record { takes = None; block = None; writes = false }
calls_of (Some (ToStream mode name reach)) =
    record { takes = Some name; block = Some reach.block; writes = is_writing mode }
calls_of (Some (ToCheck name states)) = record { takes = Some name; block = None; writes = true }
calls_of (Some (ToEach name states limit workers)) =
    record { takes = Some name; block = Some line_block; writes = true }
calls_of (Some (ToTry lines block rings workers)) =
    record { takes = None; block = None; writes = true }
calls_of (Some (ToCompile name states)) = record { takes = Some name; block = None; writes = true }
calls_of (Some (ToExec name reach)) =
    record { takes = Some name; block = Some reach.block; writes = true }

-- What is shown of what a command takes. A trial has a text of its own.
abbrev pub told_text : Option Texts → Asked → ShelfText
told_text texts (ToStream mode name reach) = told_of texts name
told_text texts (ToCheck name states) = told_of texts name
told_text texts (ToEach name states limit workers) = told_of texts name
told_text texts (ToTry lines block rings workers) = present trial_text
told_text texts (ToCompile name states) = told_of texts name
told_text texts (ToExec name reach) = told_of texts name

-- What a command takes: the text of a program, of which it asks this, or a table file.
abbrev pub taken_for : Asked → Taken
taken_for (ToStream mode name reach) = a_text (limits_of mode)
taken_for (ToCheck name states) = a_text (limits_to_check states)
taken_for (ToEach name states limit workers) = a_text (limits_to_check states)
taken_for (ToTry lines block rings workers) = a_text (limits_to_check usual_states)
taken_for (ToCompile name states) = a_text (limits_to_check states)
taken_for (ToExec name reach) = a_table_file

-- The bytes were written, or a front of them.
abbrev pub TellsBytes : List ℕ → StreamChange → Status → Type 0
TellsBytes bytes sink Done = GainsWhole sink bytes
TellsBytes bytes sink WriteFault = GainsFront sink bytes
TellsBytes bytes sink _ = ⊥

-- The stages, places and states of a program were counted, and their line told.
pub record Counted (P : Grammar) (Told : List ℕ → Type 0) : Type 0 where
  pub places : ℕ
  pub states : ℕ
  pub in_all : HaveInAll P (roots_of P) places
  pub states_in_all : HaveStatesInAll P (roots_of P) states
  pub told
      : Told (counts_line (record { stages = length P.stages; places = places; states = states }))

-- What a program says of this many lines was summed up, and the line of that written.
pub record Tried (P : Grammar) (lines : ℕ) (Told : List ℕ → Type 0) : Type 0 where
  pub counts : TrialCounts
  pub sums : AreTrialCounts (Answered P most_input) lines counts
  pub told : Told (trial_line counts)

-- The good table file of the text with the tables of determinisation was made, and told.
pub record Filed (text : List ℕ) (Told : List ℕ → Type 0) : Type 0 where
  pub plans : List Planned
  pub plans_of : ArePlansOf text plans
  pub file : List ℕ
  pub good : IsGood file plans
  pub of_text : good.text ≡ text
  pub told : Told file

-- What a command does with its program, which this text spells or this file holds, for each answer
-- that comes after it has begun. A command on an input says what its program says of the bytes
-- read, or of each of their lines; the others read nothing.
abbrev pub Performs : Asked → List ℕ → Grammar → Option Reads → StreamChange → StreamChange → Status
    → Type 0
Performs (ToStream mode name reach) text P reads source sink status =
    Ran (SaysBy mode P reach.max_input) (last_given reach.block reads) source sink status
Performs (ToCheck name states) text P reads source sink status =
    IsAsBefore source × Counted P (λ line. TellsBytes line sink status)
Performs (ToEach name states limit workers) text P reads source sink status =
    RanByLines (SaysLines P limit) (last_given line_block reads) source sink status
Performs (ToTry lines block rings workers) text P reads source sink status =
    IsAsBefore source × Tried P lines (λ line. TellsBytes line sink status)
Performs (ToCompile name states) text P reads source sink status =
    IsAsBefore source × Filed text (λ file. TellsBytes file sink status)
Performs (ToExec name reach) file P reads source sink status =
    Ran (Answered P reach.max_input) (last_given reach.block reads) source sink status

-- The source's bytes are known, and what such a program says of them, ended, has no report.
pub record StreamParses (IsProgram : Grammar → Type 0)
    (says : Grammar → List ℕ → Bool → Said → Type 0) (source : StreamChange) : Type 0 where
  pub input : List ℕ
  pub rest : source.old ≡ Some input
  pub parses : (P : Grammar) → IsProgram P
      → (said : Said) × says P input true said × (said.report ≡ None)

-- The input is one with which the command ends well, where it has one.
abbrev pub InputIsGood : Asked → List ℕ → StreamChange → Type 0
InputIsGood (ToStream mode name reach) text source =
    StreamParses (λ P. Spells text P) (λ P. SaysBy mode P reach.max_input) source
InputIsGood (ToCheck name states) text source = ⊤
InputIsGood (ToEach name states limit workers) text source = IsShort source
InputIsGood (ToTry lines block rings workers) text source = ⊤
InputIsGood (ToCompile name states) text source = ⊤
InputIsGood (ToExec name reach) file source =
    StreamParses (λ P. HoldsProgram file P) (λ P. Answered P reach.max_input) source

-- A command that runs a program's stages on the input, each of which takes at most this many bytes.
abbrev pub runs_within : Asked → Option ℕ
runs_within (ToStream (running states optimal) name reach) = Some reach.max_input
runs_within (ToExec name reach) = Some reach.max_input
runs_within asked = None
