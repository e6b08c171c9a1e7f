-- Why a command has no program to begin with, and what is shown of that.
use Rattle.std.specs.Prelude.{◌≡◌, ◌⊎◌, ◌+◌, ◌≤◌, ℕ, false, List, length, take, ⊤}
use Rattle.kex_code.specs.Codes.{Begins}
use Rattle.kex_compile.specs.Compiled.{Accepts, IsCompiled, IsRefused}
use Rattle.kex_compile.specs.Stages.{AreStages, Plans, roots_of}
use Rattle.kex_compile.specs.declared.limits.Limits.{Limits}
use Rattle.kex_compile.specs.declared.refusal.CompileRefusal.{CompileRefusal}
use Rattle.kex_compile.specs.declared.refusal.CompileRefusal.TheVariants as compile
use Rattle.kex_machine.specs.Nodes.{Graph}
use Rattle.kex_model.specs.Programs.{Grammar}
use Rattle.kex_ports.specs.Shelf.{ShelfText, IsTold, IsPast}
use Rattle.kex_reader.specs.Lines.{behind_feed, feeds}
use Rattle.kex_plan.specs.Plans.{Planned}
use Rattle.kex_tabfile.specs.Lines.{head_text}
use Rattle.kex_tabfile.specs.Readers.{most_bytes}
use Rattle.kex_tabfile.specs.TableFiles.{IsGood, IsTableRefused}
use Rattle.kex_tabfile.specs.declared.refusal.TableRefusal.{TableRefusal}
use Rattle.kex_tabfile.specs.declared.refusal.TableRefusal.TheVariants as tables
use Rattle.kex_words.specs.declared.refusals.RefusalPlace.TheVariants.{At, Line, Nowhere, Stage}
use Rattle.kex_words.specs.declared.refusals.Refusal.{Refusal}
use Rattle.kex_words.specs.declared.refusals.Rule.{Rule}
use Rattle.kex_words.specs.declared.refusals.Rule.TheVariants as rules
use Rattle.kex_top.specs.Taken.{Taken, a_table_file, a_text, text_kind, most_taken, rule_past}
use Rattle.kex_top.specs.declared.start.StartError.{StartError}
use Rattle.kex_top.specs.declared.start.StartError.TheVariants as start
use Rattle.kex_top.specs.declared.taking.TextKind.{TextKind}

-- A rule that the whole text breaks.
abbrev pub broken : Rule → Refusal
broken rule = record { rule = rule; place = Nowhere }

-- The line and the column of an offset, from 1: the line feeds before it, and the bytes since the
-- last of them.
abbrev pub line_at : List ℕ → ℕ → ℕ
line_at text at = feeds (take at text) + 1

abbrev pub column_at : List ℕ → ℕ → ℕ
column_at text at = behind_feed 0 (take at text) + 1

-- A rule that is broken at an offset of the text.
abbrev pub broken_at : Rule → List ℕ → ℕ → Refusal
broken_at rule text at = record { rule = rule; place = At (line_at text at) (column_at text at) }

-- A rule that a stage breaks.
abbrev pub broken_in : Rule → ℕ → Refusal
broken_in rule stage = record { rule = rule; place = Stage stage }

-- The note's rule and place for a rule that a text breaks.
abbrev pub IsRefusalOf : List ℕ → CompileRefusal → Refusal → Type 0
IsRefusalOf text compile.TextTooLong r = r ≡ broken rules.TextTooLong
IsRefusalOf text (compile.BadToken at) r = r ≡ broken_at rules.BadToken text at
IsRefusalOf text (compile.Unexpected at) r = r ≡ broken_at rules.Unexpected text at
IsRefusalOf text (compile.BadRegex at) r = r ≡ broken_at rules.BadRegex text at
IsRefusalOf text (compile.BadCount at) r = r ≡ broken_at rules.BadCount text at
IsRefusalOf text (compile.BadSet at) r = r ≡ broken_at rules.BadSet text at
IsRefusalOf text (compile.OverLimit at) r = r ≡ broken_at rules.OverLimit text at
IsRefusalOf text (compile.TwiceDefined at) r = r ≡ broken_at rules.TwiceDefined text at
IsRefusalOf text (compile.Unknown at) r = r ≡ broken_at rules.Unknown text at
IsRefusalOf text compile.NoStart r = r ≡ broken rules.NoStart
IsRefusalOf text (compile.NotTail at) r = r ≡ broken_at rules.NotTail text at
IsRefusalOf text (compile.TooManyPlaces n) r = r ≡ broken_in rules.TooManyPlaces n
IsRefusalOf text (compile.NoText n) r = r ≡ broken_in rules.NoText n
IsRefusalOf text compile.OneStage r = r ≡ broken rules.OneStage
IsRefusalOf text (compile.TooManyStates n) r = r ≡ broken_in rules.TooManyStates n
IsRefusalOf text (compile.TooManyPairs n) r = r ≡ broken_in rules.TooManyPairs n
IsRefusalOf text compile.Memory r = ⊥

-- A rule that a line of a table file breaks.
abbrev pub broken_on : Rule → ℕ → Refusal
broken_on rule line = record { rule = rule; place = Line line }

-- The same for what is wrong with a table file. Of its text, places are counted in that.
abbrev pub IsFileRefusalOf : List ℕ → TableRefusal → Refusal → Type 0
IsFileRefusalOf file tables.TableTooLong r = r ≡ broken rules.TableTooLong
IsFileRefusalOf file (tables.BadTable line) r = r ≡ broken_on rules.BadTable line
IsFileRefusalOf file (tables.Text why) r = (text : List ℕ) × Begins file (head_text text)
    × IsRefusalOf text why r
IsFileRefusalOf file tables.Memory r = ⊥

-- A rule that a text breaks, as a command tells it.
abbrev pub IsStartOf : List ℕ → CompileRefusal → StartError → Type 0
IsStartOf text rule start.Memory = rule ≡ compile.Memory
IsStartOf text rule (start.Refused r) = IsRefusalOf text rule r
IsStartOf text rule _ = ⊥

-- Memory is wanted, or is wanted for the text in which places are counted.
abbrev pub MayWantMemory : TableRefusal → Type 0
MayWantMemory tables.Memory = ⊤
MayWantMemory (tables.Text why) = ⊤
MayWantMemory _ = ⊥

-- What is wrong with a table file, as a command tells it.
abbrev pub IsFileStartOf : List ℕ → TableRefusal → StartError → Type 0
IsFileStartOf file why start.Memory = MayWantMemory why
IsFileStartOf file why (start.Refused r) = IsFileRefusalOf file why r
IsFileStartOf file why _ = ⊥

-- What is shown is past what a text of this kind may have.
abbrev pub IsTooLong : TextKind → ShelfText → Refusal → Type 0
IsTooLong kind told r = IsPast told (most_taken kind) × (r ≡ broken (rule_past kind))

-- A text that is shown breaks this rule.
pub record IsBrokenRule (limits : Limits) (told : ShelfText) (r : Refusal) : Type 0 where
  pub text : List ℕ
  pub is_told : IsTold told text
  pub rule : CompileRefusal
  pub is_refused : IsRefused limits text rule
  pub is_shown : IsRefusalOf text rule r

-- A table file that is shown is refused so.
pub record IsBrokenFile (told : ShelfText) (r : Refusal) : Type 0 where
  pub file : List ℕ
  pub is_told : IsTold told file
  pub why : TableRefusal
  pub is_refused : IsTableRefused file why
  pub is_shown : IsFileRefusalOf file why r

abbrev pub IsBroken : Taken → ShelfText → Refusal → Type 0
IsBroken (a_text limits) told r = IsBrokenRule limits told r
IsBroken a_table_file told r = IsBrokenFile told r

-- What is shown is past the limit, or breaks the rule.
abbrev pub IsRefusedFor : Taken → ShelfText → Refusal → Type 0
IsRefusedFor taken told r = IsTooLong (text_kind taken) told r ⊎ IsBroken taken told r

-- A text that is shown has these plans.
pub record HasPlans (limits : Limits) (told : ShelfText) (plans : Plans) : Type 0 where
  pub text : List ℕ
  pub is_told : IsTold told text
  pub compiled : IsCompiled limits text plans

-- Of a program in a table file no more is asked than the language does: it has its tables.
abbrev pub limits_in_file : Limits
limits_in_file = record { states = 0; one_stage = false; tables = false; optimal = false }

-- The file is good, and this is a program that its text spells.
pub record HoldsProgram (file : List ℕ) (P : Grammar) : Type 0 where
  pub short : length file ≤ most_bytes
  pub plans : List Planned
  pub good : IsGood file plans
  pub accepts : Accepts limits_in_file good.text P

-- A table file that is shown holds a program, whose stages have these machines.
pub record HoldsStages (told : ShelfText) (machines : List Graph) : Type 0 where
  pub file : List ℕ
  pub is_told : IsTold told file
  pub program : Grammar
  pub holds : HoldsProgram file program
  pub stages : AreStages program (roots_of program) machines

-- Nothing was taken, or nothing to begin with: where that is refused, it is for this.
abbrev pub IsUntaken : (Refusal → Type 0) → StartError → Type 0
IsUntaken IsFor start.Shelf = ⊤
IsUntaken IsFor start.Memory = ⊤
IsUntaken IsFor (start.Refused r) = IsFor r
IsUntaken IsFor start.Usage = ⊥

-- What is shown has no plans.
abbrev pub HasNone : Taken → ShelfText → StartError → Type 0
HasNone taken told why = IsUntaken (IsRefusedFor taken told) why
