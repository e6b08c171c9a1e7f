-- The command line: its form, as `clap` sees it, and what words in form ask for.
use Rattle.std.specs.Prelude.{[], ◌∷◌, nat_le, ◌&&◌, ℕ, Bool, false, true, List, Option, Some, None}
use Rattle.std.specs.Prelude.{codes, option_and_then, unwrap_or, if◌then◌else◌}
use Rattle.std.specs.List.{concat}
use Rattle.std.specs.Str.{bytes_eq}
use Rattle.std.specs.Str.Parse.{digits_value, without_leading_plus}
use Rattle.clap.specs.Words.{App, Row, Rule, Text, new_app, new_rule, with_rule, with_subcommand}
use Rattle.clap.specs.Words.{first_of, one_of, subcommand_of, fault_of}
use Rattle.clap.specs.Walk.{is_empty}
use Rattle.clap.specs.ValueTests.{is_unsigned_in}
use Rattle.clap.specs.declared.builder.action.ArgAction.TheVariants.{SetTrue}
use Rattle.clap.specs.declared.builder.value_parser.ValueParser.TheVariants as vp
use Rattle.kex_words.specs.declared.asked.RunLimits.{RunLimits}
use Rattle.kex_words.specs.declared.asked.Rings.{Rings}
use Rattle.kex_words.specs.declared.commands.Command.{Command}
use Rattle.kex_words.specs.declared.commands.Command.TheVariants.{Stream, Check, Compile}
use Rattle.kex_words.specs.declared.commands.Command.TheVariants.{Exec, Each, Trial}
use Rattle.kex_words.specs.declared.asked.Mode.{Mode as Moded}
use Rattle.kex_words.specs.declared.asked.Mode.TheVariants as of_mode

-- ---- the form

-- the most bytes that a stage takes, and that one read asks for
abbrev pub most_input : ℕ
most_input = 281474976710656

abbrev pub most_block : ℕ
most_block = 1048576

abbrev pub program_rule : Rule
program_rule = record (new_rule (codes "PROGRAM")) { required = true }

abbrev pub table_rule : Rule
table_rule = record (new_rule (codes "TABLE")) { required = true }

-- an option that takes a number within the bounds
abbrev pub number_rule : Text → ℕ → ℕ → Text → Rule
number_rule name low high default = record (new_rule name) {
  long = Some name;
  parser = Some (vp.Unsigned low high);
  defaults = default ∷ [];
}

abbrev pub max_input_rule : Rule
max_input_rule = number_rule (codes "max-input") 0 most_input (codes "281474976710656")

abbrev pub block_rule : Rule
block_rule = number_rule (codes "block") 1 most_block (codes "65536")

abbrev pub most_states : ℕ
most_states = 1048576

abbrev pub most_lines : ℕ
most_lines = 1000000

abbrev pub states_rule : Rule
states_rule = number_rule (codes "states") 1 most_states (codes "4096")

abbrev pub most_room : ℕ
most_room = 1048576

-- where it isn't given there are no rings
abbrev pub rings_rule : Rule
rings_rule = record (new_rule (codes "rings"))
    { long = Some (codes "rings"); parser = Some (vp.Unsigned 1 most_room) }

-- a flag, which takes no value
abbrev pub optimal_rule : Rule
optimal_rule = record (new_rule (codes "optimal"))
    { long = Some (codes "optimal"); action = Some SetTrue }

abbrev pub most_workers : ℕ
most_workers = 64

abbrev pub workers_rule : Rule
workers_rule = number_rule (codes "workers") 1 most_workers (codes "1")

abbrev pub lines_rule : Rule
lines_rule =
    record (new_rule (codes "N")) { parser = Some (vp.Unsigned 0 most_lines); required = true }

abbrev pub with_rules : App → List Rule → App
with_rules app [] = app
with_rules app (rule ∷ rules) = with_rules (with_rule app rule) rules

-- a command on a program alone, which reads no input
abbrev pub program_app : Text → App
program_app name = with_rules (new_app name) (program_rule ∷ states_rule ∷ [])

-- a command on a program of one stage, which makes no table
abbrev pub stage_app : Text → App
stage_app name = with_rules (new_app name) (program_rule ∷ max_input_rule ∷ block_rule ∷ [])

-- a run makes tables, may join stages by rings or share blocks among workers, and may tell as early
-- as can be
abbrev pub run_app : App
run_app = with_rules (stage_app (codes "run"))
    (states_rule ∷ rings_rule ∷ workers_rule ∷ optimal_rule ∷ [])

abbrev pub trial_app : App
trial_app = with_rules (new_app (codes "trial"))
    (lines_rule ∷ block_rule ∷ rings_rule ∷ workers_rule ∷ [])

-- a run by the tables of a file
abbrev pub exec_app : App
exec_app =
    with_rules (new_app (codes "exec")) (table_rule ∷ max_input_rule ∷ block_rule ∷ [])

-- lines are answered by tables
abbrev pub each_app : App
each_app = with_rules (new_app (codes "each"))
    (program_rule ∷ states_rule ∷ max_input_rule ∷ workers_rule ∷ [])

-- no flag or subcommand for help or the version
abbrev pub bare_app : App
bare_app = record (new_app (codes "kex")) {
  top = record (new_app (codes "kex")).top {
    disable_help_flag = true;
    disable_help_subcommand = true;
    disable_version_flag = true;
    subcommand_required = true;
  };
}

abbrev pub with_subcommands : App → List App → App
with_subcommands app [] = app
with_subcommands app (sub ∷ subs) = with_subcommands (with_subcommand app sub.top) subs

-- with the commands up to `code`
abbrev pub app_to_code : App
app_to_code = with_subcommands bare_app
    (run_app ∷ program_app (codes "check") ∷ stage_app (codes "code") ∷ [])

-- with the commands up to `test`
abbrev pub app_to_test : App
app_to_test = with_subcommands app_to_code (stage_app (codes "act") ∷ stage_app (codes "test") ∷ [])

-- with the commands up to `compile`
abbrev pub app_to_compile : App
app_to_compile = with_subcommands app_to_test (trial_app ∷ program_app (codes "compile") ∷ [])

-- one of these subcommands, which is required
abbrev pub kex_app : App
kex_app = with_subcommands app_to_compile (exec_app ∷ each_app ∷ [])

-- the line of words that are out of form
abbrev pub usage_line : List ℕ
usage_line = concat (codes "usage: kex run|check|code|act|test PROGRAM [--states N]"
    ∷ codes " [--max-input N] [--block N] [--rings N] [--workers N] [--optimal]"
    ∷ codes " | kex trial N [--block N] [--rings N] [--workers N]"
    ∷ codes " | kex compile PROGRAM [--states N]"
    ∷ codes " | kex exec TABLE [--max-input N] [--block N]"
    ∷ codes " | kex each PROGRAM [--states N] [--max-input N] [--workers N]\n" ∷ [])

-- ---- what is asked for

-- how many bytes are read, in all and at a time, how many items each ring between two stages has
-- room for, where there are rings, and how many workers share a block, where there are none
pub record Reach : Type 0 where
  pub max_input : ℕ
  pub block : ℕ
  pub rings : Option ℕ
  pub workers : ℕ

-- what is written for the bytes of the input: what they mean, by tables with at most this many
-- states for a stage, told as early as can be where it is optimal; their code; what they mean as
-- the text of a code; or nothing, where it is only asked whether they have a parse
pub data Mode : Type 0 where
  running : (states : ℕ) (optimal : Bool) → Mode
  coding : Mode
  acting : Mode
  testing : Mode

-- what is asked for, and of which program or table file
pub data Asked : Type 0 where
  ToStream : (mode : Mode) (program : Text) (reach : Reach) → Asked
  ToCheck : (program : Text) (states : ℕ) → Asked
  ToCompile : (program : Text) (states : ℕ) → Asked
  ToExec : (table : Text) (reach : Reach) → Asked
  ToEach : (program : Text) (states max_input workers : ℕ) → Asked
  ToTry : (lines block : ℕ) (rings : Option ℕ) (workers : ℕ) → Asked

-- the number where it is within the bounds
abbrev pub number_within : ℕ → ℕ → Option ℕ → Option ℕ
number_within low high None = None
number_within low high (Some n) = if nat_le low n && nat_le n high then Some n else None

-- the number that a text within the bounds spells
abbrev pub bounded_number : ℕ → ℕ → Text → Option ℕ
bounded_number low high text = if is_unsigned_in low high text
    then Some (digits_value 10 (without_leading_plus text)) else None

abbrev pub number_at : Text → ℕ → ℕ → List Row → Option ℕ
number_at id low high rows = option_and_then (bounded_number low high) (one_of id rows)

-- what the matches say of an argument, and else its default
abbrev pub program_in : List Row → Text
program_in rows = unwrap_or (first_of (codes "PROGRAM") rows) []

abbrev pub table_in : List Row → Text
table_in rows = unwrap_or (first_of (codes "TABLE") rows) []

abbrev pub block_in : List Row → ℕ
block_in rows = unwrap_or (number_at (codes "block") 1 most_block rows) 65536

abbrev pub rings_in : List Row → Option ℕ
rings_in rows = number_at (codes "rings") 1 most_room rows

abbrev pub max_input_in : List Row → ℕ
max_input_in rows = unwrap_or (number_at (codes "max-input") 0 most_input rows) most_input

abbrev pub workers_in : List Row → ℕ
workers_in rows = unwrap_or (number_at (codes "workers") 1 most_workers rows) 1

abbrev pub reach_in : List Row → Reach
reach_in rows = record {
  max_input = max_input_in rows;
  block = block_in rows;
  rings = rings_in rows;
  workers = workers_in rows;
}

abbrev pub states_in : List Row → ℕ
states_in rows = unwrap_or (number_at (codes "states") 1 most_states rows) 4096

-- the text is there
abbrev pub has_text : Text → Option Text → Bool
has_text text None = false
has_text text (Some found) = bytes_eq found text

abbrev pub optimal_in : List Row → Bool
optimal_in rows = has_text (codes "true") (first_of (codes "optimal") rows)

abbrev pub lines_in : List Row → ℕ
lines_in rows = unwrap_or (number_at (codes "N") 0 most_lines rows) 0

-- what the subcommand of this name asks for by its matches, if there is one
abbrev pub asked_by : Text → List Row → Option Asked
asked_by name rows =
    if bytes_eq name (codes "run") then Some
    (ToStream (running (states_in rows) (optimal_in rows)) (program_in rows) (reach_in rows))
    else if bytes_eq name (codes "check")
    then Some (ToCheck (program_in rows) (states_in rows))
    else if bytes_eq name (codes "code")
    then Some (ToStream coding (program_in rows) (reach_in rows))
    else if bytes_eq name (codes "act")
    then Some (ToStream acting (program_in rows) (reach_in rows))
    else if bytes_eq name (codes "test")
    then Some (ToStream testing (program_in rows) (reach_in rows))
    else if bytes_eq name (codes "trial")
    then Some (ToTry (lines_in rows) (block_in rows) (rings_in rows) (workers_in rows))
    else if bytes_eq name (codes "compile")
    then Some (ToCompile (program_in rows) (states_in rows))
    else if bytes_eq name (codes "exec") then Some (ToExec (table_in rows) (reach_in rows))
    else if bytes_eq name (codes "each") then Some
    (ToEach (program_in rows) (states_in rows) (max_input_in rows) (workers_in rows))
    else None

-- the same, where there is a subcommand; words in form have one
abbrev pub asked_in : Option (Text × List Row) → Option Asked
asked_in None = None
asked_in (Some sub) = asked_by sub.0 sub.1

-- the words meet the form of the command
abbrev pub is_in_form : List Text → Bool
is_in_form words = is_empty (fault_of kex_app words)

-- what the words ask for, where they are in form, and else nothing
unfoldable pub asked_of : List Text → Option Asked
asked_of words = if is_in_form words then asked_in (subcommand_of kex_app words) else None

abbrev pub room_of : Option Rings → Option ℕ
room_of None = None
room_of (Some rings) = Some rings.room

abbrev pub reach_of : RunLimits → Reach
reach_of limits = record {
  max_input = limits.max_input;
  block = limits.block;
  rings = room_of limits.rings;
  workers = limits.workers;
}

abbrev pub mode_of : Moded → Mode
mode_of (of_mode.Run states optimal) = running states.most optimal
mode_of of_mode.Code = coding
mode_of of_mode.Act = acting
mode_of of_mode.Test = testing

-- what a command asks for
abbrev pub asked_by_command : Command → Asked
asked_by_command (Stream stream) =
    ToStream (mode_of stream.mode) stream.program.now (reach_of stream.limits)
asked_by_command (Check program states) = ToCheck program.now states.most
asked_by_command (Compile program states) = ToCompile program.now states.most
asked_by_command (Exec table limits) = ToExec table.now (reach_of limits)
asked_by_command (Each program limits) =
    ToEach program.now limits.states.most limits.max_input limits.workers
asked_by_command (Trial lines) =
    ToTry lines.count lines.block (room_of lines.rings) lines.workers
