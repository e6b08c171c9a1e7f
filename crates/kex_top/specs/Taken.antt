-- What commands take from the shelf, and how long it may be.
use Rattle.std.specs.Prelude.{ℕ}
use Rattle.kex_compile.specs.declared.limits.Limits.{Limits}
use Rattle.kex_tabfile.specs.Readers.{most_bytes}
use Rattle.kex_tokens.specs.Texts.{most_text}
use Rattle.kex_words.specs.declared.refusals.Rule.{Rule}
use Rattle.kex_words.specs.declared.refusals.Rule.TheVariants.{TextTooLong, TableTooLong}
use Rattle.kex_top.specs.declared.taking.TextKind.{TextKind}
use Rattle.kex_top.specs.declared.taking.TextKind.TheVariants.{ProgramText, TableFile}

-- the text of a program, of which this is asked, or a table file
pub data Taken : Type 0 where
  a_text : (limits : Limits) → Taken
  a_table_file : Taken

abbrev pub text_kind : Taken → TextKind
text_kind (a_text limits) = ProgramText
text_kind a_table_file = TableFile

-- the most bytes that a text of this kind may have
abbrev pub most_taken : TextKind → ℕ
most_taken ProgramText = most_text
most_taken TableFile = most_bytes

-- the rule that a longer one breaks
abbrev pub rule_past : TextKind → Rule
rule_past ProgramText = TextTooLong
rule_past TableFile = TableTooLong
