-- What a text spells, and why it is refused.
use Rattle.std.specs.Prelude.{◌≡◌, ℕ, ◌<◌, ◌≤◌, List, [], ◌∷◌, length, map, get_or, bytes_eq, codes}
use Rattle.std.specs.Prelude.{None, if◌then◌else◌}
use Rattle.std.specs.List.{slice_range}
use Rattle.kex_code.specs.Codes.{Different}
use Rattle.kex_model.specs.Programs.{Grammar}
use Rattle.kex_model.specs.declared.program.Definition.{Definition as Root}
use Rattle.kex_model.specs.declared.program.Start.{Start}
use Rattle.kex_tokens.specs.declared.token.Token.{Token}
use Rattle.kex_tokens.specs.declared.token.TokenFault.{TokenFault}
use Rattle.kex_tokens.specs.declared.token.TokenFault.TheVariants as tokens
use Rattle.kex_reader.specs.declared.inside.TermFault.{TermFault}
use Rattle.kex_reader.specs.declared.inside.TermFault.TheVariants as steps
use Rattle.kex_tokens.specs.Texts.{AreTokens, IsBadToken, most_text}
use Rattle.kex_regexp.specs.declared.breaks.Break.{Break}
use Rattle.kex_regexp.specs.declared.breaks.Break.TheVariants.{BadRegex, BadCount, BadSet}
use Rattle.kex_regexp.specs.declared.breaks.Break.TheVariants.{OverLimit}
use Rattle.kex_reader.specs.declared.refusal.ReadRefusal.{ReadRefusal}
use Rattle.kex_reader.specs.declared.refusal.ReadRefusal.TheVariants as refusals
use Rattle.kex_reader.specs.Syntax.{Word, word, Header, NoStart, Stages, Program, program, header}
use Rattle.kex_reader.specs.Programs.{IsFirstWrong}
use Rattle.kex_reader.specs.Checks.{IsLeastBreak, SomeBreaks, program_checks}
use Rattle.kex_reader.specs.Shown.{Made, ShowsDefinitions, ShowsStages}
use Rattle.kex_reader.specs.Uses.{NoneSpare}

-- the words that tokens of a text are
abbrev pub words : List ℕ → List Token → List Word
words text ts = map (λ t. word t.kind (slice_range text t.from t.to)) ts

-- the offset of token number k, and after the last one the text's length
abbrev pub offset : List ℕ → List Token → ℕ → ℕ
offset text ts k = get_or (map (λ t. t.from) ts) k (length text)

-- without a start line the one stage is main, with the offset of its first definition, if it has
-- one
abbrev pub main_stage : List (List ℕ) → List Root → List Start
main_stage names [] = []
main_stage names (d ∷ ds) = if bytes_eq (get_or names d.name []) (codes "main")
    then record { name = d.name; at = d.at } ∷ [] else main_stage names ds

abbrev pub ShowsHeader : Header → Made → (ℕ → ℕ) → Grammar → Type 0
ShowsHeader NoStart made at P = P.stages ≡ main_stage P.names P.definitions
ShowsHeader (Stages n ns) made at P = ShowsStages (n ∷ ns) made at P.stages 2

-- what is made where a program is read whole, with these registers
abbrev pub made_of : Grammar → List (List ℕ) → Made
made_of P registers =
    record { nodes = P.nodes; names = P.names; registers = registers; broken = None }

-- the nodes, definitions and stages of the program are those of the tree, whatever their numbers
pub record ShowsProgram (tree : Program) (made : Made) (at : ℕ → ℕ) (P : Grammar) : Type 0 where
  pub definitions
      : ShowsDefinitions tree.definitions made at P.definitions (length (header tree.header))
  pub stages : ShowsHeader tree.header made at P

-- the tokens of the text are a program's, no limit is broken, and these are its nodes, names and
-- registers
pub record Spells (text : List ℕ) (P : Grammar) : Type 0 where
  pub short : length text ≤ most_text
  pub tokens : List Token
  pub cut : AreTokens text tokens
  pub tree : Program
  pub derived : program tree ≡ words text tokens
  pub within : (b : Break) → SomeBreaks (program_checks tree (offset text tokens)) b → ⊥
  pub registers : List (List ℕ)
  pub shown : ShowsProgram tree (made_of P registers) (offset text tokens) P
  pub names_differ : Different P.names
  pub registers_differ : Different registers
  pub counted : P.registers ≡ length registers
  pub none_spare : NoneSpare P

-- the tokens before this offset begin a program, and those up to and with it begin none, or they
-- end and are none
abbrev pub IsUnexpected : List ℕ → ℕ → Type 0
IsUnexpected text at = (ts : List Token) × (k : ℕ) × AreTokens text ts
    × IsFirstWrong (words text ts) k × (at ≡ offset text ts k)

-- the tokens are a program's, and this is the least limit that it breaks
abbrev pub BreaksLimit : List ℕ → Break → Type 0
BreaksLimit text b = (ts : List Token) × (tree : Program) × AreTokens text ts
    × (program tree ≡ words text ts) × IsLeastBreak (program_checks tree (offset text ts)) b

-- the refusals for what the parts answer
abbrev pub of_token : TokenFault → ReadRefusal
of_token tokens.TextTooLong = refusals.TextTooLong
of_token (tokens.BadToken at) = refusals.BadToken at
of_token tokens.Memory = refusals.Memory

abbrev pub of_limit : Break → ReadRefusal
of_limit (BadRegex at) = refusals.BadRegex at
of_limit (BadCount at) = refusals.BadCount at
of_limit (BadSet at) = refusals.BadSet at
of_limit (OverLimit at) = refusals.OverLimit at

abbrev pub of_step : TermFault → ℕ → ReadRefusal
of_step steps.Memory at = refusals.Memory
of_step steps.Wrong at = refusals.Unexpected at

-- why a text is refused: each cause where those before it aren't
abbrev pub IsRefusedAs : List ℕ → ReadRefusal → Type 0
IsRefusedAs text refusals.TextTooLong = most_text < length text
IsRefusedAs text (refusals.BadToken at) = (length text ≤ most_text) × IsBadToken text at
IsRefusedAs text (refusals.Unexpected at) = (length text ≤ most_text) × IsUnexpected text at
IsRefusedAs text (refusals.BadRegex at) = (length text ≤ most_text) × BreaksLimit text (BadRegex at)
IsRefusedAs text (refusals.BadCount at) = (length text ≤ most_text) × BreaksLimit text (BadCount at)
IsRefusedAs text (refusals.BadSet at) = (length text ≤ most_text) × BreaksLimit text (BadSet at)
IsRefusedAs text (refusals.OverLimit at) = (length text ≤ most_text)
    × BreaksLimit text (OverLimit at)
IsRefusedAs text refusals.Memory = Unit {0}
