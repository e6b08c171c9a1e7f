-- Words in form name a subcommand, and ask for what it does.
use Rattle.std.specs.Prelude.{◌≡◌, ◌⊎◌, List, [], ◌∷◌, Some, map, true}
use Rattle.clap.specs.Words.{Row, Text, subcommand_of}
use Rattle.kex_words.specs.Words.{kex_app}
use Rattle.kex_words.specs.Words.{Asked, asked_by, asked_of, is_in_form}

-- the words name this subcommand, and these are the matches of its arguments
abbrev pub NamesSubcommand : List Text → Text → List Row → Type 0
NamesSubcommand words name rows = subcommand_of kex_app words ≡ Some (name, rows)

-- the names in the form of the command line, as `run`
abbrev pub subcommands : List Text
subcommands = map (λ command. command.name) kex_app.subs

abbrev pub IsOneOf : List Text → Text → Type 0
IsOneOf [] name = ⊥
IsOneOf (other ∷ others) name = (name ≡ other) ⊎ IsOneOf others name

-- the words name one of the subcommands, and this is what it asks for
pub record AsksBySubcommand (words : List Text) (what : Asked) : Type 0 where
  pub name : Text
  pub rows : List Row
  pub known : IsOneOf subcommands name
  pub named : NamesSubcommand words name rows
  pub asks : asked_by name rows ≡ Some what

abbrev pub AskBySubcommand : Type 0
AskBySubcommand = (words : List Text) (what : Asked) → asked_of words ≡ Some what
    → AsksBySubcommand words what

-- words in form ask for something
abbrev pub AskInForm : Type 0
AskInForm = (words : List Text) → is_in_form words ≡ true → (what : Asked)
    × (asked_of words ≡ Some what)
