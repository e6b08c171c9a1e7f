-- The limits of a program: the places where its tree asks one, and when it is broken there.
use Rattle.std.specs.Prelude.{◌≡◌, ℕ, suc, ◌+◌, true, false, List, [], ◌∷◌, ◌++◌, length}
use Rattle.kex_code.specs.Codes.{IsAmong}
use Rattle.kex_regexp.specs.declared.breaks.Break.{Break}
use Rattle.kex_regexp.specs.declared.breaks.Break.TheVariants.{BadRegex, BadCount, OverLimit}
use Rattle.kex_regexp.specs.Breaks.{comes_before, most_depth}
use Rattle.kex_regexp.specs.Bodies.{IsFirstWrong, BreaksFirst}
use Rattle.kex_regexp.specs.Postfixes.{is_bad_count}
use Rattle.kex_reader.specs.Syntax.{Postfix, ZeroOrMore, OneOrMore, Optional, Term, Last, Or, Seq}
use Rattle.kex_reader.specs.Syntax.{Only, Then, Pre, Mute, Into, Once, Turns, Atom, One, Call, Lit}
use Rattle.kex_reader.specs.Syntax.{Match, Write, Assign, Group, Definition, Header, NoStart}
use Rattle.kex_reader.specs.Syntax.{Stages, Program, term, seq, pre, atom, header}

-- a mark or prefix under `depth` others, a count, a body under `depth` marks and prefixes, a stage
-- by its number from 1; each with its offset
pub data Check : Type 0 where
  Nested : (at depth : ℕ) → Check
  Counted : (at : ℕ) → (postfix : Postfix) → Check
  Matched : (at depth : ℕ) → (body : List ℕ) → Check
  Staged : (at number : ℕ) → Check

-- what a body is refused for
abbrev pub BodyBreaks : List ℕ → ℕ → ℕ → Break → Type 0
BodyBreaks body at depth (BadRegex place) = (k : ℕ) × (place ≡ at + k) × IsFirstWrong body k
BodyBreaks body at depth b = BreaksFirst body at depth b

-- how many stages may be named
abbrev pub most_stages : ℕ
most_stages = 256

-- nesting rises too far where as many are open as may be; the stage past the last one that may be
-- named is one too many
abbrev pub Breaks : Check → Break → Type 0
Breaks (Nested at depth) b = (depth ≡ most_depth) × (b ≡ OverLimit at)
Breaks (Counted at postfix) b = (is_bad_count postfix ≡ true) × (b ≡ BadCount at)
Breaks (Matched at depth body) b = BodyBreaks body at depth b
Breaks (Staged at number) b = (number ≡ most_stages + 1) × (b ≡ OverLimit at)

-- one of the checks is broken so
abbrev pub SomeBreaks : List Check → Break → Type 0
SomeBreaks cs b = (c : Check) × IsAmong cs c × Breaks c b

-- this is broken, and nothing of a lower number, or of this one at a lower offset
pub record IsLeastBreak (cs : List Check) (b : Break) : Type 0 where
  pub broken : SomeBreaks cs b
  pub least : (other : Break) → SomeBreaks cs other → comes_before other b ≡ false

-- ---- the checks of a tree in the order of the text; word number i has the offset at i

unfoldable pub postfix_checks : Postfix → ℕ → List Check
postfix_checks ZeroOrMore at = []
postfix_checks OneOrMore at = []
postfix_checks Optional at = []
postfix_checks p at = Counted at p ∷ []

unfoldable mutual
  pub term_checks : Term → (ℕ → ℕ) → ℕ → ℕ → List Check
  term_checks (Last s) at i depth = seq_checks s at i depth
  term_checks (Or s t) at i depth =
      seq_checks s at i depth ++ term_checks t at (i + length (seq s) + 1) depth

  pub seq_checks : Seq → (ℕ → ℕ) → ℕ → ℕ → List Check
  seq_checks (Only p) at i depth = pre_checks p at i depth
  seq_checks (Then p s) at i depth =
      pre_checks p at i depth ++ seq_checks s at (i + length (pre p)) depth

  pub pre_checks : Pre → (ℕ → ℕ) → ℕ → ℕ → List Check
  pre_checks (Mute p) at i depth = Nested (at i) depth ∷ pre_checks p at (i + 1) (suc depth)
  pre_checks (Into r p) at i depth = Nested (at i) depth ∷ pre_checks p at (i + 2) (suc depth)
  pre_checks (Once a) at i depth = atom_checks a at i depth
  pre_checks (Turns a p lazy) at i depth =
      atom_checks a at i depth ++ postfix_checks p (at (i + length (atom a)))

  pub atom_checks : Atom → (ℕ → ℕ) → ℕ → ℕ → List Check
  atom_checks One at i depth = []
  atom_checks (Call n) at i depth = []
  atom_checks (Lit s) at i depth = []
  atom_checks (Match b) at i depth = Matched (at i + 1) depth b ∷ []
  atom_checks (Write r) at i depth = []
  atom_checks (Assign append r p ps) at i depth = []
  atom_checks (Group t) at i depth = Nested (at i) depth ∷ term_checks t at (i + 1) (suc depth)

unfoldable pub definition_checks : List Definition → (ℕ → ℕ) → ℕ → List Check
definition_checks [] at i = []
definition_checks (d ∷ ds) at i =
    term_checks d.term at (i + 2) 0 ++ definition_checks ds at (i + 2 + length (term d.term))

unfoldable pub stage_checks : List (List ℕ) → (ℕ → ℕ) → ℕ → ℕ → List Check
stage_checks [] at i number = []
stage_checks (n ∷ ns) at i number = Staged (at i) number ∷ stage_checks ns at (i + 2) (suc number)

unfoldable pub header_checks : Header → (ℕ → ℕ) → List Check
header_checks NoStart at = []
header_checks (Stages n ns) at = stage_checks (n ∷ ns) at 2 1

abbrev pub program_checks : Program → (ℕ → ℕ) → List Check
program_checks p at =
    header_checks p.header at ++ definition_checks p.definitions at (length (header p.header))
