-- The words of a program, and the grammar of programs: its trees, each with the words that spell
-- it.
use Rattle.std.specs.Prelude.{ℕ, ◌-◌, Bool, true, false, List, [], ◌∷◌, ◌++◌, drop, take, length}
use Rattle.std.specs.Prelude.{codes}
use Rattle.kex_tokens.specs.declared.token.TokenKind.{TokenKind}
use Rattle.kex_tokens.specs.declared.token.TokenKind.TheVariants as kinds
use Rattle.kex_regexp.specs.Postfixes.{Signs, postfix_spelling, lazy_sign}
pub use Rattle.kex_regexp.specs.Postfixes.{Postfix, ZeroOrMore, OneOrMore, Optional, Exactly}
pub use Rattle.kex_regexp.specs.Postfixes.{AtLeast, AtMost, FromTo}

-- a token without its place: names, numbers and literals as they are in the text, a regex without
-- its slashes
pub data Word : Type 0 where
  Name : (name : List ℕ) → Word
  Number : (digits : List ℕ) → Word
  Literal : (spelling : List ℕ) → Word
  Regex : (body : List ℕ) → Word
  Define : Word
  Colon : Word
  Pipe : Word
  Bar : Word
  Tilde : Word
  At : Word
  Star : Word
  Plus : Word
  PlusEquals : Word
  Question : Word
  OpenBrace : Word
  CloseBrace : Word
  Comma : Word
  Bang : Word
  OpenBracket : Word
  CloseBracket : Word
  Arrow : Word
  OpenParen : Word
  CloseParen : Word

-- what is between the slashes
abbrev pub between : List ℕ → List ℕ
between spelling = take (length spelling - 2) (drop 1 spelling)

-- the word of a token of this kind, which is spelled so
abbrev pub word : TokenKind → List ℕ → Word
word kinds.Name bytes = Name bytes
word kinds.Number bytes = Number bytes
word kinds.Literal bytes = Literal bytes
word kinds.Regex bytes = Regex (between bytes)
word kinds.Define bytes = Define
word kinds.Colon bytes = Colon
word kinds.Pipe bytes = Pipe
word kinds.Bar bytes = Bar
word kinds.Tilde bytes = Tilde
word kinds.At bytes = At
word kinds.Star bytes = Star
word kinds.Plus bytes = Plus
word kinds.PlusEquals bytes = PlusEquals
word kinds.Question bytes = Question
word kinds.OpenBrace bytes = OpenBrace
word kinds.CloseBrace bytes = CloseBrace
word kinds.Comma bytes = Comma
word kinds.Bang bytes = Bang
word kinds.OpenBracket bytes = OpenBracket
word kinds.CloseBracket bytes = CloseBracket
word kinds.Arrow bytes = Arrow
word kinds.OpenParen bytes = OpenParen
word kinds.CloseParen bytes = CloseParen

pub data RegisterPart : Type 0 where
  Text : (spelling : List ℕ) → RegisterPart
  Held : (register : List ℕ) → RegisterPart

mutual
  -- term = seq { "|" seq }
  pub data Term : Type 0 where
    Last : (seq : Seq) → Term
    Or : (seq : Seq) → (rest : Term) → Term

  -- seq = pre { pre }
  pub data Seq : Type 0 where
    Only : (pre : Pre) → Seq
    Then : (pre : Pre) → (rest : Seq) → Seq

  -- pre = "~" pre | NAME "@" pre | atom [ postfix [ "?" ] ]
  pub data Pre : Type 0 where
    Mute : (pre : Pre) → Pre
    Into : (register : List ℕ) → (pre : Pre) → Pre
    Once : (atom : Atom) → Pre
    Turns : (atom : Atom) → (postfix : Postfix) → (lazy : Bool) → Pre

  -- atom = "1" | NAME | LITERAL | REGEX | "!" NAME | "[" NAME ( "<-" | "+=" ) part { part } "]" |
  -- "(" term ")"
  pub data Atom : Type 0 where
    One : Atom
    Call : (name : List ℕ) → Atom
    Lit : (spelling : List ℕ) → Atom
    Match : (body : List ℕ) → Atom
    Write : (register : List ℕ) → Atom
    Assign : (append : Bool) → (register : List ℕ) → (first : RegisterPart)
        → (parts : List RegisterPart) → Atom
    Group : (term : Term) → Atom

-- NAME ":=" term
pub record Definition : Type 0 where
  pub name : List ℕ
  pub term : Term

-- [ "start" ":" NAME { ">>" NAME } ]
pub data Header : Type 0 where
  NoStart : Header
  Stages : (first : List ℕ) → (others : List (List ℕ)) → Header

pub record Program : Type 0 where
  pub header : Header
  pub definitions : List Definition

-- ---- spelling

abbrev pub start : List ℕ
start = codes "start"

unfoldable pub register_part : RegisterPart → Word
register_part (Text s) = Literal s
register_part (Held r) = Name r

unfoldable pub parts : List RegisterPart → List Word
parts [] = []
parts (p ∷ ps) = register_part p ∷ parts ps

unfoldable pub sign : Bool → Word
sign false = Arrow
sign true = PlusEquals

-- a number is one word
abbrev pub word_signs : Signs Word
word_signs = record {
  star = Star;
  plus = Plus;
  question = Question;
  open_brace = OpenBrace;
  comma = Comma;
  close_brace = CloseBrace;
  number = λ digits. Number digits ∷ [];
}

unfoldable pub postfix : Postfix → List Word
postfix p = postfix_spelling word_signs p

unfoldable pub word_lazy_mark : Bool → List Word
word_lazy_mark lazy = lazy_sign word_signs lazy

unfoldable mutual
  pub term : Term → List Word
  term (Last s) = seq s
  term (Or s t) = seq s ++ Bar ∷ term t

  pub seq : Seq → List Word
  seq (Only p) = pre p
  seq (Then p s) = pre p ++ seq s

  pub pre : Pre → List Word
  pre (Mute p) = Tilde ∷ pre p
  pre (Into r p) = Name r ∷ At ∷ pre p
  pre (Once a) = atom a
  pre (Turns a p lazy) = atom a ++ (postfix p ++ word_lazy_mark lazy)

  pub atom : Atom → List Word
  atom One = Number (codes "1") ∷ []
  atom (Call n) = Name n ∷ []
  atom (Lit s) = Literal s ∷ []
  atom (Match b) = Regex b ∷ []
  atom (Write r) = Bang ∷ Name r ∷ []
  atom (Assign append r p ps) =
      OpenBracket ∷ Name r ∷ sign append ∷ register_part p ∷ (parts ps ++ CloseBracket ∷ [])
  atom (Group t) = OpenParen ∷ (term t ++ CloseParen ∷ [])

unfoldable pub definitions : List Definition → List Word
definitions [] = []
definitions (d ∷ ds) = Name d.name ∷ Define ∷ (term d.term ++ definitions ds)

unfoldable pub stages : List (List ℕ) → List Word
stages [] = []
stages (n ∷ ns) = Pipe ∷ Name n ∷ stages ns

unfoldable pub header : Header → List Word
header NoStart = []
header (Stages n ns) = Name start ∷ Colon ∷ Name n ∷ stages ns

unfoldable pub program : Program → List Word
program p = header p.header ++ definitions p.definitions
