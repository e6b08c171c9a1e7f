-- The grammar of regex bodies, as trees, one constructor for each alternative of a rule, and what
-- each tree spells.
use Rattle.std.specs.Char.{is_ascii_digit, is_ascii_hexdigit, is_ascii_punctuation}
use Rattle.kex_tokens.specs.Bytes as byte
use Rattle.kex_regexp.specs.Postfixes.{Signs, postfix_spelling, lazy_sign}
pub use Rattle.kex_regexp.specs.Postfixes.{Postfix, ZeroOrMore, OneOrMore, Optional, Exactly}
pub use Rattle.kex_regexp.specs.Postfixes.{AtLeast, AtMost, FromTo}
use Rattle.std.specs.Prelude.{◌≡◌, ℕ, Bool, true, false, List, [], ◌∷◌, ◌++◌, ◌==◌, if◌then◌else◌}

-- ---- which bytes are what

-- a byte that stands for itself: none of * + ? { } ( ) | [ ] \ . / ^ $ and no line feed
abbrev pub special_bytes : List ℕ
special_bytes = byte.asterisk ∷ byte.plus ∷ byte.question ∷ byte.open_brace ∷ byte.close_brace
    ∷ byte.open_paren ∷ byte.close_paren ∷ byte.bar ∷ byte.open_bracket ∷ byte.close_bracket
    ∷ byte.backslash ∷ byte.dot ∷ byte.slash ∷ byte.caret ∷ byte.dollar ∷ byte.line_feed ∷ []

abbrev pub is_among : ℕ → List ℕ → Bool
is_among b [] = false
is_among b (c ∷ cs) = if b == c then true else is_among b cs

unfoldable pub is_plain : ℕ → Bool
is_plain b = if is_among b special_bytes then false else true

-- ASCII punctuation: 21 to 2F, 3A to 40, 5B to 60, 7B to 7E
unfoldable pub is_punctuation : ℕ → Bool
is_punctuation b = is_ascii_punctuation b

unfoldable pub is_digit : ℕ → Bool
is_digit b = is_ascii_digit b

unfoldable pub is_hex : ℕ → Bool
is_hex b = is_ascii_hexdigit b

-- what may be an end of a member: no ] \ - / and no line feed
unfoldable pub is_end : ℕ → Bool
is_end b = if is_among b (byte.close_bracket ∷ byte.backslash ∷ byte.hyphen ∷ byte.slash
    ∷ byte.line_feed ∷ []) then false else true

-- ---- trees without recursion

-- \n, \t, \r, \xHH, \ before punctuation
pub data Escape : Type 0 where
  Newline : Escape
  Tab : Escape
  Return : Escape
  Hex : (high low : ℕ) → Escape
  Punctuation : (byte : ℕ) → Escape

pub data End : Type 0 where
  Itself : (byte : ℕ) → End
  EscapedEnd : (escape : Escape) → End

pub data Member : Type 0 where
  Single : (end : End) → Member
  Range : (first last : End) → Member

-- ---- regex = branch { "|" branch }, branch = { piece }, piece = item [ postfix [ "?" ] ]

mutual
  pub data Regex : Type 0 where
    Last : (branch : Branch) → Regex
    Or : (branch : Branch) → (rest : Regex) → Regex

  pub data Branch : Type 0 where
    Empty : Branch
    Then : (piece : Piece) → (rest : Branch) → Branch

  pub data Piece : Type 0 where
    Once : (item : Item) → Piece
    Turns : (item : Item) → (postfix : Postfix) → (lazy : Bool) → Piece

  pub data Item : Type 0 where
    Plain : (byte : ℕ) → Item
    Escaped : (escape : Escape) → Item
    Dot : Item
    Set : (negated : Bool) → (members : List Member) → Item
    Group : (regex : Regex) → Item

-- ---- spelling

unfoldable pub escape : Escape → List ℕ
escape Newline = byte.backslash ∷ byte.letter_n ∷ []
escape Tab = byte.backslash ∷ byte.letter_t ∷ []
escape Return = byte.backslash ∷ byte.letter_r ∷ []
escape (Hex high low) = byte.backslash ∷ byte.letter_x ∷ high ∷ low ∷ []
escape (Punctuation b) = byte.backslash ∷ b ∷ []

unfoldable pub end_of : End → List ℕ
end_of (Itself byte) = byte ∷ []
end_of (EscapedEnd e) = escape e

unfoldable pub member : Member → List ℕ
member (Single end) = end_of end
member (Range first last) = end_of first ++ byte.hyphen ∷ end_of last

unfoldable pub members : List Member → List ℕ
members [] = []
members (m ∷ ms) = member m ++ members ms

unfoldable pub negation : Bool → List ℕ
negation true = byte.caret ∷ []
negation false = []

-- a number is its digits
abbrev pub signs : Signs ℕ
signs = record {
  star = byte.asterisk;
  plus = byte.plus;
  question = byte.question;
  open_brace =
      byte.open_brace;
  comma = byte.comma;
  close_brace = byte.close_brace;
  number = λ digits. digits;
}

unfoldable pub postfix : Postfix → List ℕ
postfix p = postfix_spelling signs p

unfoldable pub lazy_mark : Bool → List ℕ
lazy_mark lazy = lazy_sign signs lazy

unfoldable mutual
  pub regex : Regex → List ℕ
  regex (Last b) = branch b
  regex (Or b r) = branch b ++ byte.bar ∷ regex r

  pub branch : Branch → List ℕ
  branch Empty = []
  branch (Then p b) = piece p ++ branch b

  pub piece : Piece → List ℕ
  piece (Once i) = item i
  piece (Turns i p lazy) = item i ++ (postfix p ++ lazy_mark lazy)

  pub item : Item → List ℕ
  item (Plain b) = b ∷ []
  item (Escaped e) = escape e
  item Dot = byte.dot ∷ []
  item (Set negated ms) =
      byte.open_bracket ∷ negation negated ++ (members ms ++ byte.close_bracket ∷ [])
  item (Group r) = byte.open_paren ∷ regex r ++ byte.close_paren ∷ []

-- ---- the conditions on bytes

unfoldable pub IsEscape : Escape → Type 0
IsEscape (Hex high low) = (is_hex high ≡ true) × (is_hex low ≡ true)
IsEscape (Punctuation byte) = is_punctuation byte ≡ true
IsEscape Newline = Unit {0}
IsEscape Tab = Unit {0}
IsEscape Return = Unit {0}

unfoldable pub IsEnd : End → Type 0
IsEnd (Itself byte) = is_end byte ≡ true
IsEnd (EscapedEnd e) = IsEscape e

unfoldable pub IsMember : Member → Type 0
IsMember (Single end) = IsEnd end
IsMember (Range first last) = IsEnd first × IsEnd last

unfoldable pub AreMembers : List Member → Type 0
AreMembers [] = Unit {0}
AreMembers (m ∷ ms) = IsMember m × AreMembers ms

-- a ^ right after the [ always means the complement
unfoldable pub begins_with_caret : Member → Bool
begins_with_caret (Single (Itself b)) = b == byte.caret
begins_with_caret (Range (Itself b) last) = b == byte.caret
begins_with_caret (Single (EscapedEnd e)) = false
begins_with_caret (Range (EscapedEnd e) last) = false

unfoldable pub IsSet : Bool → List Member → Type 0
IsSet negated [] = ⊥
IsSet true (m ∷ ms) = IsMember m × AreMembers ms
IsSet false (m ∷ ms) = (begins_with_caret m ≡ false) × IsMember m × AreMembers ms

unfoldable pub AreDigits : List ℕ → Type 0
AreDigits [] = Unit {0}
AreDigits (d ∷ ds) = (is_digit d ≡ true) × AreDigits ds

unfoldable pub IsNumber : List ℕ → Type 0
IsNumber [] = ⊥
IsNumber (d ∷ ds) = (is_digit d ≡ true) × AreDigits ds

unfoldable pub IsPostfix : Postfix → Type 0
IsPostfix ZeroOrMore = Unit {0}
IsPostfix OneOrMore = Unit {0}
IsPostfix Optional = Unit {0}
IsPostfix (Exactly n) = IsNumber n
IsPostfix (AtLeast n) = IsNumber n
IsPostfix (AtMost m) = IsNumber m
IsPostfix (FromTo n m) = IsNumber n × IsNumber m

unfoldable mutual
  pub IsRegex : Regex → Type 0
  IsRegex (Last b) = IsBranch b
  IsRegex (Or b r) = IsBranch b × IsRegex r

  pub IsBranch : Branch → Type 0
  IsBranch Empty = Unit {0}
  IsBranch (Then p b) = IsPiece p × IsBranch b

  pub IsPiece : Piece → Type 0
  IsPiece (Once i) = IsItem i
  IsPiece (Turns i p lazy) = IsItem i × IsPostfix p

  pub IsItem : Item → Type 0
  IsItem (Plain b) = is_plain b ≡ true
  IsItem (Escaped e) = IsEscape e
  IsItem Dot = Unit {0}
  IsItem (Set negated ms) = IsSet negated ms
  IsItem (Group r) = IsRegex r
