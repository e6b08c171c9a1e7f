-- What tokens, white space and comments are spelled, and the longest of them at a place.
use Rattle.std.specs.Char.{is_ascii_alphabetic, is_ascii_digit, is_ascii_hexdigit}
use Rattle.kex_tokens.specs.Bytes as byte
use Rattle.std.specs.Prelude.{◌≡◌, ℕ, ◌<◌, ◌≤◌, Bool, true, false, ◌||◌, List, [], ◌∷◌, ◌++◌}
use Rattle.std.specs.Prelude.{length, take, ◌==◌, codes}
pub use Rattle.kex_tokens.specs.declared.token.TokenKind.{TokenKind}
pub use Rattle.kex_tokens.specs.declared.token.TokenKind.TheVariants.{Name, Number, Literal, Regex}
pub use Rattle.kex_tokens.specs.declared.token.TokenKind.TheVariants.{Define, Colon, Pipe, Bar}
pub use Rattle.kex_tokens.specs.declared.token.TokenKind.TheVariants.{Tilde, At, Star, Plus}
pub use Rattle.kex_tokens.specs.declared.token.TokenKind.TheVariants.{PlusEquals, Question}
pub use Rattle.kex_tokens.specs.declared.token.TokenKind.TheVariants.{OpenBrace, CloseBrace, Comma}
pub use Rattle.kex_tokens.specs.declared.token.TokenKind.TheVariants.{Bang, OpenBracket}
pub use Rattle.kex_tokens.specs.declared.token.TokenKind.TheVariants.{CloseBracket, Arrow}
pub use Rattle.kex_tokens.specs.declared.token.TokenKind.TheVariants.{OpenParen, CloseParen}
pub use Rattle.kex_tokens.specs.declared.lexeme.Lexeme.{Lexeme}
pub use Rattle.kex_tokens.specs.declared.lexeme.Lexeme.TheVariants.{Space, LineComment}
pub use Rattle.kex_tokens.specs.declared.lexeme.Lexeme.TheVariants.{BlockComment, Kept}
pub use Rattle.kex_tokens.specs.declared.lexeme.SizedLexeme.{SizedLexeme}

-- ---- bytes

-- blank, tab, carriage return, line feed
abbrev pub is_space : ℕ → Bool
is_space b =
    (b == byte.blank) || (b == byte.tab) || (b == byte.carriage_return) || (b == byte.line_feed)

abbrev pub is_letter : ℕ → Bool
is_letter b = is_ascii_alphabetic b

abbrev pub is_digit : ℕ → Bool
is_digit b = is_ascii_digit b

-- a letter, a digit or _
abbrev pub is_name_byte : ℕ → Bool
is_name_byte b = is_letter b || is_digit b || (b == byte.underscore)

abbrev pub is_hex : ℕ → Bool
is_hex b = is_ascii_hexdigit b

abbrev pub not : Bool → Bool
not true = false
not false = true

abbrev pub is_no_feed : ℕ → Bool
is_no_feed b = not (b == byte.line_feed)

-- what may come after the \ of a short escape: n, t, r, \ and "
abbrev pub is_short : ℕ → Bool
is_short b = (b == byte.letter_n) || (b == byte.letter_t) || (b == byte.letter_r)
    || (b == byte.backslash) || (b == byte.quote)

-- what stands for itself in a literal: no ", \ or line feed
abbrev pub is_literal_byte : ℕ → Bool
is_literal_byte b = not ((b == byte.quote) || (b == byte.backslash) || (b == byte.line_feed))

-- what is an item by itself in a regex: no /, \ or line feed
abbrev pub is_regex_byte : ℕ → Bool
is_regex_byte b = not ((b == byte.slash) || (b == byte.backslash) || (b == byte.line_feed))

unfoldable pub AreAll : (ℕ → Bool) → List ℕ → Type 0
AreAll p [] = Unit {0}
AreAll p (b ∷ bs) = (p b ≡ true) × AreAll p bs

-- ---- items of literals and of regexes

pub data LiteralItem : Type 0 where
  Itself : (byte : ℕ) → LiteralItem
  Short : (byte : ℕ) → LiteralItem
  Hex : (high low : ℕ) → LiteralItem

unfoldable pub items : List LiteralItem → List ℕ
items [] = []
items (Itself b ∷ is) = b ∷ items is
items (Short b ∷ is) = byte.backslash ∷ b ∷ items is
items (Hex h l ∷ is) = byte.backslash ∷ byte.letter_x ∷ h ∷ l ∷ items is

unfoldable pub AreItems : List LiteralItem → Type 0
AreItems [] = Unit {0}
AreItems (Itself b ∷ is) = (is_literal_byte b ≡ true) × AreItems is
AreItems (Short b ∷ is) = (is_short b ≡ true) × AreItems is
AreItems (Hex h l ∷ is) = (is_hex h ≡ true) × (is_hex l ≡ true) × AreItems is

pub data LiteralAtom : Type 0 where
  Plain : (byte : ℕ) → LiteralAtom
  Escaped : (byte : ℕ) → LiteralAtom

unfoldable pub atoms : List LiteralAtom → List ℕ
atoms [] = []
atoms (Plain b ∷ as') = b ∷ atoms as'
atoms (Escaped b ∷ as') = byte.backslash ∷ b ∷ atoms as'

unfoldable pub AreAtoms : List LiteralAtom → Type 0
AreAtoms [] = Unit {0}
AreAtoms (Plain b ∷ as') = (is_regex_byte b ≡ true) × AreAtoms as'
AreAtoms (Escaped b ∷ as') = (is_no_feed b ≡ true) × AreAtoms as'

-- ---- tokens, white space and comments

unfoldable pub IsToken : TokenKind → List ℕ → Type 0
IsToken Name bytes = (b : ℕ) × (w : List ℕ) × (is_letter b ≡ true) × AreAll is_name_byte w
    × (bytes ≡ b ∷ w)
IsToken Number bytes = (b : ℕ) × (w : List ℕ) × (is_digit b ≡ true) × AreAll is_digit w
    × (bytes ≡ b ∷ w)
IsToken Literal bytes = (is : List LiteralItem) × AreItems is
    × (bytes ≡ byte.quote ∷ items is ++ byte.quote ∷ [])
-- between the slashes is at least one item, and the first byte there is no *
IsToken Regex bytes = (b : ℕ) × (w : List ℕ) × (as' : List LiteralAtom) × AreAtoms as'
    × ((b == byte.asterisk) ≡ false) × (atoms as' ≡ b ∷ w)
    × (bytes ≡ byte.slash ∷ b ∷ w ++ byte.slash ∷ [])
IsToken Define bytes = bytes ≡ codes ":="
IsToken Colon bytes = bytes ≡ codes ":"
IsToken Pipe bytes = bytes ≡ codes ">>"
IsToken Bar bytes = bytes ≡ codes "|"
IsToken Tilde bytes = bytes ≡ codes "~"
IsToken At bytes = bytes ≡ codes "@"
IsToken Star bytes = bytes ≡ codes "*"
IsToken Plus bytes = bytes ≡ codes "+"
IsToken PlusEquals bytes = bytes ≡ codes "+="
IsToken Question bytes = bytes ≡ codes "?"
IsToken OpenBrace bytes = bytes ≡ codes "{"
IsToken CloseBrace bytes = bytes ≡ codes "}"
IsToken Comma bytes = bytes ≡ codes ","
IsToken Bang bytes = bytes ≡ codes "!"
IsToken OpenBracket bytes = bytes ≡ codes "["
IsToken CloseBracket bytes = bytes ≡ codes "]"
IsToken Arrow bytes = bytes ≡ codes "<-"
IsToken OpenParen bytes = bytes ≡ codes "("
IsToken CloseParen bytes = bytes ≡ codes ")"

-- */ isn't in these bytes
abbrev pub NoClose : List ℕ → Type 0
NoClose bytes = (a b : List ℕ) → bytes ≡ a ++ byte.asterisk ∷ byte.slash ∷ b → ⊥

unfoldable pub IsLexeme : Lexeme → List ℕ → Type 0
IsLexeme Space bytes = (b : ℕ) × (is_space b ≡ true) × (bytes ≡ b ∷ [])
IsLexeme LineComment bytes = (w : List ℕ) × AreAll is_no_feed w
    × (bytes ≡ byte.slash ∷ byte.slash ∷ w)
-- the first */ after the /* ends it
IsLexeme BlockComment bytes = (w : List ℕ) × NoClose (w ++ byte.asterisk ∷ [])
    × (bytes ≡ byte.slash ∷ byte.asterisk ∷ w ++ byte.asterisk ∷ byte.slash ∷ [])
IsLexeme (Kept kind) bytes = IsToken kind bytes

-- this lexeme is at the front, and no longer one is
pub record IsLongest (bytes : List ℕ) (p : SizedLexeme) : Type 0 where
  pub inside : p.long ≤ length bytes
  pub is : IsLexeme p.lexeme (take p.long bytes)
  pub no_longer : (other : Lexeme) (n : ℕ) → p.long < n → n ≤ length bytes
      → IsLexeme other (take n bytes) → ⊥

-- no lexeme is at the front
abbrev pub HasNoLexeme : List ℕ → Type 0
HasNoLexeme bytes = (any : Lexeme) (n : ℕ) → IsLexeme any (take n bytes) → ⊥
