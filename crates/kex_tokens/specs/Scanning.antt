-- How the scanners go: the lexeme at the front, by its first byte.
use Rattle.kex_tokens.specs.Bytes as byte
use Rattle.std.specs.Prelude.{ℕ, suc, Bool, true, false, List, [], ◌∷◌, Option, Some, None, ◌==◌}
use Rattle.std.specs.Prelude.{drop, if◌then◌else◌}
use Rattle.kex_tokens.specs.Lexemes.{is_space, is_letter, is_digit, is_name_byte, is_hex}
use Rattle.kex_tokens.specs.Lexemes.{is_no_feed, is_short, TokenKind, Name, Number, Literal, Regex}
use Rattle.kex_tokens.specs.Lexemes.{Define, Colon, Pipe, Bar, Tilde, At, Star, Plus, PlusEquals}
use Rattle.kex_tokens.specs.Lexemes.{Question, OpenBrace, CloseBrace, Comma, Bang, OpenBracket}
use Rattle.kex_tokens.specs.Lexemes.{CloseBracket, Arrow, OpenParen, CloseParen, Lexeme, Space}
use Rattle.kex_tokens.specs.Lexemes.{LineComment, BlockComment, Kept, SizedLexeme}
pub use Rattle.kex_tokens.specs.declared.runs.Run.{Run}
pub use Rattle.kex_tokens.specs.declared.runs.Run.TheVariants.{NameBytes, Digits, Line}
pub use Rattle.kex_tokens.specs.declared.closing.ClosingStep.{ClosingStep}
pub use Rattle.kex_tokens.specs.declared.closing.ClosingStep.TheVariants.{On, Closed, Wrong}
pub use Rattle.kex_tokens.specs.declared.literals.InLiteral.{InLiteral}
pub use Rattle.kex_tokens.specs.declared.literals.InLiteral.TheVariants.{Between, Backslash}
pub use Rattle.kex_tokens.specs.declared.literals.InLiteral.TheVariants.{HexBegun, HexOne}

-- ---- runs

abbrev pub belongs : Run → ℕ → Bool
belongs NameBytes = is_name_byte
belongs Digits = is_digit
belongs Line = is_no_feed

-- how many bytes at the front pass
unfoldable pub run : (ℕ → Bool) → List ℕ → ℕ
run p [] = 0
run p (b ∷ bs) = if p b then suc (run p bs) else 0

-- ---- what is closed by a byte

unfoldable pub more : Option ℕ → Option ℕ
more None = None
more (Some n) = Some (suc n)

abbrev pub after : {S : Type 0} → ClosingStep S → (S → Option ℕ) → Option ℕ
after (On s) rest = more (rest s)
after Closed rest = Some 1
after Wrong rest = None

-- the bytes up to and with the one that closes
unfoldable pub closing : {S : Type 0} → (S → ℕ → ClosingStep S) → S → List ℕ → Option ℕ
closing step s [] = None
closing step s (b ∷ bs) = after (step s b) (λ t. closing step t bs)

unfoldable pub literal_step : InLiteral → ℕ → ClosingStep InLiteral
literal_step Between b = if b == byte.quote then Closed else if b == byte.backslash
    then On Backslash else if b == byte.line_feed then Wrong else On Between
literal_step Backslash b = if b == byte.letter_x then On HexBegun else if is_short b then On Between
    else Wrong
literal_step HexBegun b = if is_hex b then On (HexOne b) else Wrong
literal_step (HexOne high) b = if is_hex b then On Between else Wrong

-- whether the byte before is a \ that escapes
unfoldable pub regex_step : Bool → ℕ → ClosingStep Bool
regex_step false b = if b == byte.slash then Closed else if b == byte.backslash then On true
    else if b == byte.line_feed then Wrong else On false
regex_step true b = if b == byte.line_feed then Wrong else On false

abbrev pub star_closes : Bool → ℕ → Bool
star_closes true b = b == byte.slash
star_closes false b = false

-- whether the byte before is a *
unfoldable pub block_step : Bool → ℕ → ClosingStep Bool
block_step star b = if star_closes star b then Closed else On (b == byte.asterisk)

abbrev pub literal : InLiteral → List ℕ → Option ℕ
literal s bs = closing literal_step s bs

abbrev pub regex : Bool → List ℕ → Option ℕ
regex escaped bs = closing regex_step escaped bs

abbrev pub block : Bool → List ℕ → Option ℕ
block star bs = closing block_step star bs

-- ---- the lexeme at the front

abbrev pub piece : Lexeme → ℕ → SizedLexeme
piece l n = record { lexeme = l; long = n }

unfoldable pub behind_one : Lexeme → Option ℕ → Option SizedLexeme
behind_one l None = None
behind_one l (Some n) = Some (piece l (suc n))

abbrev pub begins_with : ℕ → List ℕ → Bool
begins_with c [] = false
begins_with c (b ∷ bs) = b == c

-- after a /
unfoldable pub slash : List ℕ → Option SizedLexeme
slash bs =
    if begins_with byte.slash bs
    then Some (piece LineComment (suc (suc (run is_no_feed (drop 1 bs)))))
    else if begins_with byte.asterisk bs
    then behind_one BlockComment (more (block false (drop 1 bs)))
    else behind_one (Kept Regex) (regex false bs)

abbrev pub alone : TokenKind → Option SizedLexeme
alone k = Some (piece (Kept k) 1)

abbrev pub pair : TokenKind → Option SizedLexeme
pair k = Some (piece (Kept k) 2)

unfoldable pub one_or_two : ℕ → TokenKind → TokenKind → List ℕ → Option SizedLexeme
one_or_two c long short bs = if begins_with c bs then pair long else alone short

unfoldable pub two : ℕ → TokenKind → List ℕ → Option SizedLexeme
two c long bs = if begins_with c bs then pair long else None

unfoldable pub single : ℕ → Option TokenKind
single b =
    if b == byte.bar then Some Bar else if b == byte.tilde then Some Tilde else if b == byte.at_sign
    then Some At else if b == byte.asterisk then Some Star
    else if b == byte.question then Some Question else if b == byte.open_brace then Some OpenBrace
    else if b == byte.close_brace then Some CloseBrace else if b == byte.comma then Some Comma
    else if b == byte.bang then Some Bang else if b == byte.open_bracket then Some OpenBracket
    else if b == byte.close_bracket then Some CloseBracket else if b == byte.open_paren
    then Some OpenParen
    else if b == byte.close_paren then Some CloseParen else None

abbrev pub of_kind : Option TokenKind → Option SizedLexeme
of_kind None = None
of_kind (Some k) = alone k

unfoldable pub sign_at : ℕ → List ℕ → Option SizedLexeme
sign_at b bs =
    if b == byte.colon then one_or_two byte.equals Define Colon bs
    else if b == byte.plus then one_or_two byte.equals PlusEquals Plus bs
    else if b == byte.greater then two byte.greater Pipe bs
    else if b == byte.less_than then two byte.hyphen Arrow bs
    else of_kind (single b)

unfoldable pub lexeme : List ℕ → Option SizedLexeme
lexeme [] = None
lexeme (b ∷ bs) =
    if is_space b then Some (piece Space 1)
    else if is_letter b then Some (piece (Kept Name) (suc (run is_name_byte bs)))
    else if is_digit b then Some (piece (Kept Number) (suc (run is_digit bs)))
    else if b == byte.quote then behind_one (Kept Literal) (literal Between bs)
    else if b == byte.slash then slash bs
    else sign_at b bs
