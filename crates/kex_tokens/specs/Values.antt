-- What literals and numbers stand for.
use Rattle.kex_tokens.specs.Bytes as byte
use Rattle.std.specs.Prelude.{◌≡◌, ℕ, ◌+◌, ◌-◌, ◌*◌, ◌&&◌, List, [], ◌∷◌, ◌++◌, map, Option, Some}
use Rattle.std.specs.Prelude.{None, nat_le, ◌==◌, if◌then◌else◌}
use Rattle.kex_tokens.specs.Lexemes.{is_digit, LiteralItem, Itself, Short, Hex, items, AreItems}
use Rattle.kex_tokens.specs.Scanning.{InLiteral, Between, Backslash, HexBegun, HexOne, ClosingStep}
use Rattle.kex_tokens.specs.Scanning.{On, Closed, Wrong, literal_step}

-- what a hexadecimal digit counts
abbrev pub hex_value : ℕ → ℕ
hex_value b = if is_digit b then b - 48 else if nat_le 65 b && nat_le b 70 then b - 55
    else if nat_le 97 b && nat_le b 102 then b - 87 else 0

-- \n, \t and \r stand for a line feed, a tab and a carriage return, \\ and \" for their second byte
abbrev pub short_value : ℕ → ℕ
short_value b = if b == byte.letter_n then byte.line_feed else if b == byte.letter_t then byte.tab
    else if b == byte.letter_r then byte.carriage_return else b

abbrev pub item_value : LiteralItem → ℕ
item_value (Itself b) = b
item_value (Short b) = short_value b
item_value (Hex h l) = 16 * hex_value h + hex_value l

-- the literal with this spelling stands for these bytes, one for each item
abbrev pub StandsFor : List ℕ → List ℕ → Type 0
StandsFor spelling bytes = (is : List LiteralItem) × AreItems is
    × (spelling ≡ byte.quote ∷ items is ++ byte.quote ∷ []) × (map item_value is ≡ bytes)

-- the number that decimal digits write, where those before them write n
unfoldable pub number_behind : ℕ → List ℕ → ℕ
number_behind n [] = n
number_behind n (b ∷ bs) = number_behind (10 * n + (b - byte.digit_0)) bs

abbrev pub decimal_value : List ℕ → ℕ
decimal_value digits = number_behind 0 digits

-- ---- how the code goes

-- the byte that an item gives at its last byte
unfoldable pub item_end : InLiteral → ℕ → Option ℕ
item_end Between b = if b == byte.backslash then None else Some b
item_end Backslash b = if b == byte.letter_x then None else Some (short_value b)
item_end HexBegun b = None
item_end (HexOne high) b = Some (16 * hex_value high + hex_value b)

abbrev pub or_nothing : Option ℕ → List ℕ
or_nothing None = []
or_nothing (Some b) = b ∷ []

abbrev pub decode_after : ClosingStep InLiteral → List ℕ → (InLiteral → List ℕ) → List ℕ
decode_after (On s) given rest = given ++ rest s
decode_after Closed given rest = []
decode_after Wrong given rest = []

unfoldable pub decode : InLiteral → List ℕ → List ℕ
decode s [] = []
decode s (b ∷ bs) = decode_after (literal_step s b) (or_nothing (item_end s b)) (λ t. decode t bs)
