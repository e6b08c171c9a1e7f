-- What escapes and sets stand for.
use Rattle.kex_tokens.specs.Bytes as byte
use Rattle.std.specs.Prelude.{ℕ, zero, suc, ◌+◌, ◌*◌, ◌-◌, Bool, true, false, not, ◌&&◌, ◌||◌, List}
use Rattle.std.specs.Prelude.{[], ◌∷◌, nat_le, nat_lt, ◌==◌, if◌then◌else◌}
use Rattle.kex_regexp.specs.Grammar.{End, Itself, EscapedEnd, Escape, Newline, Tab, Return, Hex}
use Rattle.kex_regexp.specs.Grammar.{Punctuation, Member, Single, Range}

-- ---- bytes

unfoldable pub hex_value : ℕ → ℕ
hex_value d = if nat_le 48 d && nat_le d 57 then d - 48 else if nat_le 65 d && nat_le d 70
    then d - 55 else if nat_le 97 d && nat_le d 102 then d - 87 else 0

unfoldable pub escaped_byte : Escape → ℕ
escaped_byte Newline = byte.line_feed
escaped_byte Tab = byte.tab
escaped_byte Return = byte.carriage_return
escaped_byte (Hex high low) = 16 * hex_value high + hex_value low
escaped_byte (Punctuation byte) = byte

unfoldable pub end_byte : End → ℕ
end_byte (Itself byte) = byte
end_byte (EscapedEnd e) = escaped_byte e

-- ---- sets

-- the byte b is among those of a member
unfoldable pub in_member : Member → ℕ → Bool
in_member (Single end) b = b == end_byte end
in_member (Range first last) b = nat_le (end_byte first) b && nat_le b (end_byte last)

unfoldable pub in_members : List Member → ℕ → Bool
in_members [] b = false
in_members (m ∷ ms) b = in_member m b || in_members ms b

abbrev pub membership : Bool → Bool → Bool
membership true b = not b
membership false b = b

-- the byte b is in the set, which is negated or not
unfoldable pub in_set : Bool → List Member → ℕ → Bool
in_set negated ms b = membership negated (in_members ms b)

-- the first byte is above the last
unfoldable pub is_backward : Member → Bool
is_backward (Single end) = false
is_backward (Range first last) = nat_lt (end_byte last) (end_byte first)

unfoldable pub has_backward : List Member → Bool
has_backward [] = false
has_backward (m ∷ ms) = is_backward m || has_backward ms

-- the test says true of a number below n
unfoldable pub any_below : ℕ → (ℕ → Bool) → Bool
any_below zero test = false
any_below (suc n) test = any_below n test || test n
