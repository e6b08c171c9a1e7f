-- The rules that a body breaks, with their offsets, in the order of the text.
use Rattle.std.specs.Prelude.{◌≡◌, ℕ, ◌+◌, Bool, true, false, not, ◌||◌, List, [], ◌∷◌, ◌++◌}
use Rattle.std.specs.Prelude.{length, nat_lt, ◌==◌, if◌then◌else◌}
use Rattle.kex_code.specs.Codes.{IsAmong}
pub use Rattle.kex_regexp.specs.declared.breaks.Break.{Break}
pub use Rattle.kex_regexp.specs.declared.breaks.Break.TheVariants.{BadRegex, BadCount, BadSet}
pub use Rattle.kex_regexp.specs.declared.breaks.Break.TheVariants.{OverLimit}
use Rattle.kex_regexp.specs.Grammar.{Member, Regex, Last, Or, Branch, Empty, Then, Piece, Once}
use Rattle.kex_regexp.specs.Grammar.{Turns, Item, Plain, Escaped, Dot, Set, Group, branch, piece}
use Rattle.kex_regexp.specs.Grammar.{item}
use Rattle.kex_regexp.specs.Postfixes.{is_bad_count}
use Rattle.kex_regexp.specs.Values.{in_set, has_backward, any_below}

-- how many parentheses and prefixes may be open at a place
abbrev pub most_depth : ℕ
most_depth = 200

-- a range whose first byte is above its last, or no byte at all
abbrev pub is_bad_set : Bool → List Member → Bool
is_bad_set negated ms = has_backward ms || not (any_below 256 (in_set negated ms))

abbrev pub break_if : Bool → Break → List Break
break_if true b = b ∷ []
break_if false b = []

-- a body at an offset, with `depth` marks open round it: a bad count is noted at its brace, a bad
-- set at its bracket, and a group that is nested too deep at its parenthesis
unfoldable mutual
  pub regex_breaks : Regex → ℕ → ℕ → List Break
  regex_breaks (Last b) at depth = branch_breaks b at depth
  regex_breaks (Or b r) at depth =
      branch_breaks b at depth ++ regex_breaks r (at + length (branch b) + 1) depth

  pub branch_breaks : Branch → ℕ → ℕ → List Break
  branch_breaks Empty at depth = []
  branch_breaks (Then p b) at depth =
      piece_breaks p at depth ++ branch_breaks b (at + length (piece p)) depth

  pub piece_breaks : Piece → ℕ → ℕ → List Break
  piece_breaks (Once i) at depth = item_breaks i at depth
  piece_breaks (Turns i p lazy) at depth =
      item_breaks i at depth ++ break_if (is_bad_count p) (BadCount (at + length (item i)))

  pub item_breaks : Item → ℕ → ℕ → List Break
  item_breaks (Plain b) at depth = []
  item_breaks (Escaped e) at depth = []
  item_breaks Dot at depth = []
  item_breaks (Set negated ms) at depth = break_if (is_bad_set negated ms) (BadSet at)
  item_breaks (Group r) at depth =
      break_if (depth == most_depth) (OverLimit at) ++ regex_breaks r (at + 1) (depth + 1)

-- ---- the least of them: by the number of the refusal, then by the offset

abbrev pub rank : Break → ℕ
rank (BadRegex at) = 3
rank (BadCount at) = 4
rank (BadSet at) = 5
rank (OverLimit at) = 6

abbrev pub offset : Break → ℕ
offset (BadRegex at) = at
offset (BadCount at) = at
offset (BadSet at) = at
offset (OverLimit at) = at

abbrev pub comes_before : Break → Break → Bool
comes_before a b = if nat_lt (rank a) (rank b) then true else if rank a == rank b
    then nat_lt (offset a) (offset b) else false

-- b is one of the breaks, and none of them comes before it
pub record IsLeast (bs : List Break) (b : Break) : Type 0 where
  pub among : IsAmong bs b
  pub least : (c : Break) → IsAmong bs c → comes_before c b ≡ false
