-- What the code's values of sets and counts become by one byte.
use Rattle.kex_tokens.specs.Bytes as byte
use Rattle.std.specs.Prelude.{ℕ, ◌+◌, ◌*◌, ◌-◌, ◌||◌, nat_lt, Bool, true, false, Option, Some, None}
use Rattle.std.specs.Prelude.{min, ◌==◌, if◌then◌else◌}
use Rattle.kex_regexp.specs.declared.escapes.EscapeOutcome.{EscapeOutcome}
use Rattle.kex_regexp.specs.declared.escapes.EscapeOutcome.TheVariants as escapes
use Rattle.kex_regexp.specs.declared.sets.SetPart.{SetPart}
use Rattle.kex_regexp.specs.declared.sets.SetPart.TheVariants as parts
use Rattle.kex_regexp.specs.declared.sets.SetOutcome.{SetOutcome}
use Rattle.kex_regexp.specs.declared.sets.SetOutcome.TheVariants as sets
use Rattle.kex_regexp.specs.declared.sets.Span.{Span}
use Rattle.kex_regexp.specs.declared.counts.Bounds.{Bounds}
use Rattle.kex_regexp.specs.declared.counts.Count.{Count}
use Rattle.kex_regexp.specs.declared.counts.Count.TheVariants as counts
use Rattle.kex_regexp.specs.declared.counts.CountOutcome.{CountOutcome}
use Rattle.kex_regexp.specs.declared.counts.CountOutcome.TheVariants as outcomes
use Rattle.kex_regexp.specs.declared.escapes.Escaping.{Escaping}
use Rattle.kex_regexp.specs.declared.escapes.Escaping.TheVariants.{Begun, HexBegun, HexOne}
use Rattle.kex_regexp.specs.Grammar.{is_digit, is_end, is_hex, is_punctuation}
use Rattle.kex_regexp.specs.Postfixes.{most_count}
use Rattle.kex_regexp.specs.Values.{hex_value}

unfoldable pub escape_outcome : Escaping → ℕ → EscapeOutcome
escape_outcome Begun b =
    if b == byte.letter_n then escapes.Read byte.line_feed else if b == byte.letter_t
    then escapes.Read byte.tab else if b == byte.letter_r then escapes.Read byte.carriage_return
    else if b == byte.letter_x then escapes.On HexBegun else if is_punctuation b then escapes.Read b
    else escapes.Wrong
escape_outcome HexBegun b = if is_hex b then escapes.On (HexOne b) else escapes.Wrong
escape_outcome (HexOne high) b = if is_hex b then escapes.Read (16 * hex_value high + hex_value b)
    else escapes.Wrong

unfoldable pub begin_outcome : Bool → Bool → ℕ → SetOutcome
begin_outcome negated empty b =
    if is_end b then sets.On negated empty (parts.HasEnd b) else if b == byte.backslash
    then sets.On negated empty (parts.InFirst Begun) else sets.Wrong

unfoldable pub between_outcome : Bool → Bool → ℕ → SetOutcome
between_outcome negated true b = begin_outcome negated true b
between_outcome negated false b = if b == byte.close_bracket then sets.Read negated
    else begin_outcome negated false b

unfoldable pub first_outcome : Bool → Bool → EscapeOutcome → SetOutcome
first_outcome negated empty (escapes.On e) = sets.On negated empty (parts.InFirst e)
first_outcome negated empty (escapes.Read b) = sets.On negated empty (parts.HasEnd b)
first_outcome negated empty escapes.Wrong = sets.Wrong

unfoldable pub last_outcome : Bool → Bool → ℕ → EscapeOutcome → SetOutcome
last_outcome negated empty first (escapes.On e) = sets.On negated empty (parts.InLast first e)
last_outcome negated empty first (escapes.Read b) = sets.On negated false parts.Between
last_outcome negated empty first escapes.Wrong = sets.Wrong

unfoldable pub set_outcome : Bool → Bool → SetPart → ℕ → SetOutcome
set_outcome negated empty parts.AtStart b = if b == byte.caret then sets.On true empty parts.Between
    else between_outcome negated empty b
set_outcome negated empty parts.Between b = between_outcome negated empty b
set_outcome negated empty (parts.HasEnd end) b = if b == byte.hyphen
    then sets.On negated empty (parts.HasDash end) else between_outcome negated false b
set_outcome negated empty (parts.HasDash first) b =
    if is_end b then sets.On negated false parts.Between else if b == byte.backslash
    then sets.On negated empty (parts.InLast first Begun) else sets.Wrong
set_outcome negated empty (parts.InFirst e) b = first_outcome negated empty (escape_outcome e b)
set_outcome negated empty (parts.InLast first e) b =
    last_outcome negated empty first (escape_outcome e b)

-- the bytes of the member that this byte ends, if it ends one
unfoldable pub last_span : ℕ → EscapeOutcome → Option Span
last_span first (escapes.On e) = None
last_span first (escapes.Read b) = Some (record { first = first; last = b })
last_span first escapes.Wrong = None

unfoldable pub ended_span : SetPart → ℕ → Option Span
ended_span parts.AtStart b = None
ended_span parts.Between b = None
ended_span (parts.HasEnd end) b = if b == byte.hyphen then None
    else Some (record { first = end; last = end })
ended_span (parts.HasDash first) b = if is_end b then Some (record { first = first; last = b })
    else None
ended_span (parts.InFirst e) b = None
ended_span (parts.InLast first e) b = last_span first (escape_outcome e b)

unfoldable pub capped_number : ℕ → ℕ → ℕ
capped_number v d = min (10 * min v (most_count + 1) + (d - byte.digit_0)) (most_count + 1)

-- by a digit, a comma, the brace that closes, or another byte
abbrev pub outcome_by : ℕ → CountOutcome → CountOutcome → CountOutcome → CountOutcome
outcome_by b digit comma close = if is_digit b then digit else if b == byte.comma then comma
    else if b == byte.close_brace then close else outcomes.Wrong

unfoldable pub count_outcome : Count → ℕ → CountOutcome
count_outcome counts.Opened b = outcome_by b (outcomes.On (counts.Low (capped_number 0 b)))
    (outcomes.On counts.OnlyComma) outcomes.Wrong
count_outcome (counts.Low v) b = outcome_by b (outcomes.On (counts.Low (capped_number v b)))
    (outcomes.On (counts.LowComma v)) (outcomes.Read (record { low = v; high = Some v }))
count_outcome (counts.LowComma v) b =
    outcome_by b (outcomes.On (counts.LowHigh v (capped_number 0 b))) outcomes.Wrong
    (outcomes.Read (record { low = v; high = None }))
count_outcome (counts.LowHigh v w) b =
    outcome_by b (outcomes.On (counts.LowHigh v (capped_number w b))) outcomes.Wrong
    (outcomes.Read (record { low = v; high = Some w }))
count_outcome counts.OnlyComma b =
    outcome_by b (outcomes.On (counts.High (capped_number 0 b))) outcomes.Wrong outcomes.Wrong
count_outcome (counts.High w) b = outcome_by b (outcomes.On (counts.High (capped_number w b)))
    outcomes.Wrong (outcomes.Read (record { low = 0; high = Some w }))

-- the same by a whole number, where numbers are no bytes
unfoldable pub number_outcome : Count → ℕ → CountOutcome
number_outcome counts.Opened n = outcomes.On (counts.Low n)
number_outcome (counts.LowComma v) n = outcomes.On (counts.LowHigh v n)
number_outcome counts.OnlyComma n = outcomes.On (counts.High n)
number_outcome _ n = outcomes.Wrong

abbrev pub are_bad_turns : ℕ → Option ℕ → Bool
are_bad_turns low None = nat_lt most_count low
are_bad_turns low (Some high) = nat_lt most_count low || nat_lt most_count high || nat_lt high low

-- a count above the greatest, or one that is below the count before it
unfoldable pub are_bad : Bounds → Bool
are_bad bounds = are_bad_turns bounds.low bounds.high
