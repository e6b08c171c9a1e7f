-- The breaks of what the machine holds, and what one more byte adds to them; what the code notes of
-- breaks and depth.
use Rattle.kex_tokens.specs.Bytes as byte
use Rattle.std.specs.Prelude.{ℕ, suc, ◌+◌, ◌-◌, Bool, true, false, not, ◌&&◌, ◌||◌, List, [], ◌∷◌}
use Rattle.std.specs.Prelude.{◌++◌, length, Option, Some, None, ◌==◌, if◌then◌else◌}
use Rattle.kex_byteset.specs.Sets.{has}
use Rattle.kex_regexp.specs.declared.counts.CountOutcome.{CountOutcome}
use Rattle.kex_regexp.specs.declared.counts.CountOutcome.TheVariants as outcomes
use Rattle.kex_regexp.specs.declared.sets.SetSoFar.{SetSoFar}
use Rattle.kex_regexp.specs.declared.wait.Wait.{Wait}
use Rattle.kex_regexp.specs.declared.wait.Wait.TheVariants as waits
use Rattle.kex_regexp.specs.Breaks.{Break, BadCount, BadSet, OverLimit, break_if, is_bad_set}
use Rattle.kex_regexp.specs.Breaks.{branch_breaks, piece_breaks, item_breaks, comes_before}
use Rattle.kex_regexp.specs.Breaks.{most_depth}
use Rattle.kex_regexp.specs.Grammar.{item, postfix}
use Rattle.kex_regexp.specs.Postfixes.{is_bad_count}
use Rattle.kex_regexp.specs.Outcomes.{are_bad, count_outcome}
use Rattle.kex_regexp.specs.Values.{any_below, membership}
use Rattle.kex_regexp.specs.Machine.{Entry, Mark, Ended, Read, Mode, Ready, After, Turned, InEscape}
use Rattle.kex_regexp.specs.Machine.{InSet, InCount, State, SetStep, SetOn, SetRead, SetWrong}
use Rattle.kex_regexp.specs.Machine.{set_step, CountStep, CountOn, CountRead, CountWrong}
use Rattle.kex_regexp.specs.Machine.{count_step, entries}

-- ---- the least

abbrev pub lesser : Option Break → Break → Option Break
lesser None b = Some b
lesser (Some a) b = if comes_before b a then Some b else Some a

unfoldable pub least_from : Option Break → List Break → Option Break
least_from o [] = o
least_from o (b ∷ bs) = least_from (lesser o b) bs

-- ---- what a state holds

unfoldable pub marks : List Entry → ℕ
marks [] = 0
marks (Mark ∷ es) = suc (marks es)
marks (Ended b ∷ es) = marks es
marks (Read p ∷ es) = marks es

unfoldable pub entry_breaks : Entry → ℕ → ℕ → List Break
entry_breaks Mark at depth = break_if (depth == most_depth) (OverLimit at)
entry_breaks (Ended b) at depth = branch_breaks b at depth
entry_breaks (Read p) at depth = piece_breaks p at depth

unfoldable pub entries_breaks : ℕ → ℕ → List Entry → List Break
entries_breaks base depth [] = []
entries_breaks base depth (e ∷ es) =
    entries_breaks base depth es ++ entry_breaks e (base + length (entries es)) (depth + marks es)

unfoldable pub mode_breaks : Mode → ℕ → ℕ → List Break
mode_breaks Ready at depth = []
mode_breaks (After i) at depth = item_breaks i at depth
mode_breaks (Turned i p) at depth =
    item_breaks i at depth ++ break_if (is_bad_count p) (BadCount (at + length (item i)))
mode_breaks (InEscape e) at depth = []
mode_breaks (InSet negated ms p) at depth = []
mode_breaks (InCount i c) at depth = item_breaks i at depth

unfoldable pub state_breaks : ℕ → ℕ → State → List Break
state_breaks base depth s = entries_breaks base depth s.entries
    ++ mode_breaks s.mode (base + length (entries s.entries)) (depth + marks s.entries)

-- ---- what one byte more adds

unfoldable pub nesting_breaks : ℕ → ℕ → ℕ → List Break
nesting_breaks at depth b =
    if b == byte.open_paren then break_if (depth == most_depth) (OverLimit at) else []

unfoldable pub set_breaks : ℕ → SetStep → List Break
set_breaks at (SetOn negated ms p) = []
set_breaks at (SetRead negated ms) = break_if (is_bad_set negated ms) (BadSet at)
set_breaks at SetWrong = []

unfoldable pub count_breaks : ℕ → CountStep → List Break
count_breaks at (CountOn c) = []
count_breaks at (CountRead p) = break_if (is_bad_count p) (BadCount at)
count_breaks at CountWrong = []

unfoldable pub byte_breaks : ℕ → ℕ → Mode → ℕ → List Break
byte_breaks at depth Ready b = nesting_breaks at depth b
byte_breaks at depth (After i) b = nesting_breaks (at + length (item i)) depth b
byte_breaks at depth (Turned i p) b = nesting_breaks (at + length (item i ++ postfix p)) depth b
byte_breaks at depth (InEscape e) b = []
byte_breaks at depth (InSet negated ms p) b = set_breaks at (set_step negated ms p b)
byte_breaks at depth (InCount i c) b = count_breaks (at + length (item i)) (count_step c b)

-- ---- what the code notes

abbrev pub is_after : Wait → Bool
is_after (waits.After part) = true
is_after _ = false

unfoldable pub is_bad_set_so_far : SetSoFar → Bool → Bool
is_bad_set_so_far set negated =
    set.backward || not (any_below 256 (λ b. membership negated (has set.bytes b)))

unfoldable pub nesting_break : ℕ → ℕ → ℕ → Option Break
nesting_break depth at b =
    if (b == byte.open_paren) && (depth == most_depth) then Some (OverLimit at) else None

unfoldable pub count_break : CountOutcome → ℕ → Option Break
count_break (outcomes.On c) brace = None
count_break (outcomes.Read b) brace = if are_bad b then Some (BadCount brace) else None
count_break outcomes.Wrong brace = None

unfoldable pub byte_break : Wait → Wait → SetSoFar → ℕ → ℕ → ℕ → Option Break
byte_break waits.Ready next set depth at b = nesting_break depth at b
byte_break (waits.After part) next set depth at b = nesting_break depth at b
byte_break (waits.Turned r) next set depth at b = nesting_break depth at b
byte_break (waits.InEscape e from) next set depth at b = None
byte_break (waits.InSet negated empty part from) next set depth at b =
    if is_after next && is_bad_set_so_far set negated then Some (BadSet from) else None
byte_break (waits.InCount part count brace) next set depth at b =
    count_break (count_outcome count b) brace

unfoldable pub depth_after : ℕ → ℕ → ℕ
depth_after depth b = if b == byte.open_paren then depth + 1 else if b == byte.close_paren
    then depth - 1 else depth

unfoldable pub next_depth : Wait → ℕ → ℕ → ℕ
next_depth waits.Ready depth b = depth_after depth b
next_depth (waits.After part) depth b = depth_after depth b
next_depth (waits.Turned r) depth b = depth_after depth b
next_depth _ depth b = depth

unfoldable pub lesser_of : Option Break → Option Break → Option Break
lesser_of least None = least
lesser_of least (Some b) = lesser least b
