-- The reader of bodies as a machine: what has been read so far, and what one more byte makes of it.
use Rattle.kex_tokens.specs.Bytes as byte
use Rattle.std.specs.Prelude.{ℕ, Bool, true, false, List, [], ◌∷◌, ◌++◌, Option, Some, None, ◌==◌}
use Rattle.std.specs.Prelude.{if◌then◌else◌}
pub use Rattle.kex_regexp.specs.declared.escapes.Escaping.{Escaping}
pub use Rattle.kex_regexp.specs.declared.escapes.Escaping.TheVariants.{Begun, HexBegun, HexOne}
use Rattle.kex_regexp.specs.Grammar.{is_plain, is_punctuation, is_digit, is_hex, is_end, Escape}
use Rattle.kex_regexp.specs.Grammar.{Newline, Tab, Return, Hex, Punctuation, End, Itself}
use Rattle.kex_regexp.specs.Grammar.{EscapedEnd, Member, Single, Range, Regex, Last, Or, Branch}
use Rattle.kex_regexp.specs.Grammar.{Empty, Then, Piece, Once, Turns, Item, Plain, Escaped, Dot}
use Rattle.kex_regexp.specs.Grammar.{Set, Group, branch, piece, item, negation, members, end_of}
use Rattle.kex_regexp.specs.Grammar.{signs, postfix}
use Rattle.kex_regexp.specs.Postfixes.{Postfix, ZeroOrMore, OneOrMore, Optional, CountSign, Digits}
use Rattle.kex_regexp.specs.Postfixes.{CommaSign, CloseSign, NoSign, count_by, count_spelling}
pub use Rattle.kex_regexp.specs.Postfixes.{Counting, Opened, Low, LowComma, LowHigh, OnlyComma}
pub use Rattle.kex_regexp.specs.Postfixes.{High, CountStep, CountOn, CountRead, CountWrong}

-- ---- an escape

pub data EscapeStep : Type 0 where
  EscapeOn : Escaping → EscapeStep
  EscapeRead : Escape → EscapeStep
  EscapeWrong : EscapeStep

unfoldable pub escape_step : Escaping → ℕ → EscapeStep
escape_step Begun b =
    if b == byte.letter_n then EscapeRead Newline else if b == byte.letter_t then EscapeRead Tab
    else if b == byte.letter_r then EscapeRead Return
    else if b == byte.letter_x then EscapeOn HexBegun else if is_punctuation b
    then EscapeRead (Punctuation b) else EscapeWrong
escape_step HexBegun b = if is_hex b then EscapeOn (HexOne b) else EscapeWrong
escape_step (HexOne high) b = if is_hex b then EscapeRead (Hex high b) else EscapeWrong

-- ---- a set

pub data SetPhase : Type 0 where
  AtStart : SetPhase
  Between : SetPhase
  HasEnd : End → SetPhase
  HasDash : End → SetPhase
  InFirst : Escaping → SetPhase
  InLast : End → Escaping → SetPhase

pub data SetStep : Type 0 where
  SetOn : (negated : Bool) → (ms : List Member) → SetPhase → SetStep
  SetRead : (negated : Bool) → (ms : List Member) → SetStep
  SetWrong : SetStep

-- where a member may begin: its first byte, or the \ of its escape
unfoldable pub begin_member : Bool → List Member → ℕ → SetStep
begin_member negated ms b =
    if is_end b then SetOn negated ms (HasEnd (Itself b)) else if b == byte.backslash
    then SetOn negated ms (InFirst Begun) else SetWrong

unfoldable pub between_step : Bool → List Member → ℕ → SetStep
between_step negated [] b = begin_member negated [] b
between_step negated (m ∷ ms) b = if b == byte.close_bracket then SetRead negated (m ∷ ms)
    else begin_member negated (m ∷ ms) b

unfoldable pub in_first : Bool → List Member → EscapeStep → SetStep
in_first negated ms (EscapeOn e) = SetOn negated ms (InFirst e)
in_first negated ms (EscapeRead e) = SetOn negated ms (HasEnd (EscapedEnd e))
in_first negated ms EscapeWrong = SetWrong

unfoldable pub in_last : Bool → List Member → End → EscapeStep → SetStep
in_last negated ms first (EscapeOn e) = SetOn negated ms (InLast first e)
in_last negated ms first (EscapeRead e) =
    SetOn negated (ms ++ Range first (EscapedEnd e) ∷ []) Between
in_last negated ms first EscapeWrong = SetWrong

unfoldable pub set_step : Bool → List Member → SetPhase → ℕ → SetStep
set_step negated ms AtStart b = if b == byte.caret then SetOn true ms Between
    else between_step negated ms b
set_step negated ms Between b = between_step negated ms b
set_step negated ms (HasEnd end) b = if b == byte.hyphen then SetOn negated ms (HasDash end)
    else between_step negated (ms ++ Single end ∷ []) b
set_step negated ms (HasDash first) b =
    if is_end b then SetOn negated (ms ++ Range first (Itself b) ∷ []) Between
    else if b == byte.backslash then SetOn negated ms (InLast first Begun) else SetWrong
set_step negated ms (InFirst e) b = in_first negated ms (escape_step e b)
set_step negated ms (InLast first e) b = in_last negated ms first (escape_step e b)

-- the members that a byte ends
unfoldable pub last_members : End → EscapeStep → List Member
last_members first (EscapeOn e) = []
last_members first (EscapeRead e) = Range first (EscapedEnd e) ∷ []
last_members first EscapeWrong = []

unfoldable pub ended_members : SetPhase → ℕ → List Member
ended_members AtStart b = []
ended_members Between b = []
ended_members (HasEnd end) b = if b == byte.hyphen then [] else Single end ∷ []
ended_members (HasDash first) b = if is_end b then Range first (Itself b) ∷ [] else []
ended_members (InFirst e) b = []
ended_members (InLast first e) b = last_members first (escape_step e b)

-- ---- a count in braces

unfoldable pub count_sign : ℕ → CountSign
count_sign b = if is_digit b then Digits (b ∷ []) else if b == byte.comma then CommaSign
    else if b == byte.close_brace then CloseSign else NoSign

unfoldable pub count_step : Counting → ℕ → CountStep
count_step c b = count_by true c (count_sign b)

-- ---- the whole

-- what is open, the newest first: a mark for each parenthesis, and after it the branches that a bar
-- has ended and the pieces of the branch that is being read
pub data Entry : Type 0 where
  Mark : Entry
  Ended : (branch : Branch) → Entry
  Read : (piece : Piece) → Entry

pub data Mode : Type 0 where
  Ready : Mode
  After : (item : Item) → Mode
  Turned : (item : Item) → (postfix : Postfix) → Mode
  InEscape : Escaping → Mode
  InSet : (negated : Bool) → (ms : List Member) → SetPhase → Mode
  InCount : (item : Item) → Counting → Mode

pub record State : Type 0 where
  pub mode : Mode
  pub entries : List Entry

-- the pieces of the newest branch, and what is below them
unfoldable pub take_pieces : List Entry → Branch → Branch × List Entry
take_pieces [] b = (b, [])
take_pieces (Mark ∷ es) b = (b, Mark ∷ es)
take_pieces (Ended a ∷ es) b = (b, Ended a ∷ es)
take_pieces (Read p ∷ es) b = take_pieces es (Then p b)

unfoldable pub take_branches : List Entry → Regex → Regex × List Entry
take_branches [] r = (r, [])
take_branches (Mark ∷ es) r = (r, Mark ∷ es)
take_branches (Ended a ∷ es) r = take_branches es (Or a r)
take_branches (Read p ∷ es) r = (r, Read p ∷ es)

-- the newest regex, and what is below it
unfoldable pub take_regex : List Entry → Regex × List Entry
take_regex es = let b = take_pieces es Empty in take_branches b.1 (Last b.0)

abbrev pub goes : Mode → List Entry → Option State
goes mode entries = Some (record { mode = mode; entries = entries })

-- a parenthesis that closes, where the newest regex is above a mark
unfoldable pub after_group : Regex × List Entry → Option State
after_group (r, []) = None
after_group (r, Mark ∷ es) = goes (After (Group r)) es
after_group (r, Ended a ∷ es) = None
after_group (r, Read p ∷ es) = None

unfoldable pub end_branch : Branch × List Entry → Option State
end_branch (b, es) = goes Ready (Ended b ∷ es)

unfoldable pub begin_piece : List Entry → ℕ → Option State
begin_piece es b =
    if is_plain b then goes (After (Plain b)) es
    else if b == byte.backslash then goes (InEscape Begun) es
    else if b == byte.dot then goes (After Dot) es
    else if b == byte.open_bracket then goes (InSet false [] AtStart) es
    else if b == byte.open_paren then goes Ready (Mark ∷ es)
    else if b == byte.bar then end_branch (take_pieces es Empty)
    else if b == byte.close_paren then after_group (take_regex es)
    else None

unfoldable pub after_item : Item → List Entry → ℕ → Option State
after_item i es b =
    if b == byte.asterisk then goes (Turned i ZeroOrMore) es
    else if b == byte.plus then goes (Turned i OneOrMore) es
    else if b == byte.question then goes (Turned i Optional) es
    else if b == byte.open_brace then goes (InCount i Opened) es
    else begin_piece (Read (Once i) ∷ es) b

-- after a postfix: what makes it lazy, or what follows the piece
unfoldable pub after_turns : Item → Postfix → List Entry → ℕ → Option State
after_turns i p es b = if b == byte.question then goes Ready (Read (Turns i p true) ∷ es)
    else begin_piece (Read (Turns i p false) ∷ es) b

unfoldable pub on_escape : List Entry → EscapeStep → Option State
on_escape es (EscapeOn e) = goes (InEscape e) es
on_escape es (EscapeRead e) = goes (After (Escaped e)) es
on_escape es EscapeWrong = None

unfoldable pub on_set : List Entry → SetStep → Option State
on_set es (SetOn negated ms part) = goes (InSet negated ms part) es
on_set es (SetRead negated ms) = goes (After (Set negated ms)) es
on_set es SetWrong = None

unfoldable pub on_count : Item → List Entry → CountStep → Option State
on_count i es (CountOn c) = goes (InCount i c) es
on_count i es (CountRead p) = goes (Turned i p) es
on_count i es CountWrong = None

unfoldable pub step_in : Mode → List Entry → ℕ → Option State
step_in Ready es b = begin_piece es b
step_in (After i) es b = after_item i es b
step_in (Turned i p) es b = after_turns i p es b
step_in (InEscape e) es b = on_escape es (escape_step e b)
step_in (InSet negated ms part) es b = on_set es (set_step negated ms part b)
step_in (InCount i c) es b = on_count i es (count_step c b)

unfoldable pub step : State → ℕ → Option State
step s b = step_in s.mode s.entries b

-- after one more byte, unless one was refused before
unfoldable pub next : Option State → ℕ → Option State
next None b = None
next (Some s) b = step s b

unfoldable pub state_after : Option State → List ℕ → Option State
state_after o [] = o
state_after o (b ∷ bs) = state_after (next o b) bs

-- nothing is open
unfoldable pub whole_regex : Regex × List Entry → Option Regex
whole_regex (r, []) = Some r
whole_regex (r, Mark ∷ es) = None
whole_regex (r, Ended a ∷ es) = None
whole_regex (r, Read p ∷ es) = None

unfoldable pub finish_in : Mode → List Entry → Option Regex
finish_in Ready es = whole_regex (take_regex es)
finish_in (After i) es = whole_regex (take_regex (Read (Once i) ∷ es))
finish_in (Turned i p) es = whole_regex (take_regex (Read (Turns i p false) ∷ es))
finish_in (InEscape e) es = None
finish_in (InSet negated ms part) es = None
finish_in (InCount i c) es = None

unfoldable pub finish : State → Option Regex
finish s = finish_in s.mode s.entries

unfoldable pub start : Option State
start = Some (record { mode = Ready; entries = [] })

-- ---- what the entries have read

unfoldable pub entry : Entry → List ℕ
entry Mark = byte.open_paren ∷ []
entry (Ended b) = branch b ++ byte.bar ∷ []
entry (Read p) = piece p

unfoldable pub entries : List Entry → List ℕ
entries [] = []
entries (e ∷ es) = entries es ++ entry e

-- ---- what a state has read

unfoldable pub escaping : Escaping → List ℕ
escaping Begun = byte.backslash ∷ []
escaping HexBegun = byte.backslash ∷ byte.letter_x ∷ []
escaping (HexOne high) = byte.backslash ∷ byte.letter_x ∷ high ∷ []

unfoldable pub set_phase : SetPhase → List ℕ
set_phase AtStart = []
set_phase Between = []
set_phase (HasEnd end) = end_of end
set_phase (HasDash end) = end_of end ++ byte.hyphen ∷ []
set_phase (InFirst e) = escaping e
set_phase (InLast first e) = end_of first ++ byte.hyphen ∷ escaping e

unfoldable pub set_so_far : Bool → List Member → SetPhase → List ℕ
set_so_far negated ms p = byte.open_bracket ∷ negation negated ++ (members ms ++ set_phase p)

unfoldable pub counting : Counting → List ℕ
counting c = count_spelling signs c

unfoldable pub mode : Mode → List ℕ
mode Ready = []
mode (After i) = item i
mode (Turned i p) = item i ++ postfix p
mode (InEscape e) = escaping e
mode (InSet negated ms p) = set_so_far negated ms p
mode (InCount i c) = item i ++ byte.open_brace ∷ counting c

unfoldable pub bytes_read : State → List ℕ
bytes_read s = entries s.entries ++ mode s.mode
