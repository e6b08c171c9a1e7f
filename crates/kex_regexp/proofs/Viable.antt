-- What has been read can be completed; what was refused can't.
use Rattle.std.proofs.Common.{◌≡◌, ℕ, Bool, true, false, List, [], ◌∷◌, ◌++◌, Option, Some, None, refl, sym, ap, ◌∙◌, subst, append_assoc}
use Rattle.std.proofs.lemmas.List.{append-nil}
use Rattle.std.proofs.lemmas.Bool.{false≢true}
use Rattle.kex_regexp.specs.Grammar.{is_digit, is_hex, is_end, Escape, Newline, Hex, End, Itself, EscapedEnd, Member, Single, Range, Postfix, Exactly, AtLeast, AtMost, FromTo, Regex, Last, Or, Branch, Empty, Then, Piece, Once, Turns, Item, Escaped, Set, Group, escape, end_of, member, members, negation, postfix, lazy_mark, regex, branch, piece, item, IsEscape, IsEnd, IsMember, AreMembers, begins_with_caret, IsSet, AreDigits, IsNumber, IsPostfix, IsRegex, IsBranch, IsPiece, IsItem}
use Rattle.kex_regexp.specs.Bodies.{SpellsRegex, IsBody, BeginsBody}
use Rattle.kex_regexp.specs.Machine.{entry, entries, escaping, set_phase, set_so_far, counting, mode, bytes_read, Escaping, Begun, HexBegun, HexOne, SetPhase, AtStart, Between, HasEnd, HasDash, InFirst, InLast, Counting, Opened, Low, LowComma, LowHigh, OnlyComma, High, Entry, Mark, Ended, Read, Mode, Ready, After, Turned, InEscape, InSet, InCount, State, take_branches, take_regex, state_after, whole_regex, finish_in, finish, start}
use Rattle.kex_regexp.proofs.Sound.{IsEscaping, Fine, IsNone, IsPart, members-append, Fine-first, Fine-range, IsCounting, IsEntry, AreEntries, IsMode, IsState, Goes, reads_sound, start_sound, finish_sound_in, Finishes, no_caret}
use Rattle.kex_regexp.proofs.Complete.{MayBegin, regex_onto, IsBase, regex_taken, Begins, regex_reads, state_after-append, reads_none}

-- ---- a front of a tree's spelling

pub record Completes (w : List ℕ) : Type 0 where
  pub more : List ℕ
  pub tree : Regex
  pub well : IsRegex tree
  pub same : regex tree ≡ w ++ more

pub record ItemFor (w : List ℕ) : Type 0 where
  pub more : List ℕ
  pub tree : Item
  pub well : IsItem tree
  pub same : item tree ≡ w ++ more

-- a piece in front of a regex
pub prepend : Piece → Regex → Regex
prepend p (Last b) = Last (Then p b)
prepend p (Or b r) = Or (Then p b) r

pub prepend_is : (p : Piece) (r : Regex) → regex (prepend p r) ≡ piece p ++ regex r
unfolding prepend regex branch
prepend_is p (Last b) = refl
prepend_is p (Or b r) = append_assoc (piece p) (branch b) (124 ∷ regex r)

pub prepend_well : (p : Piece) (r : Regex) → IsPiece p → IsRegex r → IsRegex (prepend p r)
unfolding prepend IsRegex IsBranch
prepend_well p (Last b) h k = (h, k)
prepend_well p (Or b r) h k = ((h, k.0), k.1)

pub alone_is : (i : Item) → regex (Last (Then (Once i) Empty)) ≡ item i
unfolding regex branch piece
alone_is i = append-nil (item i)

pub alone_well : (i : Item) → IsItem i → IsRegex (Last (Then (Once i) Empty))
unfolding IsRegex IsBranch IsPiece
alone_well i h = (h, tt)

pub or_in : (es : List Entry) (b : Branch) (r : Regex) → entries es ++ regex (Or b r) ≡ (entries es ++ (branch b ++ 124 ∷ [])) ++ regex r
unfolding regex
or_in es b r = ap (λ (w : List ℕ). entries es ++ w) (sym (append_assoc (branch b) (124 ∷ []) (regex r))) ∙ sym (append_assoc (entries es) (branch b ++ 124 ∷ []) (regex r))

pub or_well : (b : Branch) (r : Regex) → IsBranch b → IsRegex r → IsRegex (Or b r)
unfolding IsRegex
or_well b r h k = (h, k)

pub group_well : (r : Regex) → IsRegex r → IsItem (Group r)
unfolding IsItem IsRegex
group_well r k = k

pub mark_in : (es : List Entry) (r : Regex) (more : List ℕ) → (entries es ++ regex (Last (Then (Once (Group r)) Empty))) ++ more ≡ ((entries es ++ 40 ∷ []) ++ regex r) ++ 41 ∷ more
unfolding item regex
mark_in es r more =
    ap (λ (w : List ℕ). (entries es ++ w) ++ more) (alone_is (Group r))
    ∙ append_assoc (entries es) (40 ∷ regex r ++ 41 ∷ []) more
    ∙ ap (λ (w : List ℕ). entries es ++ 40 ∷ w) (append_assoc (regex r) (41 ∷ []) more)
    ∙ sym (append_assoc (entries es) (40 ∷ regex r) (41 ∷ more))
    ∙ ap (λ (w : List ℕ). w ++ 41 ∷ more) (sym (append_assoc (entries es) (40 ∷ []) (regex r)))

pub item_in : (es : List Entry) (w : List ℕ) (x : ItemFor w) (more : List ℕ) → (entries es ++ regex (Last (Then (Once x.tree) Empty))) ++ more ≡ (entries es ++ w) ++ (x.more ++ more)
item_in es w x more =
    ap (λ (v : List ℕ). (entries es ++ v) ++ more) (alone_is x.tree ∙ x.same)
    ∙ append_assoc (entries es) (w ++ x.more) more
    ∙ ap (λ (v : List ℕ). entries es ++ v) (append_assoc w x.more more)
    ∙ sym (append_assoc (entries es) w (x.more ++ more))

-- entries with a regex on top
pub plug : (es : List Entry) → AreEntries es → (r : Regex) → IsRegex r → Completes (entries es ++ regex r)
unfolding AreEntries IsEntry entries entry
plug [] h r k = record { more = []; tree = r; well = k; same = sym (append-nil (regex r)) }
plug (Read p ∷ es) h r k =
    subst Completes (ap (λ (w : List ℕ). entries es ++ w) (prepend_is p r) ∙ sym (append_assoc (entries es) (piece p) (regex r))) (plug es h.1 (prepend p r) (prepend_well p r h.0 k))
plug (Ended b ∷ es) h r k =
    subst Completes (or_in es b r) (plug es h.1 (Or b r) (or_well b r h.0 k))
plug (Mark ∷ es) h r k =
    let c = plug es h.1 (Last (Then (Once (Group r)) Empty)) (alone_well (Group r) (group_well r k)) in
    record { more = 41 ∷ c.more; tree = c.tree; well = c.well; same = c.same ∙ mark_in es r c.more }

-- and with the beginning of an item on top
pub plug_item : (es : List Entry) → AreEntries es → (w : List ℕ) → ItemFor w → Completes (entries es ++ w)
plug_item es h w x =
    let c = plug es h (Last (Then (Once x.tree) Empty)) (alone_well x.tree x.well) in
    record { more = x.more ++ c.more; tree = c.tree; well = c.well; same = c.same ∙ item_in es w x c.more }

-- ---- each mode

pub set_of_fine : (negated : Bool) (ms : List Member) (m : Member) → Fine negated (ms ++ m ∷ []) → IsSet negated (ms ++ m ∷ [])
unfolding Fine IsSet AreMembers
set_of_fine true [] m f = f
set_of_fine true (n ∷ ms) m f = f
set_of_fine false [] m f = f
set_of_fine false (n ∷ ms) m f = f

-- a set with one more member, and the bracket
pub set_for : (negated : Bool) (ms : List Member) (m : Member) (front more : List ℕ) → member m ≡ front ++ more → Fine negated (ms ++ m ∷ []) → ItemFor (91 ∷ negation negated ++ (members ms ++ front))
unfolding item IsItem members
set_for negated ms m front more e f = record {
  more = more ++ 93 ∷ [];
  tree = Set negated (ms ++ m ∷ []);
  well = set_of_fine negated ms m f;
  same =
      ap (λ (w : List ℕ). 91 ∷ negation negated ++ (w ++ 93 ∷ [])) (members-append ms (m ∷ []) ∙ ap (λ (w : List ℕ). members ms ++ w) (append-nil (member m) ∙ e))
      ∙ ap (λ (w : List ℕ). 91 ∷ negation negated ++ w) (append_assoc (members ms) (front ++ more) (93 ∷ []) ∙ ap (λ (w : List ℕ). members ms ++ w) (append_assoc front more (93 ∷ [])) ∙ sym (append_assoc (members ms) front (more ++ 93 ∷ [])))
      ∙ ap (λ (w : List ℕ). 91 ∷ w) (sym (append_assoc (negation negated) (members ms ++ front) (more ++ 93 ∷ [])));
}

pub record EscapeFor (e : Escaping) : Type 0 where
  pub more : List ℕ
  pub tree : Escape
  pub well : IsEscape tree
  pub same : escape tree ≡ escaping e ++ more

pub escape_for : (e : Escaping) → IsEscaping e → EscapeFor e
unfolding escaping IsEscaping escape IsEscape is_hex
escape_for Begun h = record { more = 110 ∷ []; tree = Newline; well = tt; same = refl }
escape_for HexBegun h = record { more = 48 ∷ 48 ∷ []; tree = Hex 48 48; well = (refl, refl); same = refl }
escape_for (HexOne high) h = record { more = 48 ∷ []; tree = Hex high 48; well = (h, refl); same = refl }

-- a letter as a member
pub letter_well : IsMember (Single (Itself 97))
unfolding IsMember IsEnd is_end
letter_well = refl

pub letter_end : IsEnd (Itself 97)
unfolding IsEnd is_end
letter_end = refl

pub letter_no_caret : begins_with_caret (Single (Itself 97)) ≡ false
unfolding begins_with_caret
letter_no_caret = refl

pub single_is : (end : End) → member (Single end) ≡ end_of end ++ []
unfolding member
single_is end = sym (append-nil (end_of end))

pub letter_is : member (Single (Itself 97)) ≡ [] ++ 97 ∷ []
unfolding member end_of
letter_is = refl

pub range_letter : (first : End) → member (Range first (Itself 97)) ≡ (end_of first ++ 45 ∷ []) ++ 97 ∷ []
unfolding member end_of
range_letter first = sym (append_assoc (end_of first) (45 ∷ []) (97 ∷ []))

pub single_escape : (x : Escape) (front more : List ℕ) → escape x ≡ front ++ more → member (Single (EscapedEnd x)) ≡ front ++ more
unfolding member end_of
single_escape x front more e = e

pub range_escape : (first : End) (x : Escape) (front more : List ℕ) → escape x ≡ front ++ more → member (Range first (EscapedEnd x)) ≡ (end_of first ++ 45 ∷ front) ++ more
unfolding member end_of
range_escape first x front more e = ap (λ (w : List ℕ). end_of first ++ 45 ∷ w) e ∙ sym (append_assoc (end_of first) (45 ∷ front) more)

pub start_for : ItemFor (91 ∷ [])
unfolding item IsItem negation members member end_of IsSet begins_with_caret IsMember IsEnd is_end AreMembers
start_for = record { more = 97 ∷ 93 ∷ []; tree = Set false (Single (Itself 97) ∷ []); well = (refl, refl, tt); same = refl }

pub at_start : (negated : Bool) (ms : List Member) → (negated ≡ false) × IsNone ms → ItemFor (91 ∷ negation negated ++ (members ms ++ []))
unfolding IsNone negation members
at_start true ms h = absurd (false≢true (sym h.0))
at_start false [] h = start_for
at_start false (m ∷ ms) h = absurd h.1

pub single_well : (x : Escape) → IsEscape x → IsMember (Single (EscapedEnd x))
unfolding IsMember IsEnd
single_well x h = h

pub end_well : (x : Escape) → IsEscape x → IsEnd (EscapedEnd x)
unfolding IsEnd
end_well x h = h

pub set_front : (negated : Bool) (ms : List Member) (p : SetPhase) → IsPart negated ms p → ItemFor (set_so_far negated ms p)
unfolding IsPart set_so_far set_phase
set_front negated ms AtStart h = at_start negated ms h
set_front negated ms Between h = set_for negated ms (Single (Itself 97)) [] (97 ∷ []) letter_is (Fine-first negated ms (Single (Itself 97)) h.0 letter_no_caret letter_well)
set_front negated ms (HasEnd end) h = set_for negated ms (Single end) (end_of end) [] (single_is end) h
set_front negated ms (HasDash first) h = set_for negated ms (Range first (Itself 97)) (end_of first ++ 45 ∷ []) (97 ∷ []) (range_letter first) (Fine-range negated ms first (Itself 97) h letter_end)
set_front negated ms (InFirst e) h =
    let x = escape_for e h.1 in
    set_for negated ms (Single (EscapedEnd x.tree)) (escaping e) x.more (single_escape x.tree (escaping e) x.more x.same) (Fine-first negated ms (Single (EscapedEnd x.tree)) h.0 (no_caret x.tree) (single_well x.tree x.well))
set_front negated ms (InLast first e) h =
    let x = escape_for e h.1 in
    set_for negated ms (Range first (EscapedEnd x.tree)) (end_of first ++ 45 ∷ escaping e) x.more (range_escape first x.tree (escaping e) x.more x.same) (Fine-range negated ms first (EscapedEnd x.tree) h.0 (end_well x.tree x.well))

pub record PostfixFor (w : List ℕ) : Type 0 where
  pub more : List ℕ
  pub tree : Postfix
  pub well : IsPostfix tree
  pub same : postfix tree ≡ w ++ more

pub one_number : IsNumber (49 ∷ [])
unfolding IsNumber is_digit AreDigits
one_number = (refl, tt)

pub count_front : (c : Counting) → IsCounting c → PostfixFor (123 ∷ counting c)
unfolding counting IsCounting postfix IsPostfix
count_front Opened h = record { more = 49 ∷ 125 ∷ []; tree = Exactly (49 ∷ []); well = one_number; same = refl }
count_front (Low n) h = record { more = 125 ∷ []; tree = Exactly n; well = h; same = refl }
count_front (LowComma n) h = record { more = 125 ∷ []; tree = AtLeast n; well = h; same = ap (λ (w : List ℕ). 123 ∷ w) (sym (append_assoc n (44 ∷ []) (125 ∷ []))) }
count_front (LowHigh n m) h = record { more = 125 ∷ []; tree = FromTo n m; well = h; same = ap (λ (w : List ℕ). 123 ∷ w) (sym (append_assoc n (44 ∷ m) (125 ∷ []))) }
count_front OnlyComma h = record { more = 49 ∷ 125 ∷ []; tree = AtMost (49 ∷ []); well = one_number; same = refl }
count_front (High m) h = record { more = 125 ∷ []; tree = AtMost m; well = h; same = refl }

pub turns_well : (i : Item) (p : Postfix) → IsItem i → IsPostfix p → IsRegex (Last (Then (Turns i p false) Empty))
unfolding IsRegex IsBranch IsPiece
turns_well i p h k = ((h, k), tt)

pub turns_is : (i : Item) (p : Postfix) → regex (Last (Then (Turns i p false) Empty)) ≡ item i ++ postfix p
unfolding regex branch piece lazy_mark
turns_is i p = append-nil (item i ++ (postfix p ++ [])) ∙ ap (λ (w : List ℕ). item i ++ w) (append-nil (postfix p))

pub regroup4 : (a b c d e : List ℕ) → (a ++ (b ++ (c ++ d))) ++ e ≡ (a ++ (b ++ c)) ++ (d ++ e)
regroup4 a b c d e = simp append_assoc

pub piece_front : (es : List Entry) → AreEntries es → (i : Item) → IsItem i → (w : List ℕ) → PostfixFor w → Completes (entries es ++ (item i ++ w))
piece_front es h i k w x =
    let c = plug es h (Last (Then (Turns i x.tree false) Empty)) (turns_well i x.tree k x.well) in
    record { more = x.more ++ c.more; tree = c.tree; well = c.well; same = c.same ∙ ap (λ (v : List ℕ). (entries es ++ v) ++ c.more) (turns_is i x.tree ∙ ap (λ (v : List ℕ). item i ++ v) x.same) ∙ regroup4 (entries es) (item i) w x.more c.more }

pub postfix_front : (p : Postfix) → IsPostfix p → PostfixFor (postfix p)
postfix_front p h = record { more = []; tree = p; well = h; same = sym (append-nil (postfix p)) }

pub item_front : (i : Item) → IsItem i → ItemFor (item i)
item_front i h = record { more = []; tree = i; well = h; same = sym (append-nil (item i)) }

pub escape_front : (e : Escaping) → IsEscaping e → ItemFor (escaping e)
unfolding item IsItem
escape_front e h = let x = escape_for e h in record { more = x.more; tree = Escaped x.tree; well = x.well; same = x.same }

pub empty_well : IsRegex (Last Empty)
unfolding IsRegex IsBranch
empty_well = tt

pub empty_is : regex (Last Empty) ≡ []
unfolding regex branch
empty_is = refl

pub mode_completes : (m : Mode) (es : List Entry) → AreEntries es → IsMode m → Completes (entries es ++ mode m)
unfolding mode IsMode
mode_completes Ready es h k = subst (λ (w : List ℕ). Completes (entries es ++ w)) empty_is (plug es h (Last Empty) empty_well)
mode_completes (After i) es h k = plug_item es h (item i) (item_front i k)
mode_completes (Turned i p) es h k = piece_front es h i k.0 (postfix p) (postfix_front p k.1)
mode_completes (InEscape e) es h k = plug_item es h (escaping e) (escape_front e k)
mode_completes (InSet negated ms p) es h k = plug_item es h (set_so_far negated ms p) (set_front negated ms p k)
mode_completes (InCount i c) es h k = piece_front es h i k.0 (123 ∷ counting c) (count_front c k.1)

pub state_completes : (s : State) → IsState s → Completes (bytes_read s)
unfolding bytes_read
state_completes s h = mode_completes s.mode s.entries h.entries h.mode

-- ---- the laws

pub begins_from : (w : List ℕ) → Completes w → BeginsBody w
begins_from w c = (c.more, (c.tree, record { well = c.well; same = c.same }))

-- what was read begins a body
pub read_begins : (w : List ℕ) (s : State) → state_after start w ≡ Some s → BeginsBody w
unfolding Goes
read_begins w s e =
    let g : Goes w (Some s) = subst (λ (o : Option State). Goes w o) e (reads_sound [] start w start_sound) in
    begins_from w (subst Completes g.1 (state_completes s g.0))

-- what was read to its end is the tree
pub read_spells : (w : List ℕ) (s : State) (r : Regex) → state_after start w ≡ Some s → finish s ≡ Some r → SpellsRegex r w
unfolding Goes Finishes finish bytes_read
read_spells w s r e f =
    let g : Goes w (Some s) = subst (λ (o : Option State). Goes w o) e (reads_sound [] start w start_sound) in
    let k : Finishes (bytes_read s) (Some r) = subst (λ (o : Option Regex). Finishes (bytes_read s) o) f (finish_sound_in s.mode s.entries g.0.entries g.0.mode) in
    record { well = k.0; same = k.1 ∙ g.1 }

pub ends : (m : Mode) (es : List Entry) (r : Regex) → MayBegin m es (regex_onto r []) → finish (record { mode = m; entries = es }) ≡ Some r
unfolding MayBegin finish finish_in IsBase take_branches whole_regex
ends Ready es r q = ap (λ (x : List Entry). whole_regex (take_regex x)) q ∙ ap whole_regex (regex_taken r [] tt)
ends (After i) es r q = ap (λ (x : List Entry). whole_regex (take_regex x)) q ∙ ap whole_regex (regex_taken r [] tt)
ends (Turned i p) es r q = ap (λ (x : List Entry). whole_regex (take_regex x)) q ∙ ap whole_regex (regex_taken r [] tt)
ends (InEscape e) es r q = absurd q
ends (InSet negated ms p) es r q = absurd q
ends (InCount i c) es r q = absurd q

-- the state after a tree's bytes
pub spelled_reads : (r : Regex) → IsRegex r → (s : State) × (state_after start (regex r) ≡ Some s) × (finish s ≡ Some r)
unfolding start MayBegin IsBase Begins
spelled_reads r h =
    let a = regex_reads r h Ready [] [] refl tt in
    (record { mode = a.0; entries = a.1 }, a.3, ends a.0 a.1 r a.2)

-- so a body is read, as the tree that it is
pub body_reads : (w : List ℕ) (r : Regex) → SpellsRegex r w → (s : State) × (state_after start w ≡ Some s) × (finish s ≡ Some r)
body_reads w r h = subst (λ (v : List ℕ). (s : State) × (state_after start v ≡ Some s) × (finish s ≡ Some r)) h.same (spelled_reads r h.well)

-- and what isn't read begins none
pub unread_begins : (w : List ℕ) → state_after start w ≡ None → BeginsBody w → ⊥
unread_begins w e b =
    let a = body_reads (w ++ b.0) b.1.0 b.1.1 in
    let n : state_after start (w ++ b.0) ≡ None = state_after-append start w b.0 ∙ ap (λ (o : Option State). state_after o b.0) e ∙ reads_none b.0 in
    cc

pub unfinished : (w : List ℕ) (s : State) → state_after start w ≡ Some s → finish s ≡ None → IsBody w → ⊥
unfinished w s e f b =
    let a = body_reads w b.0 b.1 in
    let same : s ≡ a.0 = cc in
    let n : finish a.0 ≡ None = ap finish (sym same) ∙ f in
    cc

-- a body is one tree
pub one_tree : (w : List ℕ) (r q : Regex) → SpellsRegex r w → SpellsRegex q w → r ≡ q
one_tree w r q h k =
    let a = body_reads w r h in
    let b = body_reads w q k in
    let same : a.0 ≡ b.0 = cc in
    let n : finish b.0 ≡ Some r = ap finish (sym same) ∙ a.2 in
    cc
