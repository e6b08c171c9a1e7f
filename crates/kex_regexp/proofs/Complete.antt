-- Whatever the grammar spells the machine takes, and then holds the tree that was spelled.
use Rattle.std.proofs.Common.{◌≡◌, ℕ, Bool, true, false, cond, List, [], ◌∷◌, ◌++◌, Option, None, refl, sym, ap, ◌∙◌, subst, append_assoc}
use Rattle.std.specs.Prelude.{◌==◌}
use Rattle.std.proofs.lemmas.Bool.{ne_eqb, false≢true}
use Rattle.std.proofs.lemmas.List.{append-nil}
use Rattle.kex_regexp.specs.Grammar.{is_plain, is_among, is_punctuation, is_digit, is_hex, is_end, Escape, Newline, Tab, Return, Hex, Punctuation, End, Itself, EscapedEnd, Member, Single, Range, Postfix, ZeroOrMore, OneOrMore, Optional, Exactly, AtLeast, AtMost, FromTo, Regex, Last, Or, Branch, Empty, Then, Piece, Once, Turns, Item, Plain, Escaped, Dot, Set, Group, escape, end_of, member, members, negation, postfix, lazy_mark, regex, branch, piece, item, IsEscape, IsEnd, IsMember, AreMembers, begins_with_caret, IsSet, AreDigits, IsNumber, IsPostfix, IsRegex, IsBranch, IsPiece, IsItem}
use Rattle.kex_regexp.specs.Postfixes.{Digits, count_by}
use Rattle.kex_regexp.specs.Machine.{Escaping, Begun, HexBegun, HexOne, EscapeStep, EscapeOn, EscapeRead, escape_step, SetPhase, AtStart, Between, HasEnd, HasDash, InFirst, InLast, SetStep, SetOn, SetRead, begin_member, between_step, in_first, in_last, set_step, Counting, Opened, Low, LowComma, LowHigh, OnlyComma, High, CountOn, CountRead, count_sign, count_step, Entry, Mark, Ended, Read, Mode, Ready, After, Turned, InEscape, InSet, InCount, State, take_pieces, take_branches, take_regex, goes, after_group, end_branch, begin_piece, after_item, after_turns, on_escape, on_set, on_count, step_in, step, next, state_after}

-- ---- tests

-- a test that b meets and n doesn't tells them apart
pub apart : (f : ℕ → Bool) (b n : ℕ) → f b ≡ true → f n ≡ false → (b == n) ≡ false
apart f b n h k = ne_eqb b n (λ e. false≢true (sym k ∙ ap f (sym e) ∙ h))

pub cond_yes : {A : Type 0} (b : Bool) (x y : A) → b ≡ true → cond b x y ≡ x
cond_yes true x y e = refl
cond_yes false x y e = absurd (false≢true e)

pub cond_no : {A : Type 0} (b : Bool) (x y : A) → b ≡ false → cond b x y ≡ y
cond_no true x y e = absurd (false≢true (sym e))
cond_no false x y e = refl

-- ---- runs

pub state_after-append : (o : Option State) (u v : List ℕ) → state_after o (u ++ v) ≡ state_after (state_after o u) v
unfolding state_after
state_after-append o [] v = refl
state_after-append o (b ∷ u) v = state_after-append (next o b) u v

pub then_reads : (o p q : Option State) (u v : List ℕ) → state_after o u ≡ p → state_after p v ≡ q → state_after o (u ++ v) ≡ q
then_reads o p q u v e f = state_after-append o u v ∙ ap (λ (x : Option State). state_after x v) e ∙ f

pub one_byte : (o p : Option State) (b : ℕ) → next o b ≡ p → state_after o (b ∷ []) ≡ p
unfolding state_after
one_byte o p b e = e

pub byte_then : (o p q : Option State) (b : ℕ) (v : List ℕ) → next o b ≡ p → state_after p v ≡ q → state_after o (b ∷ v) ≡ q
unfolding state_after
byte_then o p q b v e f = ap (λ (x : Option State). state_after x v) e ∙ f

pub reads_none : (w : List ℕ) → state_after None w ≡ None
unfolding state_after next
reads_none [] = refl
reads_none (b ∷ w) = reads_none w

-- ---- escapes, wherever they are

pub escape_tail : Escape → List ℕ
escape_tail Newline = 110 ∷ []
escape_tail Tab = 116 ∷ []
escape_tail Return = 114 ∷ []
escape_tail (Hex high low) = 120 ∷ high ∷ low ∷ []
escape_tail (Punctuation byte) = byte ∷ []

pub escape_is : (x : Escape) → escape x ≡ 92 ∷ escape_tail x
unfolding escape escape_tail
escape_is Newline = refl
escape_is Tab = refl
escape_is Return = refl
escape_is (Hex high low) = refl
escape_is (Punctuation byte) = refl

pub punctuation_read : (b : ℕ) → is_punctuation b ≡ true → escape_step Begun b ≡ EscapeRead (Punctuation b)
unfolding escape_step is_punctuation
punctuation_read b h =
    cond_no (b == 110) _ _ (apart is_punctuation b 110 h refl) ∙ cond_no (b == 116) _ _ (apart is_punctuation b 116 h refl)
    ∙ cond_no (b == 114) _ _ (apart is_punctuation b 114 h refl) ∙ cond_no (b == 120) _ _ (apart is_punctuation b 120 h refl)
    ∙ cond_yes (is_punctuation b) _ _ h

pub escape_reads : (on : EscapeStep → Option State) → ((e : Escaping) (b : ℕ) → next (on (EscapeOn e)) b ≡ on (escape_step e b)) → (x : Escape) → IsEscape x → state_after (on (EscapeOn Begun)) (escape_tail x) ≡ on (EscapeRead x)
unfolding escape_tail IsEscape escape_step
escape_reads on steps Newline h = one_byte _ _ 110 (steps Begun 110)
escape_reads on steps Tab h = one_byte _ _ 116 (steps Begun 116)
escape_reads on steps Return h = one_byte _ _ 114 (steps Begun 114)
escape_reads on steps (Hex high low) h =
    byte_then _ (on (EscapeOn HexBegun)) _ 120 (high ∷ low ∷ []) (steps Begun 120)
    (byte_then _ (on (EscapeOn (HexOne high))) _ high (low ∷ []) (steps HexBegun high ∙ ap on (cond_yes (is_hex high) _ _ h.0))
    (one_byte _ _ low (steps (HexOne high) low ∙ ap on (cond_yes (is_hex low) _ _ h.1))))
escape_reads on steps (Punctuation b) h = one_byte _ _ b (steps Begun b ∙ ap on (punctuation_read b h))

-- ---- sets

-- the members so far, where another may begin
pub SetReady : List Member → SetPhase → List Member → Type 0
SetReady ms AtStart ns = ⊥
SetReady ms Between ns = ms ≡ ns
SetReady ms (HasEnd end) ns = ms ++ Single end ∷ [] ≡ ns
SetReady ms (HasDash end) ns = ⊥
SetReady ms (InFirst e) ns = ⊥
SetReady ms (InLast first e) ns = ⊥

pub set_begins : (negated : Bool) (ms : List Member) (p : SetPhase) (ns : List Member) (b : ℕ) → SetReady ms p ns → (b == 45) ≡ false → set_step negated ms p b ≡ between_step negated ns b
unfolding SetReady set_step
set_begins negated ms AtStart ns b r n = absurd r
set_begins negated ms Between ns b r n = ap (λ (x : List Member). between_step negated x b) r
set_begins negated ms (HasEnd end) ns b r n = cond_no (b == 45) _ _ n ∙ ap (λ (x : List Member). between_step negated x b) r
set_begins negated ms (HasDash end) ns b r n = absurd r
set_begins negated ms (InFirst e) ns b r n = absurd r
set_begins negated ms (InLast first e) ns b r n = absurd r

pub between_begins : (negated : Bool) (ms : List Member) (b : ℕ) → (b == 93) ≡ false → between_step negated ms b ≡ begin_member negated ms b
unfolding between_step
between_begins negated [] b n = refl
between_begins negated (m ∷ ms) b n = cond_no (b == 93) _ _ n

unfoldable pub in_set : List Entry → Bool → List Member → SetPhase → Option State
in_set es negated ms p = goes (InSet negated ms p) es

pub set_next : (es : List Entry) (negated : Bool) (ms : List Member) (p : SetPhase) (b : ℕ) (t : SetStep) → set_step negated ms p b ≡ t → next (in_set es negated ms p) b ≡ on_set es t
unfolding in_set next step step_in
set_next es negated ms p b t e = ap (on_set es) e

pub on_set_on : (es : List Entry) (negated : Bool) (ms : List Member) (p : SetPhase) → on_set es (SetOn negated ms p) ≡ in_set es negated ms p
unfolding on_set in_set
on_set_on es negated ms p = refl

pub set_moves : (es : List Entry) (negated : Bool) (ms : List Member) (p : SetPhase) (b : ℕ) (ns : List Member) (q : SetPhase) → set_step negated ms p b ≡ SetOn negated ns q → next (in_set es negated ms p) b ≡ in_set es negated ns q
set_moves es negated ms p b ns q e = set_next es negated ms p b (SetOn negated ns q) e ∙ on_set_on es negated ns q

pub begin_plain : (negated : Bool) (ms : List Member) (b : ℕ) → is_end b ≡ true → begin_member negated ms b ≡ SetOn negated ms (HasEnd (Itself b))
unfolding begin_member
begin_plain negated ms b h = cond_yes (is_end b) _ _ h

pub begin_escape : (negated : Bool) (ms : List Member) → begin_member negated ms 92 ≡ SetOn negated ms (InFirst Begun)
unfolding begin_member is_end
begin_escape negated ms = refl

pub not_dash : (b : ℕ) → is_end b ≡ true → (b == 45) ≡ false
unfolding is_end
not_dash b h = apart is_end b 45 h refl

pub not_bracket : (b : ℕ) → is_end b ≡ true → (b == 93) ≡ false
unfolding is_end
not_bracket b h = apart is_end b 93 h refl

pub first_escape : (es : List Entry) (negated : Bool) (ms : List Member) (x : Escape) → IsEscape x → state_after (in_set es negated ms (InFirst Begun)) (escape_tail x) ≡ in_set es negated ms (HasEnd (EscapedEnd x))
unfolding in_set in_first on_set next step step_in set_step
first_escape es negated ms x h = escape_reads (λ t. on_set es (in_first negated ms t)) (λ e b. refl) x h

pub last_escape : (es : List Entry) (negated : Bool) (ms : List Member) (first : End) (x : Escape) → IsEscape x → state_after (in_set es negated ms (InLast first Begun)) (escape_tail x) ≡ in_set es negated (ms ++ Range first (EscapedEnd x) ∷ []) Between
unfolding in_set in_last on_set next step step_in set_step
last_escape es negated ms first x h = escape_reads (λ t. on_set es (in_last negated ms first t)) (λ e b. refl) x h

pub last_plain : (negated : Bool) (ms : List Member) (first : End) (b : ℕ) → is_end b ≡ true → set_step negated ms (HasDash first) b ≡ SetOn negated (ms ++ Range first (Itself b) ∷ []) Between
unfolding set_step
last_plain negated ms first b h = cond_yes (is_end b) _ _ h

pub last_escape_begins : (negated : Bool) (ms : List Member) (first : End) → set_step negated ms (HasDash first) 92 ≡ SetOn negated ms (InLast first Begun)
unfolding set_step is_end
last_escape_begins negated ms first = refl

pub dash_step : (negated : Bool) (ms : List Member) (first : End) → set_step negated ms (HasEnd first) 45 ≡ SetOn negated ms (HasDash first)
unfolding set_step
dash_step negated ms first = refl

pub set_ends : (negated : Bool) (m : Member) (ms : List Member) → between_step negated (m ∷ ms) 93 ≡ SetRead negated (m ∷ ms)
unfolding between_step
set_ends negated m ms = refl

pub on_set_read : (es : List Entry) (negated : Bool) (ms : List Member) → on_set es (SetRead negated ms) ≡ goes (After (Set negated ms)) es
unfolding on_set
on_set_read es negated ms = refl

pub ready_none : SetReady [] Between []
unfolding SetReady
ready_none = refl

pub start_as_between : (es : List Entry) (b : ℕ) → (b == 94) ≡ false → next (in_set es false [] AtStart) b ≡ next (in_set es false [] Between) b
unfolding in_set next step step_in set_step
start_as_between es b n = ap (on_set es) (cond_no (b == 94) _ _ n)

pub caret_step : (es : List Entry) → next (in_set es false [] AtStart) 94 ≡ in_set es true [] Between
unfolding in_set next step step_in set_step on_set
caret_step es = refl

pub regroup : (m : Member) (ms : List Member) → members (m ∷ ms) ++ 93 ∷ [] ≡ member m ++ (members ms ++ 93 ∷ [])
unfolding members
regroup m ms = append_assoc (member m) (members ms) (93 ∷ [])

-- the first end of a member
pub first_reads : (es : List Entry) (negated : Bool) (ms : List Member) (p : SetPhase) (ns : List Member) (end : End) → SetReady ms p ns → IsEnd end → state_after (in_set es negated ms p) (end_of end) ≡ in_set es negated ns (HasEnd end)
unfolding end_of IsEnd
first_reads es negated ms p ns (Itself b) r h =
    one_byte _ _ b (set_moves es negated ms p b ns (HasEnd (Itself b))
    (set_begins negated ms p ns b r (not_dash b h) ∙ between_begins negated ns b (not_bracket b h) ∙ begin_plain negated ns b h))
first_reads es negated ms p ns (EscapedEnd x) r h =
    ap (state_after (in_set es negated ms p)) (escape_is x)
    ∙ byte_then _ (in_set es negated ns (InFirst Begun)) _ 92 (escape_tail x)
    (set_moves es negated ms p 92 ns (InFirst Begun) (set_begins negated ms p ns 92 r refl ∙ between_begins negated ns 92 refl ∙ begin_escape negated ns))
    (first_escape es negated ns x h)

pub last_reads : (es : List Entry) (negated : Bool) (ms : List Member) (first end : End) → IsEnd end → state_after (in_set es negated ms (HasDash first)) (end_of end) ≡ in_set es negated (ms ++ Range first end ∷ []) Between
unfolding end_of IsEnd
last_reads es negated ms first (Itself b) h = one_byte _ _ b (set_moves es negated ms (HasDash first) b (ms ++ Range first (Itself b) ∷ []) Between (last_plain negated ms first b h))
last_reads es negated ms first (EscapedEnd x) h =
    ap (state_after (in_set es negated ms (HasDash first))) (escape_is x)
    ∙ byte_then _ (in_set es negated ms (InLast first Begun)) _ 92 (escape_tail x)
    (set_moves es negated ms (HasDash first) 92 ms (InLast first Begun) (last_escape_begins negated ms first))
    (last_escape es negated ms first x h)

pub member_reads : (es : List Entry) (negated : Bool) (ms : List Member) (p : SetPhase) (ns : List Member) (m : Member) → SetReady ms p ns → IsMember m → (q : SetPhase) × (os : List Member) × SetReady os q (ns ++ m ∷ []) × (state_after (in_set es negated ms p) (member m) ≡ in_set es negated os q)
unfolding member IsMember SetReady
member_reads es negated ms p ns (Single end) r h = (HasEnd end, ns, refl, first_reads es negated ms p ns end r h)
member_reads es negated ms p ns (Range first last) r h = (
  Between,
  ns ++ Range first last ∷ [],
  refl,
  then_reads _ (in_set es negated ns (HasEnd first)) _ (end_of first) (45 ∷ end_of last) (first_reads es negated ms p ns first r h.0)
      (byte_then _ (in_set es negated ns (HasDash first)) _ 45 (end_of last) (set_moves es negated ns (HasEnd first) 45 ns (HasDash first) (dash_step negated ns first))
      (last_reads es negated ns first last h.1)),
)

pub members_read : (es : List Entry) (negated : Bool) (ms : List Member) (p : SetPhase) (ns os : List Member) → SetReady ms p ns → AreMembers os → (q : SetPhase) × (ks : List Member) × SetReady ks q (ns ++ os) × (state_after (in_set es negated ms p) (members os) ≡ in_set es negated ks q)
unfolding members AreMembers state_after
members_read es negated ms p ns [] r h = (p, ms, subst (λ (x : List Member). SetReady ms p x) (sym (append-nil ns)) r, refl)
members_read es negated ms p ns (m ∷ os) r h =
    let a = member_reads es negated ms p ns m r h.0 in
    let b = members_read es negated a.1 a.0 (ns ++ m ∷ []) os a.2 h.1 in
    (b.0, b.1, subst (λ (x : List Member). SetReady b.1 b.0 x) (append_assoc ns (m ∷ []) os) b.2, then_reads _ (in_set es negated a.1 a.0) _ (member m) (members os) a.3 b.3)

-- the bracket that closes
pub set_closes : (es : List Entry) (negated : Bool) (ms : List Member) (p : SetPhase) (m : Member) (ns : List Member) → SetReady ms p (m ∷ ns) → state_after (in_set es negated ms p) (93 ∷ []) ≡ goes (After (Set negated (m ∷ ns))) es
set_closes es negated ms p m ns r =
    one_byte _ _ 93 (set_next es negated ms p 93 (SetRead negated (m ∷ ns)) (set_begins negated ms p (m ∷ ns) 93 r refl ∙ set_ends negated m ns) ∙ on_set_read es negated (m ∷ ns))

-- the members from the first on, and the bracket
pub set_rest : (es : List Entry) (negated : Bool) (m : Member) (ms : List Member) → AreMembers (m ∷ ms) → state_after (in_set es negated [] Between) (members (m ∷ ms) ++ 93 ∷ []) ≡ goes (After (Set negated (m ∷ ms))) es
set_rest es negated m ms h =
    let a = members_read es negated [] Between [] (m ∷ ms) (ready_none) h in
    then_reads _ (in_set es negated a.1 a.0) _ (members (m ∷ ms)) (93 ∷ []) a.3 (set_closes es negated a.1 a.0 m ms a.2)

-- without a caret
pub first_byte : Member → ℕ
first_byte (Single (Itself b)) = b
first_byte (Range (Itself b) last) = b
first_byte (Single (EscapedEnd x)) = 92
first_byte (Range (EscapedEnd x) last) = 92

pub member_tail : Member → List ℕ
member_tail (Single (Itself b)) = []
member_tail (Range (Itself b) last) = 45 ∷ end_of last
member_tail (Single (EscapedEnd x)) = escape_tail x
member_tail (Range (EscapedEnd x) last) = escape_tail x ++ 45 ∷ end_of last

pub member_is : (m : Member) → member m ≡ first_byte m ∷ member_tail m
unfolding member end_of first_byte member_tail
member_is (Single (Itself b)) = refl
member_is (Range (Itself b) last) = refl
member_is (Single (EscapedEnd x)) = escape_is x
member_is (Range (EscapedEnd x) last) = ap (λ (w : List ℕ). w ++ 45 ∷ end_of last) (escape_is x)

pub no_caret_first : (m : Member) → begins_with_caret m ≡ false → (first_byte m == 94) ≡ false
unfolding begins_with_caret first_byte
no_caret_first (Single (Itself b)) h = h
no_caret_first (Range (Itself b) last) h = h
no_caret_first (Single (EscapedEnd x)) h = refl
no_caret_first (Range (EscapedEnd x) last) h = refl

-- from the bracket on, without a caret, a first member is read as between members
pub from_start : (es : List Entry) (m : Member) (w : List ℕ) → begins_with_caret m ≡ false → state_after (in_set es false [] AtStart) (member m ++ w) ≡ state_after (in_set es false [] Between) (member m ++ w)
unfolding state_after
from_start es m w h =
    ap (λ (u : List ℕ). state_after (in_set es false [] AtStart) (u ++ w)) (member_is m)
    ∙ ap (λ (o : Option State). state_after o (member_tail m ++ w)) (start_as_between es (first_byte m) (no_caret_first m h))
    ∙ ap (λ (u : List ℕ). state_after (in_set es false [] Between) (u ++ w)) (sym (member_is m))

pub set_reads : (es : List Entry) (negated : Bool) (ms : List Member) → IsSet negated ms → state_after (in_set es false [] AtStart) (negation negated ++ (members ms ++ 93 ∷ [])) ≡ goes (After (Set negated ms)) es
unfolding IsSet negation AreMembers
set_reads es negated [] h = absurd h
set_reads es true (m ∷ ms) h = byte_then _ (in_set es true [] Between) _ 94 (members (m ∷ ms) ++ 93 ∷ []) (caret_step es) (set_rest es true m ms h)
set_reads es false (m ∷ ms) h =
    ap (state_after (in_set es false [] AtStart)) (regroup m ms) ∙ from_start es m (members ms ++ 93 ∷ []) h.0 ∙ ap (state_after (in_set es false [] Between)) (sym (regroup m ms)) ∙ set_rest es false m ms (h.1, h.2)

-- ---- counts

pub in_count : Item → List Entry → Counting → Option State
in_count i es c = goes (InCount i c) es

pub count_moves : (i : Item) (es : List Entry) (c d : Counting) (b : ℕ) → count_step c b ≡ CountOn d → next (in_count i es c) b ≡ in_count i es d
unfolding in_count next step step_in on_count
count_moves i es c d b e = ap (on_count i es) e

pub count_ends : (i : Item) (es : List Entry) (c : Counting) (b : ℕ) (p : Postfix) → count_step c b ≡ CountRead p → state_after (in_count i es c) (b ∷ []) ≡ goes (Turned i p) es
unfolding in_count next step step_in on_count
count_ends i es c b p e = one_byte _ _ b (ap (on_count i es) e)

-- digits go on
pub digits_read : (i : Item) (es : List Entry) (mk : List ℕ → Counting) → ((n : List ℕ) (b : ℕ) → is_digit b ≡ true → count_step (mk n) b ≡ CountOn (mk (n ++ b ∷ []))) → (n ds : List ℕ) → AreDigits ds → state_after (in_count i es (mk n)) ds ≡ in_count i es (mk (n ++ ds))
unfolding AreDigits state_after
digits_read i es mk st n [] h = ap (λ (x : List ℕ). in_count i es (mk x)) (sym (append-nil n))
digits_read i es mk st n (d ∷ ds) h =
    byte_then _ (in_count i es (mk (n ++ d ∷ []))) _ d ds (count_moves i es (mk n) (mk (n ++ d ∷ [])) d (st n d h.0))
    (digits_read i es mk st (n ++ d ∷ []) ds h.1 ∙ ap (λ (x : List ℕ). in_count i es (mk x)) (append_assoc n (d ∷ []) ds))

-- a number from its first digit on
pub number_reads : (i : Item) (es : List Entry) (c : Counting) (mk : List ℕ → Counting) → ((b : ℕ) → is_digit b ≡ true → count_step c b ≡ CountOn (mk (b ∷ []))) → ((n : List ℕ) (b : ℕ) → is_digit b ≡ true → count_step (mk n) b ≡ CountOn (mk (n ++ b ∷ []))) → (ds : List ℕ) → IsNumber ds → state_after (in_count i es c) ds ≡ in_count i es (mk ds)
unfolding IsNumber
number_reads i es c mk f st [] h = absurd h
number_reads i es c mk f st (d ∷ ds) h = byte_then _ (in_count i es (mk (d ∷ []))) _ d ds (count_moves i es c (mk (d ∷ [])) d (f d h.0)) (digits_read i es mk st (d ∷ []) ds h.1)

-- a digit is one to a count
pub digit_sign : (b : ℕ) → is_digit b ≡ true → count_sign b ≡ Digits (b ∷ [])
unfolding count_sign
digit_sign b h = cond_yes (is_digit b) _ _ h

pub low_first : (b : ℕ) → is_digit b ≡ true → count_step Opened b ≡ CountOn (Low (b ∷ []))
unfolding count_step
low_first b h = ap (count_by true Opened) (digit_sign b h)

pub low_more : (n : List ℕ) (b : ℕ) → is_digit b ≡ true → count_step (Low n) b ≡ CountOn (Low (n ++ b ∷ []))
unfolding count_step
low_more n b h = ap (count_by true (Low n)) (digit_sign b h)

pub high_first : (b : ℕ) → is_digit b ≡ true → count_step OnlyComma b ≡ CountOn (High (b ∷ []))
unfolding count_step
high_first b h = ap (count_by true OnlyComma) (digit_sign b h)

pub high_more : (n : List ℕ) (b : ℕ) → is_digit b ≡ true → count_step (High n) b ≡ CountOn (High (n ++ b ∷ []))
unfolding count_step
high_more n b h = ap (count_by true (High n)) (digit_sign b h)

pub within_first : (n : List ℕ) (b : ℕ) → is_digit b ≡ true → count_step (LowComma n) b ≡ CountOn (LowHigh n (b ∷ []))
unfolding count_step
within_first n b h = ap (count_by true (LowComma n)) (digit_sign b h)

pub within_more : (n m : List ℕ) (b : ℕ) → is_digit b ≡ true → count_step (LowHigh n m) b ≡ CountOn (LowHigh n (m ++ b ∷ []))
unfolding count_step
within_more n m b h = ap (count_by true (LowHigh n m)) (digit_sign b h)

-- the steps on the two signs, none of which is a digit
pub low_comma : (n : List ℕ) → count_step (Low n) 44 ≡ CountOn (LowComma n)
unfolding count_step count_sign is_digit
low_comma n = refl

pub low_ends : (n : List ℕ) → count_step (Low n) 125 ≡ CountRead (Exactly n)
unfolding count_step count_sign is_digit
low_ends n = refl

pub low_comma_ends : (n : List ℕ) → count_step (LowComma n) 125 ≡ CountRead (AtLeast n)
unfolding count_step count_sign is_digit
low_comma_ends n = refl

pub within_ends : (n m : List ℕ) → count_step (LowHigh n m) 125 ≡ CountRead (FromTo n m)
unfolding count_step count_sign is_digit
within_ends n m = refl

pub only_comma : count_step Opened 44 ≡ CountOn OnlyComma
unfolding count_step count_sign is_digit
only_comma = refl

pub high_ends : (m : List ℕ) → count_step (High m) 125 ≡ CountRead (AtMost m)
unfolding count_step count_sign is_digit
high_ends m = refl

pub after_sign : (i : Item) (es : List Entry) (b : ℕ) (o : Option State) → after_item i es b ≡ o → next (goes (After i) es) b ≡ o
unfolding next step step_in
after_sign i es b o e = e

pub postfix_reads : (i : Item) (es : List Entry) (p : Postfix) → IsPostfix p → state_after (goes (After i) es) (postfix p) ≡ goes (Turned i p) es
unfolding postfix IsPostfix after_item in_count
postfix_reads i es ZeroOrMore h = one_byte _ _ 42 (after_sign i es 42 _ refl)
postfix_reads i es OneOrMore h = one_byte _ _ 43 (after_sign i es 43 _ refl)
postfix_reads i es Optional h = one_byte _ _ 63 (after_sign i es 63 _ refl)
postfix_reads i es (Exactly n) h =
    byte_then _ (in_count i es Opened) _ 123 (n ++ 125 ∷ []) (after_sign i es 123 _ refl)
    (then_reads _ (in_count i es (Low n)) _ n (125 ∷ []) (number_reads i es Opened Low low_first low_more n h) (count_ends i es (Low n) 125 (Exactly n) (low_ends n)))
postfix_reads i es (AtLeast n) h =
    byte_then _ (in_count i es Opened) _ 123 (n ++ 44 ∷ 125 ∷ []) (after_sign i es 123 _ refl)
    (then_reads _ (in_count i es (Low n)) _ n (44 ∷ 125 ∷ []) (number_reads i es Opened Low low_first low_more n h)
    (byte_then _ (in_count i es (LowComma n)) _ 44 (125 ∷ []) (count_moves i es (Low n) (LowComma n) 44 (low_comma n)) (count_ends i es (LowComma n) 125 (AtLeast n) (low_comma_ends n))))
postfix_reads i es (AtMost m) h =
    byte_then _ (in_count i es Opened) _ 123 (44 ∷ m ++ 125 ∷ []) (after_sign i es 123 _ refl)
    (byte_then _ (in_count i es OnlyComma) _ 44 (m ++ 125 ∷ []) (count_moves i es Opened OnlyComma 44 only_comma)
    (then_reads _ (in_count i es (High m)) _ m (125 ∷ []) (number_reads i es OnlyComma High high_first high_more m h) (count_ends i es (High m) 125 (AtMost m) (high_ends m))))
postfix_reads i es (FromTo n m) h =
    byte_then _ (in_count i es Opened) _ 123 (n ++ (44 ∷ m ++ 125 ∷ [])) (after_sign i es 123 _ refl)
    (then_reads _ (in_count i es (Low n)) _ n (44 ∷ m ++ 125 ∷ []) (number_reads i es Opened Low low_first low_more n h.0)
    (byte_then _ (in_count i es (LowComma n)) _ 44 (m ++ 125 ∷ []) (count_moves i es (Low n) (LowComma n) 44 (low_comma n))
    (then_reads _ (in_count i es (LowHigh n m)) _ m (125 ∷ []) (number_reads i es (LowComma n) (LowHigh n) (within_first n) (within_more n) m h.1) (count_ends i es (LowHigh n m) 125 (FromTo n m) (within_ends n m)))))

-- ---- the whole

-- a piece may begin, and these entries are open then
unfoldable pub MayBegin : Mode → List Entry → List Entry → Type 0
MayBegin Ready es fs = es ≡ fs
MayBegin (After i) es fs = Read (Once i) ∷ es ≡ fs
MayBegin (Turned i p) es fs = Read (Turns i p false) ∷ es ≡ fs
MayBegin (InEscape e) es fs = ⊥
MayBegin (InSet negated ms p) es fs = ⊥
MayBegin (InCount i c) es fs = ⊥

pub not_among : (b c : ℕ) (cs : List ℕ) → is_among b (c ∷ cs) ≡ false → ((b == c) ≡ false) × (is_among b cs ≡ false)
not_among b c cs h = go (b == c) refl h
  where
    go : (t : Bool) → (b == c) ≡ t → cond t true (is_among b cs) ≡ false → ((b == c) ≡ false) × (is_among b cs ≡ false)
    go true e k = absurd (false≢true (sym k))
    go false e k = (e, k)

-- none of * + ? {
pub is_sign : ℕ → Bool
is_sign b = is_among b (42 ∷ 43 ∷ 63 ∷ 123 ∷ [])

pub begins : (m : Mode) (es fs : List Entry) (b : ℕ) → MayBegin m es fs → is_sign b ≡ false → next (goes m es) b ≡ begin_piece fs b
unfolding MayBegin next step step_in after_item after_turns is_sign
begins Ready es fs b r n = ap (λ (x : List Entry). begin_piece x b) r
begins (After i) es fs b r n =
    let a = not_among b 42 (43 ∷ 63 ∷ 123 ∷ []) n in
    let c = not_among b 43 (63 ∷ 123 ∷ []) a.1 in
    let d = not_among b 63 (123 ∷ []) c.1 in
    let e = not_among b 123 [] d.1 in
    cond_no (b == 42) _ _ a.0 ∙ cond_no (b == 43) _ _ c.0 ∙ cond_no (b == 63) _ _ d.0 ∙ cond_no (b == 123) _ _ e.0 ∙ ap (λ (x : List Entry). begin_piece x b) r
begins (Turned i p) es fs b r n =
    let a = not_among b 42 (43 ∷ 63 ∷ 123 ∷ []) n in
    let c = not_among b 43 (63 ∷ 123 ∷ []) a.1 in
    let d = not_among b 63 (123 ∷ []) c.1 in
    cond_no (b == 63) _ _ d.0 ∙ ap (λ (x : List Entry). begin_piece x b) r
begins (InEscape e) es fs b r n = absurd r
begins (InSet negated ms p) es fs b r n = absurd r
begins (InCount i c) es fs b r n = absurd r

pub among_more : (b c : ℕ) (cs : List ℕ) → (b == c) ≡ false → is_among b cs ≡ false → is_among b (c ∷ cs) ≡ false
among_more b c cs e k = cond_no (b == c) true (is_among b cs) e ∙ k

pub plain_no_sign : (b : ℕ) → is_plain b ≡ true → is_sign b ≡ false
unfolding is_sign is_plain
plain_no_sign b h =
    among_more b 42 (43 ∷ 63 ∷ 123 ∷ []) (apart is_plain b 42 h refl) (among_more b 43 (63 ∷ 123 ∷ []) (apart is_plain b 43 h refl) (among_more b 63 (123 ∷ []) (apart is_plain b 63 h refl) (among_more b 123 [] (apart is_plain b 123 h refl) refl)))

-- ---- what the entries come to

unfoldable pub pieces_onto : Branch → List Entry → List Entry
pieces_onto Empty es = es
pieces_onto (Then p b) es = pieces_onto b (Read p ∷ es)

unfoldable pub regex_onto : Regex → List Entry → List Entry
regex_onto (Last b) es = pieces_onto b es
regex_onto (Or b r) es = regex_onto r (Ended b ∷ es)

-- no piece is on top
unfoldable pub IsBase : List Entry → Type 0
IsBase [] = Unit {0}
IsBase (Mark ∷ es) = Unit {0}
IsBase (Ended b ∷ es) = Unit {0}
IsBase (Read p ∷ es) = ⊥

pub join : Branch → Branch → Branch
join Empty b = b
join (Then p a) b = Then p (join a b)

pub join-empty : (b : Branch) → join b Empty ≡ b
unfolding join
join-empty Empty = refl
join-empty (Then p b) = ap (λ (x : Branch). Then p x) (join-empty b)

pub take_onto : (a : Branch) (es : List Entry) (b : Branch) → take_pieces (pieces_onto a es) b ≡ take_pieces es (join a b)
unfolding pieces_onto join take_pieces
take_onto Empty es b = refl
take_onto (Then p a) es b = take_onto a (Read p ∷ es) b

pub base_takes : (es : List Entry) (b : Branch) → IsBase es → take_pieces es b ≡ (b, es)
unfolding take_pieces IsBase
base_takes [] b h = refl
base_takes (Mark ∷ es) b h = refl
base_takes (Ended a ∷ es) b h = refl
base_takes (Read p ∷ es) b h = absurd h

pub branch_taken : (b : Branch) (es : List Entry) → IsBase es → take_pieces (pieces_onto b es) Empty ≡ (b, es)
branch_taken b es h = take_onto b es Empty ∙ ap (take_pieces es) (join-empty b) ∙ base_takes es b h

pub regex_taken : (r : Regex) (es : List Entry) → IsBase es → take_regex (regex_onto r es) ≡ take_branches es r
unfolding regex_onto take_regex take_branches IsBase
regex_taken (Last b) es h = ap (λ (t : Branch × List Entry). take_branches t.1 (Last t.0)) (branch_taken b es h)
regex_taken (Or b r) es h = regex_taken r (Ended b ∷ es) tt

pub bar_step : (m : Mode) (es : List Entry) (b : Branch) (fs : List Entry) → MayBegin m es (pieces_onto b fs) → IsBase fs → next (goes m es) 124 ≡ goes Ready (Ended b ∷ fs)
unfolding is_sign begin_piece is_plain end_branch
bar_step m es b fs r h = begins m es (pieces_onto b fs) 124 r refl ∙ ap end_branch (branch_taken b fs h)

pub close_step : (m : Mode) (es : List Entry) (r : Regex) (fs : List Entry) → MayBegin m es (regex_onto r (Mark ∷ fs)) → next (goes m es) 41 ≡ goes (After (Group r)) fs
unfolding is_sign begin_piece is_plain after_group IsBase take_branches
close_step m es r fs q = begins m es (regex_onto r (Mark ∷ fs)) 41 q refl ∙ ap after_group (regex_taken r (Mark ∷ fs) tt)

unfoldable pub Begins : List Entry → Option State → Type 0
Begins fs o = (m : Mode) × (es : List Entry) × MayBegin m es fs × (o ≡ goes m es)

pub begin_byte : (fs : List Entry) (b : ℕ) → is_plain b ≡ true → begin_piece fs b ≡ goes (After (Plain b)) fs
unfolding begin_piece
begin_byte fs b h = cond_yes (is_plain b) _ _ h

pub begin_92 : (fs : List Entry) → begin_piece fs 92 ≡ goes (InEscape Begun) fs
unfolding begin_piece is_plain
begin_92 fs = refl

pub begin_46 : (fs : List Entry) → begin_piece fs 46 ≡ goes (After Dot) fs
unfolding begin_piece is_plain
begin_46 fs = refl

pub begin_91 : (fs : List Entry) → begin_piece fs 91 ≡ in_set fs false [] AtStart
unfolding begin_piece is_plain in_set
begin_91 fs = refl

pub begin_40 : (fs : List Entry) → begin_piece fs 40 ≡ goes Ready (Mark ∷ fs)
unfolding begin_piece is_plain
begin_40 fs = refl

pub no_sign_92 : is_sign 92 ≡ false
unfolding is_sign
no_sign_92 = refl

pub no_sign_46 : is_sign 46 ≡ false
unfolding is_sign
no_sign_46 = refl

pub no_sign_91 : is_sign 91 ≡ false
unfolding is_sign
no_sign_91 = refl

pub no_sign_40 : is_sign 40 ≡ false
unfolding is_sign
no_sign_40 = refl

pub item_escape : (es : List Entry) (x : Escape) → IsEscape x → state_after (goes (InEscape Begun) es) (escape_tail x) ≡ goes (After (Escaped x)) es
unfolding on_escape next step step_in
item_escape es x h = escape_reads (on_escape es) (λ e b. refl) x h

pub lazy_step : (i : Item) (p : Postfix) (es : List Entry) → next (goes (Turned i p) es) 63 ≡ goes Ready (Read (Turns i p true) ∷ es)
unfolding next step step_in after_turns
lazy_step i p es = refl

mutual
  unfolding IsRegex regex regex_onto Begins IsBranch branch pieces_onto IsPiece piece lazy_mark IsItem item IsBase state_after MayBegin

  pub regex_reads : (r : Regex) → IsRegex r → (m : Mode) (es fs : List Entry) → MayBegin m es fs → IsBase fs → Begins (regex_onto r fs) (state_after (goes m es) (regex r))
  regex_reads (Last b) h m es fs r base = branch_reads b h m es fs r
  regex_reads (Or b q) h m es fs r base =
      let a = branch_reads b h.0 m es fs r in
      let c = regex_reads q h.1 Ready (Ended b ∷ fs) (Ended b ∷ fs) refl tt in
      (c.0, c.1, c.2, then_reads _ (goes a.0 a.1) _ (branch b) (124 ∷ regex q) a.3 (byte_then _ (goes Ready (Ended b ∷ fs)) _ 124 (regex q) (bar_step a.0 a.1 b fs a.2 base) c.3))

  pub branch_reads : (b : Branch) → IsBranch b → (m : Mode) (es fs : List Entry) → MayBegin m es fs → Begins (pieces_onto b fs) (state_after (goes m es) (branch b))
  branch_reads Empty h m es fs r = (m, es, r, refl)
  branch_reads (Then p b) h m es fs r =
      let a = piece_reads p h.0 m es fs r in
      let c = branch_reads b h.1 a.0 a.1 (Read p ∷ fs) a.2 in
      (c.0, c.1, c.2, then_reads _ (goes a.0 a.1) _ (piece p) (branch b) a.3 c.3)

  pub piece_reads : (p : Piece) → IsPiece p → (m : Mode) (es fs : List Entry) → MayBegin m es fs → Begins (Read p ∷ fs) (state_after (goes m es) (piece p))
  piece_reads (Once i) h m es fs r = (After i, fs, refl, item_reads i h m es fs r)
  piece_reads (Turns i p false) h m es fs r = (Turned i p, fs, refl, then_reads _ (goes (After i) fs) _ (item i) (postfix p ++ []) (item_reads i h.0 m es fs r) (ap (state_after (goes (After i) fs)) (append-nil (postfix p)) ∙ postfix_reads i fs p h.1))
  piece_reads (Turns i p true) h m es fs r = (Ready, Read (Turns i p true) ∷ fs, refl, then_reads _ (goes (After i) fs) _ (item i) (postfix p ++ 63 ∷ []) (item_reads i h.0 m es fs r) (then_reads _ (goes (Turned i p) fs) _ (postfix p) (63 ∷ []) (postfix_reads i fs p h.1) (one_byte _ _ 63 (lazy_step i p fs))))

  pub item_reads : (i : Item) → IsItem i → (m : Mode) (es fs : List Entry) → MayBegin m es fs → state_after (goes m es) (item i) ≡ goes (After i) fs
  item_reads (Plain b) h m es fs r = one_byte _ _ b (begins m es fs b r (plain_no_sign b h) ∙ begin_byte fs b h)
  item_reads (Escaped x) h m es fs r =
      ap (state_after (goes m es)) (escape_is x) ∙ byte_then _ (goes (InEscape Begun) fs) _ 92 (escape_tail x) (begins m es fs 92 r no_sign_92 ∙ begin_92 fs) (item_escape fs x h)
  item_reads Dot h m es fs r = one_byte _ _ 46 (begins m es fs 46 r no_sign_46 ∙ begin_46 fs)
  item_reads (Set negated ms) h m es fs r = byte_then _ (in_set fs false [] AtStart) _ 91 (negation negated ++ (members ms ++ 93 ∷ [])) (begins m es fs 91 r no_sign_91 ∙ begin_91 fs) (set_reads fs negated ms h)
  item_reads (Group q) h m es fs r =
      let a = regex_reads q h Ready (Mark ∷ fs) (Mark ∷ fs) refl tt in
      byte_then _ (goes Ready (Mark ∷ fs)) _ 40 (regex q ++ 41 ∷ []) (begins m es fs 40 r no_sign_40 ∙ begin_40 fs)
      (then_reads _ (goes a.0 a.1) _ (regex q) (41 ∷ []) a.3 (one_byte _ _ 41 (close_step a.0 a.1 q fs a.2)))
