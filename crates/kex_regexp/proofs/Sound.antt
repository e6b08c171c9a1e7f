-- What the machine has read is spelled by what it holds.
use Rattle.std.proofs.Common.{◌≡◌, ℕ, Bool, true, false, cond, List, [], ◌∷◌, ◌++◌, Option, Some, None, refl, sym, ap, ◌∙◌, subst, append_assoc}
use Rattle.std.specs.Prelude.{◌==◌}
use Rattle.std.proofs.lemmas.Bool.{eqb-true, eqb-false, ne_eqb, false≢true}
use Rattle.std.proofs.lemmas.List.{append-nil}
use Rattle.kex_regexp.specs.Grammar.{is_plain, is_punctuation, is_digit, is_hex, is_end, Escape, End, Itself, EscapedEnd, Member, Single, Range, Postfix, ZeroOrMore, OneOrMore, Optional, Regex, Last, Or, Branch, Empty, Then, Once, Turns, Item, Plain, Escaped, Dot, Set, Group, escape, end_of, member, members, negation, postfix, lazy_mark, regex, branch, piece, item, IsEscape, IsEnd, IsMember, AreMembers, begins_with_caret, IsSet, AreDigits, IsNumber, IsPostfix, IsRegex, IsBranch, IsPiece, IsItem}
use Rattle.kex_regexp.specs.Postfixes.{CountSign, Digits, CommaSign, CloseSign, NoSign, count_by}
use Rattle.kex_regexp.specs.Machine.{entry, entries, escaping, set_phase, set_so_far, counting, mode, bytes_read, Escaping, Begun, HexBegun, HexOne, EscapeStep, EscapeOn, EscapeRead, EscapeWrong, escape_step, SetPhase, AtStart, Between, HasEnd, HasDash, InFirst, InLast, SetStep, SetOn, SetRead, SetWrong, begin_member, between_step, in_first, in_last, set_step, Counting, Opened, Low, LowComma, LowHigh, OnlyComma, High, CountStep, CountOn, CountRead, CountWrong, count_sign, count_step, Entry, Mark, Ended, Read, Mode, Ready, After, Turned, InEscape, InSet, InCount, State, take_pieces, take_branches, take_regex, goes, after_group, end_branch, begin_piece, after_item, after_turns, on_escape, on_set, on_count, step_in, step, next, state_after, whole_regex, finish_in, start}

-- a choice by a test has what both sides have
pub by_test : {A : Type 0} (P : A → Type 0) (b : Bool) (x y : A) → (b ≡ true → P x) → (b ≡ false → P y) → P (cond b x y)
by_test P true x y f g = f refl
by_test P false x y f g = g refl

-- ---- escapes

unfoldable pub IsEscaping : Escaping → Type 0
IsEscaping Begun = Unit {0}
IsEscaping HexBegun = Unit {0}
IsEscaping (HexOne high) = is_hex high ≡ true

unfoldable pub EscapeGoes : List ℕ → EscapeStep → Type 0
EscapeGoes w (EscapeOn e) = IsEscaping e × (escaping e ≡ w)
EscapeGoes w (EscapeRead e) = IsEscape e × (escape e ≡ w)
EscapeGoes w EscapeWrong = Unit {0}

pub is_code : (b n : ℕ) → (b == n) ≡ true → n ≡ b
is_code b n e = sym (eqb-true b n e)

pub escape_sound : (e : Escaping) (b : ℕ) → IsEscaping e → EscapeGoes (escaping e ++ b ∷ []) (escape_step e b)
unfolding escaping IsEscaping EscapeGoes escape_step escape IsEscape
escape_sound Begun b good =
    let P = EscapeGoes (92 ∷ b ∷ []) in
    by_test P (b == 110) _ _ (λ e. (tt, ap (λ (c : ℕ). 92 ∷ c ∷ []) (is_code b 110 e))) (λ n.
    by_test P (b == 116) _ _ (λ e. (tt, ap (λ (c : ℕ). 92 ∷ c ∷ []) (is_code b 116 e))) (λ n.
    by_test P (b == 114) _ _ (λ e. (tt, ap (λ (c : ℕ). 92 ∷ c ∷ []) (is_code b 114 e))) (λ n.
    by_test P (b == 120) _ _ (λ e. (tt, ap (λ (c : ℕ). 92 ∷ c ∷ []) (is_code b 120 e))) (λ n.
    by_test P (is_punctuation b) _ _ (λ e. (e, refl)) (λ n. tt)))))
escape_sound HexBegun b good = by_test (EscapeGoes (92 ∷ 120 ∷ b ∷ [])) (is_hex b) _ _ (λ e. (e, refl)) (λ n. tt)
escape_sound (HexOne high) b good = by_test (EscapeGoes (92 ∷ 120 ∷ high ∷ b ∷ [])) (is_hex b) _ _ (λ e. ((good, e), refl)) (λ n. tt)

-- ---- sets

-- members that a set may have so far
unfoldable pub Fine : Bool → List Member → Type 0
Fine true ms = AreMembers ms
Fine false [] = Unit {0}
Fine false (m ∷ ms) = (begins_with_caret m ≡ false) × IsMember m × AreMembers ms

unfoldable pub IsNone : List Member → Type 0
IsNone [] = Unit {0}
IsNone (m ∷ ms) = ⊥

-- without a caret the first member has begun
unfoldable pub HasBegun : Bool → List Member → Type 0
HasBegun true ms = Unit {0}
HasBegun false [] = ⊥
HasBegun false (m ∷ ms) = Unit {0}

unfoldable pub IsPart : Bool → List Member → SetPhase → Type 0
IsPart negated ms AtStart = (negated ≡ false) × IsNone ms
IsPart negated ms Between = Fine negated ms × HasBegun negated ms
IsPart negated ms (HasEnd end) = Fine negated (ms ++ Single end ∷ [])
IsPart negated ms (HasDash end) = Fine negated (ms ++ Single end ∷ [])
IsPart negated ms (InFirst e) = Fine negated ms × IsEscaping e
IsPart negated ms (InLast end e) = Fine negated (ms ++ Single end ∷ []) × IsEscaping e

unfoldable pub SetGoes : List ℕ → SetStep → Type 0
SetGoes w (SetOn negated ms p) = IsPart negated ms p × (set_so_far negated ms p ≡ w)
SetGoes w (SetRead negated ms) = IsSet negated ms × (item (Set negated ms) ≡ w)
SetGoes w SetWrong = Unit {0}

pub members-append : (a b : List Member) → members (a ++ b) ≡ members a ++ members b
unfolding members
members-append [] b = refl
members-append (m ∷ a) b = ap (λ (w : List ℕ). member m ++ w) (members-append a b) ∙ sym (append_assoc (member m) (members a) (members b))

pub AreMembers-append : (a b : List Member) → AreMembers a → AreMembers b → AreMembers (a ++ b)
unfolding AreMembers
AreMembers-append [] b h k = k
AreMembers-append (m ∷ a) b h k = (h.0, AreMembers-append a b h.1 k)

-- one more member after those that have begun
pub Fine-more : (negated : Bool) (ms : List Member) (m : Member) → Fine negated ms → HasBegun negated ms → IsMember m → Fine negated (ms ++ m ∷ [])
unfolding Fine HasBegun AreMembers
Fine-more true ms m f h k = AreMembers-append ms (m ∷ []) f (k, tt)
Fine-more false [] m f h k = absurd h
Fine-more false (n ∷ ms) m f h k = (f.0, f.1, AreMembers-append ms (m ∷ []) f.2 (k, tt))

-- a first member
pub Fine-first : (negated : Bool) (ms : List Member) (m : Member) → Fine negated ms → begins_with_caret m ≡ false → IsMember m → Fine negated (ms ++ m ∷ [])
unfolding Fine AreMembers
Fine-first true ms m f c k = AreMembers-append ms (m ∷ []) f (k, tt)
Fine-first false [] m f c k = (c, k, tt)
Fine-first false (n ∷ ms) m f c k = (f.0, f.1, AreMembers-append ms (m ∷ []) f.2 (k, tt))

pub caret-range : (end last : End) → begins_with_caret (Range end last) ≡ begins_with_caret (Single end)
unfolding begins_with_caret
caret-range (Itself b) last = refl
caret-range (EscapedEnd e) last = refl

pub AreMembers-back : (a b : List Member) → AreMembers (a ++ b) → AreMembers a × AreMembers b
unfolding AreMembers
AreMembers-back [] b h = (tt, h)
AreMembers-back (m ∷ a) b h = let k = AreMembers-back a b h.1 in ((h.0, k.0), k.1)

-- the single end becomes a range
pub Fine-range : (negated : Bool) (ms : List Member) (end last : End) → Fine negated (ms ++ Single end ∷ []) → IsEnd last → Fine negated (ms ++ Range end last ∷ [])
unfolding Fine AreMembers IsMember
Fine-range true ms end last f k = let b = AreMembers-back ms (Single end ∷ []) f in AreMembers-append ms (Range end last ∷ []) b.0 ((b.1.0, k), tt)
Fine-range false [] end last f k = (caret-range end last ∙ f.0, (f.1, k), tt)
Fine-range false (n ∷ ms) end last f k = let b = AreMembers-back ms (Single end ∷ []) f.2 in (f.0, f.1, AreMembers-append ms (Range end last ∷ []) b.0 ((b.1.0, k), tt))

pub HasBegun-more : (negated : Bool) (ms : List Member) (m : Member) → HasBegun negated (ms ++ m ∷ [])
unfolding HasBegun
HasBegun-more true ms m = tt
HasBegun-more false [] m = tt
HasBegun-more false (n ∷ ms) m = tt

-- ---- spelling with one byte more

-- a set so far in other words: the bytes after the bracket and the caret
pub so_far_more : (negated : Bool) (ms : List Member) (p q : List ℕ) (b : ℕ) → q ≡ p ++ b ∷ [] → 91 ∷ negation negated ++ (members ms ++ q) ≡ (91 ∷ negation negated ++ (members ms ++ p)) ++ b ∷ []
so_far_more negated ms p q b e =
    ap (λ (w : List ℕ). 91 ∷ w) (ap (λ (w : List ℕ). negation negated ++ (members ms ++ w)) e
    ∙ ap (λ (w : List ℕ). negation negated ++ w) (sym (append_assoc (members ms) p (b ∷ [])))
    ∙ sym (append_assoc (negation negated) (members ms ++ p) (b ∷ [])))

-- a member that is whole belongs to the members
pub member_in : (ms : List Member) (m : Member) (w : List ℕ) → w ≡ member m → members (ms ++ m ∷ []) ++ [] ≡ members ms ++ w
unfolding members
member_in ms m w e = append-nil (members (ms ++ m ∷ [])) ∙ members-append ms (m ∷ []) ∙ ap (λ (v : List ℕ). members ms ++ v) (append-nil (member m) ∙ sym e)

-- ---- steps of sets

pub first_end : (negated : Bool) (ms : List Member) (b : ℕ) → Fine negated ms → ((b ≡ 94) → HasBegun negated ms) → is_end b ≡ true → Fine negated (ms ++ Single (Itself b) ∷ [])
unfolding IsMember IsEnd begins_with_caret HasBegun Fine AreMembers
first_end true ms b f c e = Fine-more true ms (Single (Itself b)) f tt e
first_end false (m ∷ ms) b f c e = Fine-more false (m ∷ ms) (Single (Itself b)) f tt e
first_end false [] b f c e = (ne_eqb b 94 c, e, tt)

pub begin_sound : (negated : Bool) (ms : List Member) (b : ℕ) → Fine negated ms → ((b ≡ 94) → HasBegun negated ms) → SetGoes (set_so_far negated ms Between ++ b ∷ []) (begin_member negated ms b)
unfolding begin_member SetGoes set_so_far set_phase IsPart end_of escaping IsEscaping
begin_sound negated ms b f c =
    let P = SetGoes (set_so_far negated ms Between ++ b ∷ []) in
    by_test P (is_end b) _ _ (λ e. (first_end negated ms b f c e, so_far_more negated ms [] (b ∷ []) b refl)) (λ n.
    by_test P (b == 92) _ _ (λ e. ((f, tt), so_far_more negated ms [] (92 ∷ []) b (ap (λ (x : ℕ). x ∷ []) (is_code b 92 e)))) (λ m. tt))

pub is_set : (negated : Bool) (m : Member) (ms : List Member) → Fine negated (m ∷ ms) → IsSet negated (m ∷ ms)
unfolding Fine IsSet AreMembers
is_set true m ms f = f
is_set false m ms f = f

pub so_far_end : (negated : Bool) (w : List ℕ) (b : ℕ) → (b == 93) ≡ true → 91 ∷ negation negated ++ (w ++ 93 ∷ []) ≡ (91 ∷ negation negated ++ w) ++ b ∷ []
so_far_end negated w b e = ap (λ (v : List ℕ). 91 ∷ v) (ap (λ (c : ℕ). negation negated ++ (w ++ c ∷ [])) (is_code b 93 e) ∙ sym (append_assoc (negation negated) w (b ∷ [])))

pub no_caret : (x : Escape) → begins_with_caret (Single (EscapedEnd x)) ≡ false
unfolding begins_with_caret
no_caret x = refl

pub an_end : (x : Escape) → IsEscape x → IsMember (Single (EscapedEnd x))
unfolding IsMember IsEnd
an_end x h = h

pub not_none : (m : Member) (ms : List Member) → IsNone (m ∷ ms) → ⊥
unfolding IsNone
not_none m ms h = h

pub fine_start : Fine false []
unfolding Fine
fine_start = tt

pub caret_read : (b : ℕ) → (b == 94) ≡ true → SetGoes (set_so_far false [] AtStart ++ b ∷ []) (SetOn true [] Between)
unfolding SetGoes IsPart Fine HasBegun AreMembers set_so_far set_phase members negation
caret_read b e = ((tt, tt), ap (λ (c : ℕ). 91 ∷ c ∷ []) (is_code b 94 e))

pub dash_read : (negated : Bool) (ms : List Member) (end : End) (b : ℕ) → Fine negated (ms ++ Single end ∷ []) → (b == 45) ≡ true → SetGoes (set_so_far negated ms (HasEnd end) ++ b ∷ []) (SetOn negated ms (HasDash end))
unfolding SetGoes IsPart set_so_far set_phase
dash_read negated ms end b f e = (f, so_far_more negated ms (end_of end) (end_of end ++ 45 ∷ []) b (ap (λ (c : ℕ). end_of end ++ c ∷ []) (is_code b 45 e)))

pub last_begins : (negated : Bool) (ms : List Member) (first : End) (b : ℕ) → Fine negated (ms ++ Single first ∷ []) → (b == 92) ≡ true → SetGoes (set_so_far negated ms (HasDash first) ++ b ∷ []) (SetOn negated ms (InLast first Begun))
unfolding SetGoes IsPart set_so_far set_phase escaping IsEscaping
last_begins negated ms first b f e = ((f, tt), so_far_more negated ms (end_of first ++ 45 ∷ []) (end_of first ++ 45 ∷ 92 ∷ []) b (ap (λ (c : ℕ). end_of first ++ 45 ∷ c ∷ []) (is_code b 92 e) ∙ sym (append_assoc (end_of first) (45 ∷ []) (b ∷ []))))

pub set_ends : (negated : Bool) (m : Member) (ms : List Member) (b : ℕ) → Fine negated (m ∷ ms) → (b == 93) ≡ true → SetGoes (set_so_far negated (m ∷ ms) Between ++ b ∷ []) (SetRead negated (m ∷ ms))
unfolding SetGoes Fine IsSet set_so_far set_phase item AreMembers
set_ends negated m ms b f e = (is_set negated m ms f, ap (λ (w : List ℕ). 91 ∷ negation negated ++ w) (ap (λ (w : List ℕ). w ++ 93 ∷ []) (sym (append-nil (members (m ∷ ms))))) ∙ so_far_end negated (members (m ∷ ms) ++ []) b e)

pub between_sound : (negated : Bool) (ms : List Member) (b : ℕ) → Fine negated ms → ((b ≡ 94) → HasBegun negated ms) → SetGoes (set_so_far negated ms Between ++ b ∷ []) (between_step negated ms b)
unfolding between_step
between_sound negated [] b f c = begin_sound negated [] b f c
between_sound negated (m ∷ ms) b f c =
    by_test (SetGoes (set_so_far negated (m ∷ ms) Between ++ b ∷ [])) (b == 93) _ _ (λ e. set_ends negated m ms b f e) (λ n. begin_sound negated (m ∷ ms) b f c)

-- an end that is read is a member
pub end_in : (negated : Bool) (ms : List Member) (end : End) → set_so_far negated (ms ++ Single end ∷ []) Between ≡ set_so_far negated ms (HasEnd end)
unfolding set_so_far set_phase member
end_in negated ms end = ap (λ (w : List ℕ). 91 ∷ negation negated ++ w) (member_in ms (Single end) (end_of end) refl)

pub range_in : (negated : Bool) (ms : List Member) (first last : End) (w : List ℕ) → w ≡ end_of first ++ 45 ∷ end_of last → set_so_far negated (ms ++ Range first last ∷ []) Between ≡ 91 ∷ negation negated ++ (members ms ++ w)
unfolding set_so_far set_phase member
range_in negated ms first last w e = ap (λ (v : List ℕ). 91 ∷ negation negated ++ v) (member_in ms (Range first last) w e)

pub in_first_sound : (negated : Bool) (ms : List Member) (e : Escaping) (b : ℕ) (t : EscapeStep) → Fine negated ms → EscapeGoes (escaping e ++ b ∷ []) t → SetGoes (set_so_far negated ms (InFirst e) ++ b ∷ []) (in_first negated ms t)
unfolding in_first SetGoes EscapeGoes set_so_far set_phase IsPart end_of
in_first_sound negated ms e b (EscapeOn f) fine g = ((fine, g.0), so_far_more negated ms (escaping e) (escaping f) b g.1)
in_first_sound negated ms e b (EscapeRead x) fine g = (Fine-first negated ms (Single (EscapedEnd x)) fine (no_caret x) (an_end x g.0), so_far_more negated ms (escaping e) (escape x) b g.1)
in_first_sound negated ms e b EscapeWrong fine g = tt

pub in_last_sound : (negated : Bool) (ms : List Member) (first : End) (e : Escaping) (b : ℕ) (t : EscapeStep) → Fine negated (ms ++ Single first ∷ []) → EscapeGoes (escaping e ++ b ∷ []) t → SetGoes (set_so_far negated ms (InLast first e) ++ b ∷ []) (in_last negated ms first t)
unfolding in_last SetGoes EscapeGoes set_so_far set_phase IsPart end_of IsEnd
in_last_sound negated ms first e b (EscapeOn f) fine g =
    ((fine, g.0), so_far_more negated ms (end_of first ++ 45 ∷ escaping e) (end_of first ++ 45 ∷ escaping f) b (ap (λ (w : List ℕ). end_of first ++ 45 ∷ w) g.1 ∙ sym (append_assoc (end_of first) (45 ∷ escaping e) (b ∷ []))))
in_last_sound negated ms first e b (EscapeRead x) fine g =
    ((Fine-range negated ms first (EscapedEnd x) fine g.0, HasBegun-more negated ms (Range first (EscapedEnd x))), range_in negated ms first (EscapedEnd x) (end_of first ++ 45 ∷ escape x) refl ∙ so_far_more negated ms (end_of first ++ 45 ∷ escaping e) (end_of first ++ 45 ∷ escape x) b (ap (λ (w : List ℕ). end_of first ++ 45 ∷ w) g.1 ∙ sym (append_assoc (end_of first) (45 ∷ escaping e) (b ∷ []))))
in_last_sound negated ms first e b EscapeWrong fine g = tt

pub last_more : (negated : Bool) (ms : List Member) (first : End) (b : ℕ) → 91 ∷ negation negated ++ (members ms ++ (end_of first ++ 45 ∷ b ∷ [])) ≡ set_so_far negated ms (HasDash first) ++ b ∷ []
unfolding set_so_far set_phase
last_more negated ms first b = so_far_more negated ms (end_of first ++ 45 ∷ []) (end_of first ++ 45 ∷ b ∷ []) b (sym (append_assoc (end_of first) (45 ∷ []) (b ∷ [])))

pub last_read : (negated : Bool) (ms : List Member) (first : End) (b : ℕ) → Fine negated (ms ++ Single first ∷ []) → is_end b ≡ true → SetGoes (set_so_far negated ms (HasDash first) ++ b ∷ []) (SetOn negated (ms ++ Range first (Itself b) ∷ []) Between)
unfolding SetGoes IsPart IsEnd end_of
last_read negated ms first b f e =
    ((Fine-range negated ms first (Itself b) f e, HasBegun-more negated ms (Range first (Itself b))), range_in negated ms first (Itself b) (end_of first ++ 45 ∷ b ∷ []) refl ∙ last_more negated ms first b)

pub set_sound : (negated : Bool) (ms : List Member) (p : SetPhase) (b : ℕ) → IsPart negated ms p → SetGoes (set_so_far negated ms p ++ b ∷ []) (set_step negated ms p b)
unfolding set_step IsPart set_so_far between_step SetGoes set_phase
set_sound true ms AtStart b good = absurd (false≢true (sym good.0))
set_sound false (m ∷ ms) AtStart b good = absurd (not_none m ms good.1)
set_sound false [] AtStart b good =
    by_test (SetGoes (set_so_far false [] AtStart ++ b ∷ [])) (b == 94) _ _ (λ e. caret_read b e) (λ n. between_sound false [] b fine_start (λ e. absurd (eqb-false b 94 n e)))
set_sound negated ms Between b good = between_sound negated ms b good.0 (λ _. good.1)
set_sound negated ms (HasEnd end) b good =
    by_test (SetGoes (set_so_far negated ms (HasEnd end) ++ b ∷ [])) (b == 45) _ _ (λ e. dash_read negated ms end b good e) (λ n. subst (λ (w : List ℕ). SetGoes (w ++ b ∷ []) (between_step negated (ms ++ Single end ∷ []) b)) (end_in negated ms end) (between_sound negated (ms ++ Single end ∷ []) b good (λ _. HasBegun-more negated ms (Single end))))
set_sound negated ms (HasDash first) b good =
    let P = SetGoes (set_so_far negated ms (HasDash first) ++ b ∷ []) in
    by_test P (is_end b) _ _ (λ e. last_read negated ms first b good e) (λ n. by_test P (b == 92) _ _ (λ e. last_begins negated ms first b good e) (λ m. tt))
set_sound negated ms (InFirst e) b good = in_first_sound negated ms e b (escape_step e b) good.0 (escape_sound e b good.1)
set_sound negated ms (InLast first e) b good = in_last_sound negated ms first e b (escape_step e b) good.0 (escape_sound e b good.1)

-- ---- counts

unfoldable pub IsCounting : Counting → Type 0
IsCounting Opened = Unit {0}
IsCounting (Low n) = IsNumber n
IsCounting (LowComma n) = IsNumber n
IsCounting (LowHigh n m) = IsNumber n × IsNumber m
IsCounting OnlyComma = Unit {0}
IsCounting (High m) = IsNumber m

unfoldable pub CountGoes : List ℕ → CountStep → Type 0
CountGoes w (CountOn c) = IsCounting c × (123 ∷ counting c ≡ w)
CountGoes w (CountRead p) = IsPostfix p × (postfix p ≡ w)
CountGoes w CountWrong = Unit {0}

pub AreDigits-more : (ds : List ℕ) (b : ℕ) → AreDigits ds → is_digit b ≡ true → AreDigits (ds ++ b ∷ [])
unfolding AreDigits
AreDigits-more [] b h e = (e, tt)
AreDigits-more (d ∷ ds) b h e = (h.0, AreDigits-more ds b h.1 e)

pub IsNumber-more : (ds : List ℕ) (b : ℕ) → IsNumber ds → is_digit b ≡ true → IsNumber (ds ++ b ∷ [])
unfolding IsNumber
IsNumber-more [] b h e = absurd h
IsNumber-more (d ∷ ds) b h e = (h.0, AreDigits-more ds b h.1 e)

pub digit_alone : (b : ℕ) → is_digit b ≡ true → IsNumber (b ∷ [])
unfolding IsNumber AreDigits
digit_alone b e = (e, tt)

-- what a byte is to a count
pub by_sign : (P : CountSign → Type 0) (b : ℕ) → (is_digit b ≡ true → P (Digits (b ∷ []))) → ((b == 44) ≡ true → P CommaSign) → ((b == 125) ≡ true → P CloseSign) → P NoSign → P (count_sign b)
unfolding count_sign
by_sign P b d c e n = by_test P (is_digit b) _ _ d (λ _. by_test P (b == 44) _ _ c (λ _. by_test P (b == 125) _ _ e (λ _. n)))

pub count_sound : (c : Counting) (b : ℕ) → IsCounting c → CountGoes ((123 ∷ counting c) ++ b ∷ []) (count_step c b)
unfolding count_step counting IsCounting CountGoes IsPostfix postfix
count_sound Opened b good =
    by_sign (λ s. CountGoes (123 ∷ b ∷ []) (count_by true Opened s)) b (λ e. (digit_alone b e, refl)) (λ e. (tt, ap (λ (c : ℕ). 123 ∷ c ∷ []) (is_code b 44 e))) (λ _. tt) tt
count_sound (Low n) b good =
    by_sign (λ s. CountGoes (123 ∷ n ++ b ∷ []) (count_by true (Low n) s)) b
    (λ e. (IsNumber-more n b good e, refl))
    (λ e. (good, ap (λ (c : ℕ). 123 ∷ n ++ c ∷ []) (is_code b 44 e)))
    (λ e. (good, ap (λ (c : ℕ). 123 ∷ n ++ c ∷ []) (is_code b 125 e))) tt
count_sound (LowComma n) b good =
    let more : (c : ℕ) → c ≡ b → 123 ∷ n ++ 44 ∷ c ∷ [] ≡ 123 ∷ (n ++ 44 ∷ []) ++ b ∷ [] = λ c e. ap (λ (x : ℕ). 123 ∷ n ++ 44 ∷ x ∷ []) e ∙ ap (λ (w : List ℕ). 123 ∷ w) (sym (append_assoc n (44 ∷ []) (b ∷ []))) in
    by_sign (λ s. CountGoes (123 ∷ (n ++ 44 ∷ []) ++ b ∷ []) (count_by true (LowComma n) s)) b
    (λ e. ((good, digit_alone b e), more b refl)) (λ _. tt) (λ e. (good, more 125 (is_code b 125 e))) tt
count_sound (LowHigh n m) b good =
    let more : (c : ℕ) → c ≡ b → 123 ∷ n ++ (44 ∷ m ++ c ∷ []) ≡ 123 ∷ (n ++ 44 ∷ m) ++ b ∷ [] = λ c e. ap (λ (x : ℕ). 123 ∷ n ++ (44 ∷ m ++ x ∷ [])) e ∙ ap (λ (w : List ℕ). 123 ∷ w) (sym (append_assoc n (44 ∷ m) (b ∷ []))) in
    by_sign (λ s. CountGoes (123 ∷ (n ++ 44 ∷ m) ++ b ∷ []) (count_by true (LowHigh n m) s)) b
    (λ e. ((good.0, IsNumber-more m b good.1 e), more b refl)) (λ _. tt) (λ e. (good, more 125 (is_code b 125 e))) tt
count_sound OnlyComma b good = by_sign (λ s. CountGoes (123 ∷ 44 ∷ b ∷ []) (count_by true OnlyComma s)) b (λ e. (digit_alone b e, refl)) (λ _. tt) (λ _. tt) tt
count_sound (High m) b good =
    by_sign (λ s. CountGoes (123 ∷ 44 ∷ m ++ b ∷ []) (count_by true (High m) s)) b
    (λ e. (IsNumber-more m b good e, refl)) (λ _. tt) (λ e. (good, ap (λ (c : ℕ). 123 ∷ 44 ∷ m ++ c ∷ []) (is_code b 125 e))) tt

-- ---- what is open

unfoldable pub IsEntry : Entry → Type 0
IsEntry Mark = Unit {0}
IsEntry (Ended b) = IsBranch b
IsEntry (Read p) = IsPiece p

unfoldable pub AreEntries : List Entry → Type 0
AreEntries [] = Unit {0}
AreEntries (e ∷ es) = IsEntry e × AreEntries es

unfoldable pub IsMode : Mode → Type 0
IsMode Ready = Unit {0}
IsMode (After i) = IsItem i
IsMode (Turned i p) = IsItem i × IsPostfix p
IsMode (InEscape e) = IsEscaping e
IsMode (InSet negated ms p) = IsPart negated ms p
IsMode (InCount i c) = IsItem i × IsCounting c

-- what a state has read

pub record IsState (s : State) : Type 0 where
  pub entries : AreEntries s.entries
  pub mode : IsMode s.mode

unfoldable pub Goes : List ℕ → Option State → Type 0
Goes w None = Unit {0}
Goes w (Some s) = IsState s × (bytes_read s ≡ w)

-- the pieces of the newest branch are its branch
pub pieces_taken : (es : List Entry) (b : Branch) → AreEntries es → IsBranch b → record { good : IsBranch (take_pieces es b).0; rest : AreEntries (take_pieces es b).1; same : entries (take_pieces es b).1 ++ branch (take_pieces es b).0 ≡ entries es ++ branch b }
unfolding take_pieces AreEntries IsEntry entries entry branch IsBranch
pieces_taken [] b h k = record { good = k; rest = tt; same = refl }
pieces_taken (Mark ∷ es) b h k = record { good = k; rest = h; same = refl }
pieces_taken (Ended a ∷ es) b h k = record { good = k; rest = h; same = refl }
pieces_taken (Read p ∷ es) b h k =
    let r = pieces_taken es (Then p b) h.1 (h.0, k) in
    record { good = r.good; rest = r.rest; same = r.same ∙ sym (append_assoc (entries es) (piece p) (branch b)) }

pub branches_taken : (es : List Entry) (r : Regex) → AreEntries es → IsRegex r → record { good : IsRegex (take_branches es r).0; rest : AreEntries (take_branches es r).1; same : entries (take_branches es r).1 ++ regex (take_branches es r).0 ≡ entries es ++ regex r }
unfolding take_branches AreEntries IsEntry entries entry regex IsRegex
branches_taken [] r h k = record { good = k; rest = tt; same = refl }
branches_taken (Mark ∷ es) r h k = record { good = k; rest = h; same = refl }
branches_taken (Read p ∷ es) r h k = record { good = k; rest = h; same = refl }
branches_taken (Ended a ∷ es) r h k =
    let t = branches_taken es (Or a r) h.1 (h.0, k) in
    record { good = t.good; rest = t.rest; same = t.same ∙ ap (λ (w : List ℕ). entries es ++ w) (sym (append_assoc (branch a) (124 ∷ []) (regex r))) ∙ sym (append_assoc (entries es) (branch a ++ 124 ∷ []) (regex r)) }

pub regex_taken : (es : List Entry) → AreEntries es → record { good : IsRegex (take_regex es).0; rest : AreEntries (take_regex es).1; same : entries (take_regex es).1 ++ regex (take_regex es).0 ≡ entries es }
unfolding take_regex regex branch IsRegex IsBranch
regex_taken es h =
    let p = pieces_taken es Empty h tt in
    let b = branches_taken (take_pieces es Empty).1 (Last (take_pieces es Empty).0) p.rest p.good in
    record { good = b.good; rest = b.rest; same = b.same ∙ p.same ∙ append-nil (entries es) }

-- ---- steps of the whole

pub went : (m : Mode) (es : List Entry) (w : List ℕ) → AreEntries es → IsMode m → entries es ++ mode m ≡ w → Goes w (goes m es)
unfolding Goes bytes_read
went m es w h k e = (record { entries = h; mode = k }, e)

pub is_group : (r : Regex) → IsRegex r → IsMode (After (Group r))
unfolding IsMode IsItem IsRegex
is_group r k = k

pub closed : (r : Regex) (es : List Entry) (w : List ℕ) (b : ℕ) → (entries es ++ 40 ∷ []) ++ regex r ≡ w → (b == 41) ≡ true → entries es ++ mode (After (Group r)) ≡ w ++ b ∷ []
unfolding mode item regex
closed r es w b e c =
    ap (λ (x : ℕ). entries es ++ (40 ∷ regex r ++ x ∷ [])) (is_code b 41 c)
    ∙ sym (append_assoc (entries es) (40 ∷ regex r) (b ∷ []))
    ∙ ap (λ (v : List ℕ). v ++ b ∷ []) (sym (append_assoc (entries es) (40 ∷ []) (regex r)) ∙ e)

pub close_sound : (r : Regex) (es : List Entry) (w : List ℕ) (b : ℕ) → IsRegex r → AreEntries es → entries es ++ regex r ≡ w → (b == 41) ≡ true → Goes (w ++ b ∷ []) (after_group (r, es))
unfolding after_group Goes AreEntries IsEntry entries entry
close_sound r [] w b k h e c = tt
close_sound r (Ended a ∷ es) w b k h e c = tt
close_sound r (Read p ∷ es) w b k h e c = tt
close_sound r (Mark ∷ es) w b k h e c = went (After (Group r)) es (w ++ b ∷ []) h.1 (is_group r k) (closed r es w b e c)

pub bar_sound : (t : Branch × List Entry) (w : List ℕ) (b : ℕ) → IsBranch t.0 → AreEntries t.1 → entries t.1 ++ branch t.0 ≡ w → (b == 124) ≡ true → Goes (w ++ b ∷ []) (end_branch t)
unfolding end_branch mode IsMode entries entry AreEntries IsEntry
bar_sound t w b k h e c =
    went Ready (Ended t.0 ∷ t.1) (w ++ b ∷ []) (k, h) tt
    (append-nil (entries t.1 ++ (branch t.0 ++ 124 ∷ [])) ∙ ap (λ (x : ℕ). entries t.1 ++ (branch t.0 ++ x ∷ [])) (is_code b 124 c) ∙ sym (append_assoc (entries t.1) (branch t.0) (b ∷ [])) ∙ ap (λ (v : List ℕ). v ++ b ∷ []) e)

-- one byte after the entries
pub one_more : (es : List Entry) (b n : ℕ) → (b == n) ≡ true → entries es ++ n ∷ [] ≡ entries es ++ b ∷ []
one_more es b n e = ap (λ (x : ℕ). entries es ++ x ∷ []) (is_code b n e)

pub piece_sound : (es : List Entry) (b : ℕ) → AreEntries es → Goes (entries es ++ b ∷ []) (begin_piece es b)
unfolding begin_piece mode IsMode item IsItem escaping IsEscaping set_so_far set_phase members negation IsPart IsNone entries entry AreEntries IsEntry Goes branch IsBranch
piece_sound es b h =
    let P = Goes (entries es ++ b ∷ []) in
    let p = pieces_taken es Empty h tt in
    let r = regex_taken es h in
    by_test P (is_plain b) _ _ (λ e. went (After (Plain b)) es _ h e refl) (λ _.
    by_test P (b == 92) _ _ (λ e. went (InEscape Begun) es _ h tt (one_more es b 92 e)) (λ _.
    by_test P (b == 46) _ _ (λ e. went (After Dot) es _ h tt (one_more es b 46 e)) (λ _.
    by_test P (b == 91) _ _ (λ e. went (InSet false [] AtStart) es _ h (refl, tt) (one_more es b 91 e)) (λ _.
    by_test P (b == 40) _ _ (λ e. went Ready (Mark ∷ es) _ (tt, h) tt (append-nil (entries es ++ 40 ∷ []) ∙ one_more es b 40 e)) (λ _.
    by_test P (b == 124) _ _ (λ e. bar_sound (take_pieces es Empty) (entries es) b p.good p.rest (p.same ∙ append-nil (entries es)) e) (λ _.
    by_test P (b == 41) _ _ (λ e. close_sound (take_regex es).0 (take_regex es).1 (entries es) b r.good r.rest r.same e) (λ _. tt)))))))

pub turns_read : (i : Item) (p : Postfix) (es : List Entry) (w : List ℕ) → AreEntries es → IsItem i → IsPostfix p → entries es ++ (item i ++ postfix p) ≡ w → Goes w (goes (Turned i p) es)
unfolding mode IsMode
turns_read i p es w h k q e = went (Turned i p) es w h (k, q) e

pub behind_item : (es : List Entry) (i : Item) (v u : List ℕ) (b : ℕ) → u ≡ v ++ b ∷ [] → entries es ++ (item i ++ u) ≡ (entries es ++ (item i ++ v)) ++ b ∷ []
behind_item es i v u b e = ap (λ (x : List ℕ). entries es ++ (item i ++ x)) e ∙ ap (λ (x : List ℕ). entries es ++ x) (sym (append_assoc (item i) v (b ∷ []))) ∙ sym (append_assoc (entries es) (item i ++ v) (b ∷ []))

pub sign_read : (i : Item) (p : Postfix) (n : ℕ) (es : List Entry) (b : ℕ) → AreEntries es → IsItem i → IsPostfix p → postfix p ≡ n ∷ [] → (b == n) ≡ true → Goes ((entries es ++ item i) ++ b ∷ []) (goes (Turned i p) es)
sign_read i p n es b h k q e c =
    turns_read i p es _ h k q (ap (λ (u : List ℕ). entries es ++ (item i ++ u)) (e ∙ ap (λ (x : ℕ). x ∷ []) (is_code b n c)) ∙ sym (append_assoc (entries es) (item i) (b ∷ [])))

pub once_in : (es : List Entry) (i : Item) → entries (Read (Once i) ∷ es) ≡ entries es ++ item i
unfolding entries entry piece
once_in es i = refl

pub after_sound : (i : Item) (es : List Entry) (b : ℕ) → AreEntries es → IsItem i → Goes ((entries es ++ item i) ++ b ∷ []) (after_item i es b)
unfolding after_item mode IsMode counting IsCounting IsPostfix postfix AreEntries IsEntry IsPiece IsItem
after_sound i es b h k =
    let P = Goes ((entries es ++ item i) ++ b ∷ []) in
    by_test P (b == 42) _ _ (λ e. sign_read i ZeroOrMore 42 es b h k tt refl e) (λ _.
    by_test P (b == 43) _ _ (λ e. sign_read i OneOrMore 43 es b h k tt refl e) (λ _.
    by_test P (b == 63) _ _ (λ e. sign_read i Optional 63 es b h k tt refl e) (λ _.
    by_test P (b == 123) _ _ (λ e. went (InCount i Opened) es _ h (k, tt) (ap (λ (x : ℕ). entries es ++ (item i ++ x ∷ [])) (is_code b 123 e) ∙ sym (append_assoc (entries es) (item i) (b ∷ [])))) (λ _.
    subst (λ (w : List ℕ). Goes (w ++ b ∷ []) (begin_piece (Read (Once i) ∷ es) b)) (once_in es i) (piece_sound (Read (Once i) ∷ es) b (k, h))))))

-- a piece with a postfix that isn't lazy
pub eager_in : (es : List Entry) (i : Item) (p : Postfix) → entries (Read (Turns i p false) ∷ es) ≡ entries es ++ (item i ++ postfix p)
unfolding entries entry piece lazy_mark
eager_in es i p = ap (λ (u : List ℕ). entries es ++ (item i ++ u)) (append-nil (postfix p))

pub turned_sound : (i : Item) (p : Postfix) (es : List Entry) (b : ℕ) → AreEntries es → IsItem i → IsPostfix p → Goes ((entries es ++ (item i ++ postfix p)) ++ b ∷ []) (after_turns i p es b)
unfolding after_turns mode IsMode entries entry piece lazy_mark AreEntries IsEntry IsPiece IsItem
turned_sound i p es b h k q =
    by_test (Goes ((entries es ++ (item i ++ postfix p)) ++ b ∷ [])) (b == 63) _ _
    (λ e. went Ready (Read (Turns i p true) ∷ es) _ ((k, q), h) tt (append-nil (entries es ++ (item i ++ (postfix p ++ 63 ∷ []))) ∙ behind_item es i (postfix p) (postfix p ++ 63 ∷ []) b (ap (λ (x : ℕ). postfix p ++ x ∷ []) (is_code b 63 e))))
    (λ _. subst (λ (w : List ℕ). Goes (w ++ b ∷ []) (begin_piece (Read (Turns i p false) ∷ es) b)) (eager_in es i p) (piece_sound (Read (Turns i p false) ∷ es) b ((k, q), h)))

pub escape_on : (es : List Entry) (v : List ℕ) (b : ℕ) (t : EscapeStep) → AreEntries es → EscapeGoes (v ++ b ∷ []) t → Goes ((entries es ++ v) ++ b ∷ []) (on_escape es t)
unfolding on_escape EscapeGoes mode IsMode item IsItem Goes
escape_on es v b (EscapeOn e) h g = went (InEscape e) es _ h g.0 (ap (λ (x : List ℕ). entries es ++ x) g.1 ∙ sym (append_assoc (entries es) v (b ∷ [])))
escape_on es v b (EscapeRead e) h g = went (After (Escaped e)) es _ h g.0 (ap (λ (x : List ℕ). entries es ++ x) g.1 ∙ sym (append_assoc (entries es) v (b ∷ [])))
escape_on es v b EscapeWrong h g = tt

pub set_on : (es : List Entry) (v : List ℕ) (b : ℕ) (t : SetStep) → AreEntries es → SetGoes (v ++ b ∷ []) t → Goes ((entries es ++ v) ++ b ∷ []) (on_set es t)
unfolding on_set SetGoes mode IsMode IsItem Goes
set_on es v b (SetOn negated ms p) h g = went (InSet negated ms p) es _ h g.0 (ap (λ (x : List ℕ). entries es ++ x) g.1 ∙ sym (append_assoc (entries es) v (b ∷ [])))
set_on es v b (SetRead negated ms) h g = went (After (Set negated ms)) es _ h g.0 (ap (λ (x : List ℕ). entries es ++ x) g.1 ∙ sym (append_assoc (entries es) v (b ∷ [])))
set_on es v b SetWrong h g = tt

pub count_on : (i : Item) (es : List Entry) (v : List ℕ) (b : ℕ) (t : CountStep) → AreEntries es → IsItem i → CountGoes (v ++ b ∷ []) t → Goes ((entries es ++ (item i ++ v)) ++ b ∷ []) (on_count i es t)
unfolding on_count CountGoes mode IsMode Goes
count_on i es v b (CountOn c) h k g = went (InCount i c) es _ h (k, g.0) (behind_item es i v (123 ∷ counting c) b g.1)
count_on i es v b (CountRead p) h k g = turns_read i p es _ h k g.0 (behind_item es i v (postfix p) b g.1)
count_on i es v b CountWrong h k g = tt

pub step_sound_in : (m : Mode) (es : List Entry) (b : ℕ) → AreEntries es → IsMode m → Goes ((entries es ++ mode m) ++ b ∷ []) (step_in m es b)
unfolding step_in mode IsMode
step_sound_in Ready es b h k = subst (λ (w : List ℕ). Goes (w ++ b ∷ []) (begin_piece es b)) (sym (append-nil (entries es))) (piece_sound es b h)
step_sound_in (After i) es b h k = after_sound i es b h k
step_sound_in (Turned i p) es b h k = turned_sound i p es b h k.0 k.1
step_sound_in (InEscape e) es b h k = escape_on es (escaping e) b (escape_step e b) h (escape_sound e b k)
step_sound_in (InSet negated ms p) es b h k = set_on es (set_so_far negated ms p) b (set_step negated ms p b) h (set_sound negated ms p b k)
step_sound_in (InCount i c) es b h k = count_on i es (123 ∷ counting c) b (count_step c b) h k.0 (count_sound c b k.1)

pub next_sound : (w : List ℕ) (o : Option State) (b : ℕ) → Goes w o → Goes (w ++ b ∷ []) (next o b)
unfolding next Goes step bytes_read
next_sound w None b g = tt
next_sound w (Some s) b g = subst (λ (v : List ℕ). Goes (v ++ b ∷ []) (step s b)) g.1 (step_sound_in s.mode s.entries b g.0.entries g.0.mode)

-- after bytes that were all taken, the state spells them
pub reads_sound : (w : List ℕ) (o : Option State) (v : List ℕ) → Goes w o → Goes (w ++ v) (state_after o v)
unfolding state_after
reads_sound w o [] g = subst (λ (u : List ℕ). Goes u o) (sym (append-nil w)) g
reads_sound w o (b ∷ v) g = subst (λ (u : List ℕ). Goes u (state_after (next o b) v)) (append_assoc w (b ∷ []) v) (reads_sound (w ++ b ∷ []) (next o b) v (next_sound w o b g))

pub start_sound : Goes [] start
unfolding start Goes bytes_read AreEntries IsMode entries mode
start_sound = (record { entries = tt; mode = tt }, refl)

-- ---- the end

unfoldable pub Finishes : List ℕ → Option Regex → Type 0
Finishes w None = Unit {0}
Finishes w (Some r) = IsRegex r × (regex r ≡ w)

pub whole_sound : (r : Regex) (es : List Entry) (w : List ℕ) → IsRegex r → entries es ++ regex r ≡ w → Finishes w (whole_regex (r, es))
unfolding whole_regex Finishes entries
whole_sound r [] w k e = (k, e)
whole_sound r (Mark ∷ es) w k e = tt
whole_sound r (Ended a ∷ es) w k e = tt
whole_sound r (Read p ∷ es) w k e = tt

pub taken_sound : (es : List Entry) → AreEntries es → Finishes (entries es) (whole_regex (take_regex es))
taken_sound es h = let r = regex_taken es h in whole_sound (take_regex es).0 (take_regex es).1 (entries es) r.good r.same

pub finish_sound_in : (m : Mode) (es : List Entry) → AreEntries es → IsMode m → Finishes (entries es ++ mode m) (finish_in m es)
unfolding finish_in mode IsMode Finishes AreEntries IsEntry IsPiece IsItem
finish_sound_in Ready es h k = subst (λ (w : List ℕ). Finishes w (whole_regex (take_regex es))) (sym (append-nil (entries es))) (taken_sound es h)
finish_sound_in (After i) es h k = subst (λ (w : List ℕ). Finishes w (whole_regex (take_regex (Read (Once i) ∷ es)))) (once_in es i) (taken_sound (Read (Once i) ∷ es) (k, h))
finish_sound_in (Turned i p) es h k = subst (λ (w : List ℕ). Finishes w (whole_regex (take_regex (Read (Turns i p false) ∷ es)))) (eager_in es i p) (taken_sound (Read (Turns i p false) ∷ es) (k, h))
finish_sound_in (InEscape e) es h k = tt
finish_sound_in (InSet negated ms p) es h k = tt
finish_sound_in (InCount i c) es h k = tt
