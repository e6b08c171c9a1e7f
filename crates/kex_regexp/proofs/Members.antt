-- The members of a set, and the bytes that are held of them.
use Rattle.std.proofs.Common.{◌≡◌, ℕ, zero, suc, ◌<◌, ◌≤◌, ◌==◌, ◌&&◌, ◌||◌, Bool, true, false, not, nat_le, nat_lt, List, [], ◌∷◌, ◌++◌, take, get_or, Option, Some, None, refl, sym, ap, ◌∙◌, subst, add-one, arith}
use Rattle.std.specs.List.{list_any}
use Rattle.std.proofs.Math.Bool.{or_assoc}
use Rattle.std.proofs.lemmas.Bool.Decides.{nat_tests}
use Rattle.std.proofs.lemmas.List.{append-nil, take_all}
use Rattle.std.proofs.lemmas.List.Folds.{list_any_more}
use Rattle.kex_byteset.specs.Sets.{HasExactly, has}
use Rattle.kex_byteset.proofs.Flags.{in_words}
use Rattle.kex_model.specs.declared.program.Node.{Node}
use Rattle.kex_regexp.specs.declared.escapes.EscapeOutcome.{EscapeOutcome}
use Rattle.kex_regexp.specs.declared.escapes.EscapeOutcome.TheVariants as escapes
use Rattle.kex_regexp.specs.declared.sets.SetPart.{SetPart}
use Rattle.kex_regexp.specs.declared.sets.SetPart.TheVariants as parts
use Rattle.kex_regexp.specs.declared.sets.SetSoFar.{SetSoFar}
use Rattle.kex_regexp.specs.declared.sets.Span.{Span}
use Rattle.kex_regexp.specs.declared.wait.Wait.{Wait}
use Rattle.kex_regexp.specs.declared.wait.Wait.TheVariants as waits
use Rattle.kex_regexp.specs.Grammar.{is_end, is_plain, Regex, Item, Once, Turns, Postfix, End, Itself, EscapedEnd, Member, Single, Range}
use Rattle.kex_regexp.specs.Values.{any_below, end_byte, membership, has_backward, in_member, in_members, in_set, is_backward}
use Rattle.kex_regexp.specs.Breaks.{is_bad_set}
use Rattle.kex_regexp.specs.Machine.{ended_members, last_members, begin_member, between_step, in_first, in_last, set_step, escape_step, on_escape, on_set, on_count, count_step, begin_piece, after_item, after_turns, end_branch, after_group, take_regex, step_in, Entry, Mark, Ended, Read, EscapeStep, EscapeOn, EscapeRead, EscapeWrong, CountStep, CountOn, CountRead, CountWrong, SetStep, SetOn, SetRead, SetWrong, Escaping, SetPhase, AtStart, Between, HasEnd, HasDash, InFirst, InLast, Mode, Ready, After, Turned, InEscape, InSet, InCount}
use Rattle.kex_regexp.specs.Holding.{HasMembers, IsSetAfter, IsSetIn, ShowsEscape, ShowsMode, ShowsPart}
use Rattle.kex_regexp.specs.Outcomes.{ended_span, escape_outcome, last_span}
use Rattle.kex_regexp.specs.Notes.{is_bad_set_so_far}
use Rattle.kex_regexp.proofs.Sound.{by_test}
use Rattle.kex_regexp.proofs.Refinement.{by_both, escape_refines}
use Rattle.kex_regexp.proofs.ShownSteps.{mode_set}

-- ---- one member more

pub or_false : (b : Bool) → (b || false) ≡ b
or_false true = refl
or_false false = refl

pub in_more : (ms : List Member) (m : Member) (b : ℕ) → in_members (ms ++ m ∷ []) b ≡ (in_members ms b || in_member m b)
unfolding in_members
in_more [] m b = or_false (in_member m b)
in_more (k ∷ ms) m b = ap (λ (t : Bool). in_member k b || t) (in_more ms m b) ∙ sym (or_assoc (in_member k b) (in_members ms b) (in_member m b))

pub backward_more : (ms : List Member) (m : Member) → has_backward (ms ++ m ∷ []) ≡ (has_backward ms || is_backward m)
unfolding has_backward
backward_more [] m = or_false (is_backward m)
backward_more (k ∷ ms) m = ap (λ (t : Bool). is_backward k || t) (backward_more ms m) ∙ sym (or_assoc (is_backward k) (has_backward ms) (is_backward m))

pub no_members : (set : SetSoFar) → HasExactly set.bytes (λ _. false) → set.backward ≡ false → HasMembers set []
unfolding in_members has_backward
no_members set h b = record { bytes = h; backward = b }

-- ---- what a byte ends

-- the bytes from the first to the last are those of the member
pub record IsSpan (s : Span) (m : Member) : Type 0 where
  pub bytes : (b : ℕ) → in_member m b ≡ (nat_le s.first b && nat_le b s.last)
  pub backward : is_backward m ≡ nat_lt s.last s.first

pub one_byte : (b c : ℕ) → (b == c) ≡ (nat_le c b && nat_le b c)
one_byte b c = grind (arith, nat_tests)

pub not_below : (c : ℕ) → false ≡ nat_lt c c
not_below c = grind (arith, nat_tests)

pub single_span : (x : ℕ) (end : End) → x ≡ end_byte end → IsSpan (record { first = x; last = x }) (Single end)
unfolding in_member is_backward
single_span x end e = record {
  bytes = λ b. one_byte b (end_byte end) ∙ ap (λ (y : ℕ). nat_le y b && nat_le b y) (sym e);
  backward = not_below x;
}

pub range_span : (x y : ℕ) (first last : End) → x ≡ end_byte first → y ≡ end_byte last → IsSpan (record { first = x; last = y }) (Range first last)
unfolding in_member is_backward
range_span x y first last e f = record {
  bytes = λ b. ap (λ (z : ℕ). nat_le z b && nat_le b (end_byte last)) (sym e) ∙ ap (λ (z : ℕ). nat_le x b && nat_le b z) (sym f);
  backward = ap (λ (z : ℕ). nat_lt z (end_byte first)) (sym f) ∙ ap (λ (z : ℕ). nat_lt y z) (sym e);
}

-- a byte ends this member, or none
unfoldable pub EndsAs : Option Span → List Member → Type 0
EndsAs None [] = Unit {0}
EndsAs (Some s) (m ∷ []) = IsSpan s m
EndsAs _ _ = ⊥

pub ends_last : (x : ℕ) (first : End) (o : EscapeOutcome) (t : EscapeStep) → x ≡ end_byte first → ShowsEscape o t → EndsAs (last_span x o) (last_members first t)
unfolding last_span last_members ShowsEscape EndsAs end_byte
ends_last x first (escapes.On e) (EscapeOn f) h s = tt
ends_last x first (escapes.Read b) (EscapeRead e) h s = range_span x b first (EscapedEnd e) h s
ends_last x first escapes.Wrong EscapeWrong h s = tt
ends_last x first _ _ h s = absurd s

pub ends_as : (p : SetPart) (q : SetPhase) (b : ℕ) → ShowsPart p q → EndsAs (ended_span p b) (ended_members q b)
unfolding ended_span ended_members ShowsPart EndsAs end_byte
ends_as parts.AtStart AtStart b s = tt
ends_as parts.Between Between b s = tt
ends_as (parts.HasEnd x) (HasEnd end) b s = by_both EndsAs (b == 45) _ _ _ _ tt (single_span x end s)
ends_as (parts.HasDash x) (HasDash first) b s = by_both EndsAs (is_end b) _ _ _ _ (range_span x b first (Itself b) s refl) tt
ends_as (parts.InFirst x) (InFirst y) b s = tt
ends_as (parts.InLast x e) (InLast first f) b s = subst (λ (z : Escaping). EndsAs (last_span x (escape_outcome z b)) (last_members first (escape_step f b))) (sym s.1) (ends_last x first (escape_outcome f b) (escape_step f b) s.0 (escape_refines f b))
ends_as _ _ b s = absurd s

pub none_ends : (o : Option Span) (ms : List Member) → o ≡ None → EndsAs o ms → ms ≡ []
unfolding EndsAs
none_ends None [] e h = refl
none_ends None (m ∷ ms) e h = absurd h
none_ends (Some s) ms e h = absurd cc

pub record EndsOne (s : Span) (ms : List Member) : Type 0 where
  pub member : Member
  pub is : ms ≡ member ∷ []
  pub span : IsSpan s member

pub one_ends : (o : Option Span) (s : Span) (ms : List Member) → o ≡ Some s → EndsAs o ms → EndsOne s ms
unfolding EndsAs
one_ends o s [] e h = absurd (subst (λ (x : Option Span). EndsAs x []) e h)
one_ends o s (m ∷ []) e h = record { member = m; is = refl; span = subst (λ (x : Option Span). EndsAs x (m ∷ [])) e h }
one_ends o s (m ∷ (k ∷ ms)) e h = absurd (subst (λ (x : Option Span). EndsAs x (m ∷ k ∷ ms)) e h)

-- ---- a member is added

pub member_added : (old new : SetSoFar) (s : Span) (ms : List Member) (m : Member) → HasMembers old ms → IsSpan s m → ((test : ℕ → Bool) → HasExactly old.bytes test → HasExactly new.bytes (λ b. test b || (nat_le s.first b && nat_le b s.last))) → new.backward ≡ (old.backward || nat_lt s.last s.first) → HasMembers new (ms ++ m ∷ [])
member_added old new s ms m h span bytes back = record {
  bytes = in_words new.bytes _ (in_members (ms ++ m ∷ [])) (bytes (in_members ms) h.bytes) (λ b below. ap (λ (t : Bool). in_members ms b || t) (sym (span.bytes b)) ∙ sym (in_more ms m b));
  backward = back ∙ ap (λ (t : Bool). t || nat_lt s.last s.first) h.backward ∙ ap (λ (t : Bool). has_backward ms || t) (sym span.backward) ∙ sym (backward_more ms m);
}

-- ---- the members after a step

unfoldable pub MembersAre : List Member → SetStep → Type 0
MembersAre w (SetOn n ms p) = ms ≡ w
MembersAre w (SetRead n ms) = ms ≡ w
MembersAre w SetWrong = Unit {0}

pub begin_members : (n : Bool) (ms : List Member) (b : ℕ) → MembersAre ms (begin_member n ms b)
unfolding begin_member MembersAre
begin_members n ms b = by_test (MembersAre ms) (is_end b) _ _ (λ _. refl) (λ _. by_test (MembersAre ms) (b == 92) _ _ (λ _. refl) (λ _. tt))

pub between_members : (n : Bool) (ms : List Member) (b : ℕ) → MembersAre ms (between_step n ms b)
unfolding between_step MembersAre
between_members n [] b = begin_members n [] b
between_members n (m ∷ ms) b = by_test (MembersAre (m ∷ ms)) (b == 93) _ _ (λ _. refl) (λ _. begin_members n (m ∷ ms) b)

pub first_members : (n : Bool) (ms : List Member) (t : EscapeStep) → MembersAre ms (in_first n ms t)
unfolding in_first MembersAre
first_members n ms (EscapeOn e) = refl
first_members n ms (EscapeRead e) = refl
first_members n ms EscapeWrong = tt

pub last_members_are : (n : Bool) (ms : List Member) (first : End) (t : EscapeStep) → MembersAre (ms ++ last_members first t) (in_last n ms first t)
unfolding in_last last_members MembersAre
last_members_are n ms first (EscapeOn e) = sym (append-nil ms)
last_members_are n ms first (EscapeRead e) = refl
last_members_are n ms first EscapeWrong = tt

pub with_none : (ms : List Member) (t : SetStep) → MembersAre ms t → MembersAre (ms ++ []) t
with_none ms t h = subst (λ (w : List Member). MembersAre w t) (sym (append-nil ms)) h

pub step_members : (n : Bool) (ms : List Member) (q : SetPhase) (b : ℕ) → MembersAre (ms ++ ended_members q b) (set_step n ms q b)
unfolding set_step ended_members MembersAre
step_members n ms AtStart b = with_none ms _ (by_test (MembersAre ms) (b == 94) _ _ (λ _. refl) (λ _. between_members n ms b))
step_members n ms Between b = with_none ms _ (between_members n ms b)
step_members n ms (HasEnd end) b = by_both (λ (x : List Member) (t : SetStep). MembersAre (ms ++ x) t) (b == 45) _ _ _ _ (sym (append-nil ms)) (between_members n (ms ++ Single end ∷ []) b)
step_members n ms (HasDash first) b = by_both (λ (x : List Member) (t : SetStep). MembersAre (ms ++ x) t) (is_end b) _ _ _ _ refl (with_none ms _ (by_test (MembersAre ms) (b == 92) _ _ (λ _. refl) (λ _. tt)))
step_members n ms (InFirst e) b = with_none ms _ (first_members n ms (escape_step e b))
step_members n ms (InLast first e) b = last_members_are n ms first (escape_step e b)

-- a set that is read is negated where it was before
unfoldable pub NegatedIs : Bool → SetStep → Type 0
NegatedIs k (SetOn n ms p) = Unit {0}
NegatedIs k (SetRead n ms) = n ≡ k
NegatedIs k SetWrong = Unit {0}

pub begin_negated : (n : Bool) (ms : List Member) (b : ℕ) → NegatedIs n (begin_member n ms b)
unfolding begin_member NegatedIs
begin_negated n ms b = by_test (NegatedIs n) (is_end b) _ _ (λ _. tt) (λ _. by_test (NegatedIs n) (b == 92) _ _ (λ _. tt) (λ _. tt))

pub between_negated : (n : Bool) (ms : List Member) (b : ℕ) → NegatedIs n (between_step n ms b)
unfolding between_step NegatedIs
between_negated n [] b = begin_negated n [] b
between_negated n (m ∷ ms) b = by_test (NegatedIs n) (b == 93) _ _ (λ _. refl) (λ _. begin_negated n (m ∷ ms) b)

pub first_negated : (n : Bool) (ms : List Member) (t : EscapeStep) → NegatedIs n (in_first n ms t)
unfolding in_first NegatedIs
first_negated n ms (EscapeOn e) = tt
first_negated n ms (EscapeRead e) = tt
first_negated n ms EscapeWrong = tt

pub last_negated : (n : Bool) (ms : List Member) (first : End) (t : EscapeStep) → NegatedIs n (in_last n ms first t)
unfolding in_last NegatedIs
last_negated n ms first (EscapeOn e) = tt
last_negated n ms first (EscapeRead e) = tt
last_negated n ms first EscapeWrong = tt

pub step_negated : (n : Bool) (ms : List Member) (q : SetPhase) (b : ℕ) → NegatedIs n (set_step n ms q b)
unfolding set_step NegatedIs
step_negated n ms AtStart b = by_test (NegatedIs n) (b == 94) _ _ (λ _. tt) (λ _. between_negated n ms b)
step_negated n ms Between b = between_negated n ms b
step_negated n ms (HasEnd end) b = by_test (NegatedIs n) (b == 45) _ _ (λ _. tt) (λ _. between_negated n (ms ++ Single end ∷ []) b)
step_negated n ms (HasDash first) b = by_test (NegatedIs n) (is_end b) _ _ (λ _. tt) (λ _. by_test (NegatedIs n) (b == 92) _ _ (λ _. tt) (λ _. tt))
step_negated n ms (InFirst e) b = first_negated n ms (escape_step e b)
step_negated n ms (InLast first e) b = last_negated n ms first (escape_step e b)

pub set_after : (set : SetSoFar) (w : List Member) (es : List Entry) (t : SetStep) → HasMembers set w → MembersAre w t → IsSetAfter set (on_set es t)
unfolding on_set IsSetIn MembersAre
set_after set w es (SetOn n ms p) h e = subst (HasMembers set) (sym e) h
set_after set w es (SetRead n ms) h e = subst (HasMembers set) (sym e) h
set_after set w es SetWrong h e = tt

-- the set after a byte within a set
pub within_set : (old new : SetSoFar) (nodes : List Node) (at : ℕ) (n e : Bool) (p : SetPart) (from : ℕ) (m : Mode) (es : List Entry) (b : ℕ) → ShowsMode nodes at (waits.InSet n e p from) m → IsSetIn old m → ((ms : List Member) (q : SetPhase) → ShowsPart p q → HasMembers old ms → HasMembers new (ms ++ ended_members q b)) → IsSetAfter new (step_in m es b)
unfolding step_in IsSetIn
within_set old new nodes at n e p from m es b sh i f =
    let s = (mode_set nodes at n e p from m sh).0 in
    let old_has : HasMembers old s.members = subst (IsSetIn old) s.is i in
    let goes : IsSetAfter new (step_in (InSet n s.members s.part) es b) = set_after new (s.members ++ ended_members s.part b) es (set_step n s.members s.part b) (f s.members s.part s.shows old_has) (step_members n s.members s.part b) in
    subst (λ (x : Mode). IsSetAfter new (step_in x es b)) (sym s.is) goes

-- ---- elsewhere a set begins at most

pub close_after : (set : SetSoFar) (r : Regex) (es : List Entry) → IsSetAfter set (after_group (r, es))
unfolding after_group IsSetIn
close_after set r [] = tt
close_after set r (Mark ∷ es) = tt
close_after set r (Ended b ∷ es) = tt
close_after set r (Read p ∷ es) = tt

pub begin_after : (set : SetSoFar) (es : List Entry) (b : ℕ) → ((b == 91) ≡ true → HasMembers set []) → IsSetAfter set (begin_piece es b)
unfolding begin_piece IsSetIn end_branch
begin_after set es b h =
    let P = IsSetAfter set in
    by_test P (is_plain b) _ _ (λ _. tt) (λ _.
    by_test P (b == 92) _ _ (λ _. tt) (λ _.
    by_test P (b == 46) _ _ (λ _. tt) (λ _.
    by_test P (b == 91) _ _ (λ e. h e) (λ _.
    by_test P (b == 40) _ _ (λ _. tt) (λ _.
    by_test P (b == 124) _ _ (λ _. tt) (λ _.
    by_test P (b == 41) _ _ (λ _. close_after set (take_regex es).0 (take_regex es).1) (λ _. tt)))))))

pub item_after : (set : SetSoFar) (i : Item) (es : List Entry) (b : ℕ) → ((b == 91) ≡ true → HasMembers set []) → IsSetAfter set (after_item i es b)
unfolding after_item IsSetIn
item_after set i es b h =
    let P = IsSetAfter set in
    by_test P (b == 42) _ _ (λ _. tt) (λ _.
    by_test P (b == 43) _ _ (λ _. tt) (λ _.
    by_test P (b == 63) _ _ (λ _. tt) (λ _.
    by_test P (b == 123) _ _ (λ _. tt) (λ _. begin_after set (Read (Once i) ∷ es) b h))))

pub turns_after : (set : SetSoFar) (i : Item) (p : Postfix) (es : List Entry) (b : ℕ) → ((b == 91) ≡ true → HasMembers set []) → IsSetAfter set (after_turns i p es b)
unfolding after_turns IsSetIn
turns_after set i p es b h = by_test (IsSetAfter set) (b == 63) _ _ (λ _. tt) (λ _. begin_after set (Read (Turns i p false) ∷ es) b h)

pub escape_after : (set : SetSoFar) (es : List Entry) (t : EscapeStep) → IsSetAfter set (on_escape es t)
unfolding on_escape IsSetIn
escape_after set es (EscapeOn e) = tt
escape_after set es (EscapeRead e) = tt
escape_after set es EscapeWrong = tt

pub count_after_set : (set : SetSoFar) (i : Item) (es : List Entry) (t : CountStep) → IsSetAfter set (on_count i es t)
unfolding on_count IsSetIn
count_after_set set i es (CountOn c) = tt
count_after_set set i es (CountRead p) = tt
count_after_set set i es CountWrong = tt

unfoldable pub IsNotInSet : Wait → Type 0
IsNotInSet (waits.InSet n e p from) = ⊥
IsNotInSet _ = Unit {0}

pub without_set : (set : SetSoFar) (nodes : List Node) (at : ℕ) (w : Wait) (m : Mode) (es : List Entry) (b : ℕ) → IsNotInSet w → ShowsMode nodes at w m → ((b == 91) ≡ true → HasMembers set []) → IsSetAfter set (step_in m es b)
unfolding IsNotInSet ShowsMode step_in
without_set set nodes at waits.Ready Ready es b n s h = begin_after set es b h
without_set set nodes at (waits.After part) (After i) es b n s h = item_after set i es b h
without_set set nodes at (waits.Turned r) (Turned i p) es b n s h = turns_after set i p es b h
without_set set nodes at (waits.InEscape e from) (InEscape f) es b n s h = escape_after set es (escape_step f b)
without_set set nodes at (waits.InSet k e p from) m es b n s h = absurd n
without_set set nodes at (waits.InCount part c brace) (InCount i d) es b n s h = count_after_set set i es (count_step d b)
without_set set nodes at _ _ es b n s h = absurd s

-- ---- whether a set breaks its rule

pub any_take : (s : List Bool) (test : ℕ → Bool) (n : ℕ) → HasExactly s test → n ≤ 256 → list_any (λ (b : Bool). b) (take n s) ≡ any_below n test
unfolding any_below
any_take s test zero h le = refl
any_take s test (suc n) h le =
    ap (λ (x : ℕ). list_any (λ (b : Bool). b) (take x s)) (sym (add-one n))
    ∙ list_any_more (λ (b : Bool). b) s n false (omega (arith, le, h.long))
    ∙ ap (λ (t : Bool). t || get_or s n false) (any_take s test n h (omega (arith, le)))
    ∙ ap (λ (t : Bool). any_below n test || t) (h.bytes n (omega (arith, le)))

pub any_flag : (s : List Bool) (test : ℕ → Bool) (n : ℕ) → HasExactly s test → n ≡ 256 → list_any (λ (b : Bool). b) s ≡ any_below n test
any_flag s test n h e = ap (list_any (λ (b : Bool). b)) (sym (take_all n s (omega (arith, e, h.long)))) ∙ any_take s test n h (omega (arith, e))

pub same_below : (n : ℕ) (f g : ℕ → Bool) → n ≤ 256 → ((b : ℕ) → b < 256 → f b ≡ g b) → any_below n f ≡ any_below n g
unfolding any_below
same_below zero f g le h = refl
same_below (suc n) f g le h = ap (λ (t : Bool). t || f n) (same_below n f g (omega (arith, le)) h) ∙ ap (λ (t : Bool). any_below n g || t) (h n (omega (arith, le)))

pub bad_set : (set : SetSoFar) (negated : Bool) (ms : List Member) → HasMembers set ms → is_bad_set_so_far set negated ≡ is_bad_set negated ms
unfolding is_bad_set_so_far in_set
bad_set set negated ms h =
    ap (λ (t : Bool). t || not (any_below 256 (λ b. membership negated (has set.bytes b)))) h.backward
    ∙ ap (λ (t : Bool). has_backward ms || not t) (same_below 256 (λ b. membership negated (has set.bytes b)) (in_set negated ms) (omega arith) (λ b below. ap (membership negated) (h.bytes.bytes b below)))

pub clear_bad : (set : SetSoFar) (negated t : Bool) → set.backward ≡ false → t ≡ any_below 256 (λ b. membership negated (has set.bytes b)) → not t ≡ is_bad_set_so_far set negated
unfolding is_bad_set_so_far
clear_bad set negated t back e = ap not e ∙ ap (λ (x : Bool). x || not (any_below 256 (λ b. membership negated (has set.bytes b)))) (sym back)

-- ---- a byte within a set, which ends a member or none

pub one_within : (old new : SetSoFar) (p : SetPart) (s : Span) (b : ℕ) → ended_span p b ≡ Some s → ((test : ℕ → Bool) → HasExactly old.bytes test → HasExactly new.bytes (λ c. test c || (nat_le s.first c && nat_le c s.last))) → new.backward ≡ (old.backward || nat_lt s.last s.first) → (ms : List Member) (q : SetPhase) → ShowsPart p q → HasMembers old ms → HasMembers new (ms ++ ended_members q b)
one_within old new p s b e bytes back ms q sh h =
    let one = one_ends (ended_span p b) s (ended_members q b) e (ends_as p q b sh) in
    subst (λ (w : List Member). HasMembers new (ms ++ w)) (sym one.is) (member_added old new s ms one.member h one.span bytes back)

pub none_within : (set : SetSoFar) (p : SetPart) (b : ℕ) → ended_span p b ≡ None → (ms : List Member) (q : SetPhase) → ShowsPart p q → HasMembers set ms → HasMembers set (ms ++ ended_members q b)
none_within set p b e ms q sh h = subst (λ (w : List Member). HasMembers set (ms ++ w)) (sym (none_ends (ended_span p b) (ended_members q b) e (ends_as p q b sh))) (subst (HasMembers set) (sym (append-nil ms)) h)

pub not_in_set : (w : Wait) → ((n e : Bool) (p : SetPart) (from : ℕ) → w ≡ waits.InSet n e p from → ⊥) → IsNotInSet w
unfolding IsNotInSet
not_in_set waits.Ready h = tt
not_in_set (waits.After part) h = tt
not_in_set (waits.Turned r) h = tt
not_in_set (waits.InEscape e from) h = tt
not_in_set (waits.InSet n e p from) h = h n e p from refl
not_in_set (waits.InCount part c brace) h = tt
