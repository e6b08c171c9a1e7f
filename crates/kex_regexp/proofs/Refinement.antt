-- The code's values of escapes, sets and counts follow the machine's.
use Rattle.std.proofs.Common.{◌≡◌, ℕ, ◌+◌, ◌*◌, ◌-◌, Bool, true, false, cond, List, [], ◌∷◌, ◌++◌, Some, min, refl, sym, ap, subst, arith}
use Rattle.std.specs.Prelude.{◌==◌}
use Rattle.std.proofs.lemmas.Bool.{false≢true}
use Rattle.kex_regexp.specs.declared.escapes.EscapeOutcome.{EscapeOutcome}
use Rattle.kex_regexp.specs.declared.escapes.EscapeOutcome.TheVariants as escapes
use Rattle.kex_regexp.specs.declared.sets.SetPart.{SetPart}
use Rattle.kex_regexp.specs.declared.sets.SetPart.TheVariants as parts
use Rattle.kex_regexp.specs.declared.counts.Count.{Count}
use Rattle.kex_regexp.specs.declared.counts.Count.TheVariants as counts
use Rattle.kex_regexp.specs.Grammar.{is_digit, is_end, is_hex, is_punctuation, End, Itself, EscapedEnd, Member, Single, Range}
use Rattle.kex_tokens.specs.Values.{decimal_value, number_behind}
use Rattle.kex_regexp.specs.declared.counts.CountOutcome.{CountOutcome}
use Rattle.kex_regexp.specs.Postfixes.{CountSign, Digits, CommaSign, CloseSign, NoSign, count_by, low, high}
use Rattle.kex_regexp.specs.Values.{escaped_byte, end_byte}
use Rattle.kex_regexp.specs.Machine.{Escaping, Begun, HexBegun, HexOne, EscapeStep, EscapeOn, EscapeRead, EscapeWrong, escape_step, SetPhase, AtStart, Between, HasEnd, HasDash, InFirst, InLast, begin_member, between_step, in_first, in_last, set_step, Counting, Opened, Low, LowComma, LowHigh, OnlyComma, High, CountStep, count_sign, count_step}
use Rattle.kex_regexp.specs.Holding.{is_empty, capped_count, ShowsEscape, ShowsPart, ShowsSet, ShowsCount, ShowsCountStep}
use Rattle.kex_regexp.specs.Outcomes.{escape_outcome, begin_outcome, between_outcome, first_outcome, last_outcome, set_outcome, capped_number, count_outcome}

pub by_both : {A B : Type 0} (R : A → B → Type 0) (b : Bool) (x y : A) (u v : B) → R x u → R y v → R (cond b x y) (cond b u v)
by_both R true x y u v f g = f
by_both R false x y u v f g = g

pub escape_refines : (e : Escaping) (b : ℕ) → ShowsEscape (escape_outcome e b) (escape_step e b)
unfolding escape_outcome escape_step ShowsEscape escaped_byte
escape_refines Begun b =
    by_both ShowsEscape (b == 110) _ _ _ _ refl (by_both ShowsEscape (b == 116) _ _ _ _ refl (by_both ShowsEscape (b == 114) _ _ _ _ refl
    (by_both ShowsEscape (b == 120) _ _ _ _ refl (by_both ShowsEscape (is_punctuation b) _ _ _ _ refl tt))))
escape_refines HexBegun b = by_both ShowsEscape (is_hex b) _ _ _ _ refl tt
escape_refines (HexOne high) b = by_both ShowsEscape (is_hex b) _ _ _ _ refl tt

pub begin_refines : (n e : Bool) (ms : List Member) (b : ℕ) → e ≡ is_empty ms → ShowsSet (begin_outcome n e b) (begin_member n ms b)
unfolding begin_outcome begin_member ShowsSet ShowsPart end_byte
begin_refines n e ms b h = by_both ShowsSet (is_end b) _ _ _ _ (refl, h, refl) (by_both ShowsSet (b == 92) _ _ _ _ (refl, h, refl) tt)

pub between_refines : (n e : Bool) (ms : List Member) (b : ℕ) → e ≡ is_empty ms → ShowsSet (between_outcome n e b) (between_step n ms b)
unfolding between_outcome between_step ShowsSet
between_refines n true [] b h = begin_refines n true [] b h
between_refines n false [] b h = absurd (false≢true h)
between_refines n true (m ∷ ms) b h = absurd (false≢true (sym h))
between_refines n false (m ∷ ms) b h = by_both ShowsSet (b == 93) _ _ _ _ refl (begin_refines n false (m ∷ ms) b h)

pub more_members : (ms : List Member) (m : Member) → false ≡ is_empty (ms ++ m ∷ [])
more_members [] m = refl
more_members (n ∷ ms) m = refl

pub first_refines : (n e : Bool) (ms : List Member) (x : EscapeOutcome) (t : EscapeStep) → e ≡ is_empty ms → ShowsEscape x t → ShowsSet (first_outcome n e x) (in_first n ms t)
unfolding first_outcome in_first ShowsSet ShowsPart ShowsEscape end_byte
first_refines n e ms (escapes.On f) (EscapeOn g) h s = (refl, h, s)
first_refines n e ms (escapes.On f) (EscapeRead g) h s = absurd s
first_refines n e ms (escapes.On f) EscapeWrong h s = absurd s
first_refines n e ms (escapes.Read f) (EscapeOn g) h s = absurd s
first_refines n e ms (escapes.Read f) (EscapeRead g) h s = (refl, h, s)
first_refines n e ms (escapes.Read f) EscapeWrong h s = absurd s
first_refines n e ms escapes.Wrong (EscapeOn g) h s = absurd s
first_refines n e ms escapes.Wrong (EscapeRead g) h s = absurd s
first_refines n e ms escapes.Wrong EscapeWrong h s = tt

pub last_refines : (n e : Bool) (ms : List Member) (f : ℕ) (end : End) (x : EscapeOutcome) (t : EscapeStep) → e ≡ is_empty ms → f ≡ end_byte end → ShowsEscape x t → ShowsSet (last_outcome n e f x) (in_last n ms end t)
unfolding last_outcome in_last ShowsSet ShowsPart ShowsEscape
last_refines n e ms f end (escapes.On g) (EscapeOn k) h r s = (refl, h, (r, s))
last_refines n e ms f end (escapes.On g) (EscapeRead k) h r s = absurd s
last_refines n e ms f end (escapes.On g) EscapeWrong h r s = absurd s
last_refines n e ms f end (escapes.Read g) (EscapeOn k) h r s = absurd s
last_refines n e ms f end (escapes.Read g) (EscapeRead k) h r s = (refl, more_members ms (Range end (EscapedEnd k)), tt)
last_refines n e ms f end (escapes.Read g) EscapeWrong h r s = absurd s
last_refines n e ms f end escapes.Wrong (EscapeOn k) h r s = absurd s
last_refines n e ms f end escapes.Wrong (EscapeRead k) h r s = absurd s
last_refines n e ms f end escapes.Wrong EscapeWrong h r s = tt

-- what a part of the code shows, by the machine's part
pub set_refines : (n e : Bool) (p : SetPart) (ms : List Member) (q : SetPhase) (b : ℕ) → e ≡ is_empty ms → ShowsPart p q → ShowsSet (set_outcome n e p b) (set_step n ms q b)
unfolding set_outcome set_step ShowsSet ShowsPart
set_refines n e parts.AtStart ms AtStart b h s = by_both ShowsSet (b == 94) _ _ _ _ (refl, h, tt) (between_refines n e ms b h)
set_refines n e parts.Between ms Between b h s = between_refines n e ms b h
set_refines n e (parts.HasEnd x) ms (HasEnd end) b h s = by_both ShowsSet (b == 45) _ _ _ _ (refl, h, s) (between_refines n false (ms ++ Single end ∷ []) b (more_members ms (Single end)))
set_refines n e (parts.HasDash x) ms (HasDash end) b h s =
    by_both ShowsSet (is_end b) _ _ _ _ (refl, more_members ms (Range end (Itself b)), tt) (by_both ShowsSet (b == 92) _ _ _ _ (refl, h, (s, refl)) tt)
set_refines n e (parts.InFirst x) ms (InFirst y) b h s = subst (λ (z : Escaping). ShowsSet (first_outcome n e (escape_outcome z b)) (in_first n ms (escape_step y b))) (sym s) (first_refines n e ms (escape_outcome y b) (escape_step y b) h (escape_refines y b))
set_refines n e (parts.InLast f x) ms (InLast end y) b h s = subst (λ (z : Escaping). ShowsSet (last_outcome n e f (escape_outcome z b)) (in_last n ms end (escape_step y b))) (sym s.1) (last_refines n e ms f end (escape_outcome y b) (escape_step y b) h s.0 (escape_refines y b))
set_refines n e _ ms _ b h s = absurd s

-- ---- counts

pub number_behind-more : (v : ℕ) (ds : List ℕ) (d : ℕ) → number_behind v (ds ++ d ∷ []) ≡ 10 * number_behind v ds + (d - 48)
unfolding number_behind
number_behind-more v [] d = refl
number_behind-more v (e ∷ ds) d = number_behind-more (10 * v + (e - 48)) ds d

pub held_arith : (v x y d : ℕ) → v ≡ min x 1001 → y ≡ 10 * x + d → min (10 * min v 1001 + d) 1001 ≡ min y 1001
held_arith v x y d e f = omega arith

pub held_more : (v : ℕ) (ds : List ℕ) (d : ℕ) → v ≡ capped_count (decimal_value ds) → capped_number v d ≡ capped_count (decimal_value (ds ++ d ∷ []))
unfolding capped_number
held_more v ds d e = held_arith v (decimal_value ds) (decimal_value (ds ++ d ∷ [])) (d - 48) e (number_behind-more 0 ds d)

pub held_first_digit : (d : ℕ) → capped_number 0 d ≡ capped_count (decimal_value (d ∷ []))
unfolding number_behind
held_first_digit d = held_more 0 [] d refl

-- what a byte makes of what the code holds shows what it makes of a count, whatever it is to one
pub by_signs : (f : CountSign → CountStep) (b : ℕ) (d c e n : CountOutcome) → ShowsCountStep d (f (Digits (b ∷ []))) → ShowsCountStep c (f CommaSign) → ShowsCountStep e (f CloseSign) → ShowsCountStep n (f NoSign) → ShowsCountStep (cond (is_digit b) d (cond (b == 44) c (cond (b == 125) e n))) (f (count_sign b))
unfolding count_sign
by_signs f b d c e n sd sc se sn = go (is_digit b) (b == 44) (b == 125)
  where
    go : (x y z : Bool) → ShowsCountStep (cond x d (cond y c (cond z e n))) (f (cond x (Digits (b ∷ [])) (cond y CommaSign (cond z CloseSign NoSign))))
    go true y z = sd
    go false true z = sc
    go false false true = se
    go false false false = sn

pub count_refines : (x : Count) (c : Counting) (b : ℕ) → ShowsCount x c → ShowsCountStep (count_outcome x b) (count_step c b)
unfolding count_outcome count_step ShowsCount ShowsCountStep low high
count_refines counts.Opened Opened b s = by_signs (count_by true Opened) b _ _ _ _ (held_first_digit b) tt tt tt
count_refines (counts.Low v) (Low n) b s = by_signs (count_by true (Low n)) b _ _ _ _ (held_more v n b s) s (s, ap Some s) tt
count_refines (counts.LowComma v) (LowComma n) b s = by_signs (count_by true (LowComma n)) b _ _ _ _ (s, held_first_digit b) tt (s, refl) tt
count_refines (counts.LowHigh v w) (LowHigh n m) b s = by_signs (count_by true (LowHigh n m)) b _ _ _ _ (s.0, held_more w m b s.1) tt (s.0, ap Some s.1) tt
count_refines counts.OnlyComma OnlyComma b s = by_signs (count_by true OnlyComma) b _ _ _ _ (held_first_digit b) tt tt tt
count_refines (counts.High w) (High m) b s = by_signs (count_by true (High m)) b _ _ _ _ (held_more w m b s) tt (refl, ap Some s) tt
count_refines _ _ b s = absurd s
