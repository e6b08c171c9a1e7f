-- What an answer on open input says holds on every continuation.
use Rattle.std.proofs.Common.{◌≡◌, ℕ, ◌≤◌, ◌<◌, Bool, true, false, List, [], ◌∷◌, ◌++◌, ⊎_elim, None, length, take, drop, refl, sym, ap, ap₂, subst, ◌∙◌, append_assoc, append-nil, length-append, length-take, take-append-drop, arith}
use Rattle.kex_code.specs.Codes.{Begins}
use Rattle.kex_model.specs.Answers.{Why, at_byte, at_end, at_limit, Answer, stopped_answer, LongestGood, Answers, bad_byte, too_long, cut_off, whole, still_open}
use Rattle.kex_model.proofs.Orders.{two_fronts}

pub empty_list : {A : Type 0} (xs : List A) → length xs ≡ 0 → xs ≡ []
empty_list [] e = refl
empty_list (x ∷ xs) e = absurd (omega arith)

-- of two fronts of one list the shorter begins the longer
pub shorter_front : {A : Type 0} (w a b : List A) → Begins w a → Begins w b → length a ≤ length b → Begins b a
shorter_front w a b p q le =
    ⊎_elim
    (λ r.
    let none : r.0 ≡ [] = empty_list r.0 (omega (arith, ap length r.1, length-append b r.0)) in
    ([], sym (append-nil a ∙ r.1 ∙ ap (λ z. b ++ z) none ∙ append-nil b)))
    (λ r. r)
    (two_fronts a b p.0 q.0 (sym p.1 ∙ q.1))

pub same_front : {A : Type 0} (w a b : List A) → Begins w a → Begins w b → length a ≡ length b → a ≡ b
same_front w a b p q e =
    let r = shorter_front w a b p q (omega arith) in
    let none : r.0 ≡ [] = empty_list r.0 (omega (arith, ap length r.1, length-append a r.0)) in
    sym (r.1 ∙ ap (λ z. a ++ z) none ∙ append-nil a)

front_take : {A : Type 0} (n : ℕ) (w : List A) → Begins w (take n w)
front_take n w = (drop n w, sym (take-append-drop n w))

refl_front : {A : Type 0} (w : List A) → Begins w w
refl_front w = ([], sym (append-nil w))

trans_front : {A : Type 0} (a b c : List A) → Begins c b → Begins b a → Begins c a
trans_front a b c p q = (q.0 ++ p.0, p.1 ∙ ap (λ z. z ++ p.0) q.1 ∙ append_assoc a q.0 p.0)

-- past its limit a text and a longer one have the same front
pub same_take : {A : Type 0} (n : ℕ) (w x : List A) → Begins x w → n < length w → take n w ≡ take n x
same_take n w x p lt = same_front x (take n w) (take n x) (trans_front (take n w) w x p (front_take n w)) (front_take n x) (omega (arith, length-take n w, length-take n x, ap length p.1, length-append w p.0))

pub take_front : {A : Type 0} (n : ℕ) (w x : List A) → Begins x w → Begins (take n x) (take n w)
take_front n w x p = shorter_front x (take n w) (take n x) (trans_front (take n w) w x p (front_take n w)) (front_take n x) (omega (arith, length-take n w, length-take n x, ap length p.1, length-append w p.0))

module _ (Good : List ℕ → Type 0) (Says : List ℕ → List ℕ → Type 0) (Parsed : List ℕ → Type 0) (Means : List ℕ → List ℕ → Type 0) where
  -- what is asked of a stage
  pub record Orderly : Type 0 where
    pub front : (w x : List ℕ) → Begins x w → Good x → Good w
    pub said : (w x s t : List ℕ) → Begins x w → Says w s → Says x t → Begins t s
    pub meant : (w x s t : List ℕ) → Begins x w → Says w s → Means x t → Begins t s
    pub good : (w s : List ℕ) → Means w s → Good w

  module _ (o : Orderly) where
    one_said : (w s t : List ℕ) → Says w s → Says w t → s ≡ t
    one_said w s t h h' =
        let p = o.said w w s t (refl_front w) h h' in
        let q = o.said w w t s (refl_front w) h' h in
        same_front t s t p (refl_front t) (omega (arith, ap length p.1, length-append s p.0, ap length q.1, length-append t q.0))

    -- the longest good fronts of a text that isn't good and of a longer one are one
    one_longest : (u y v z : List ℕ) → Begins y u → (Good u → ⊥) → LongestGood Good Says Parsed Means u v → LongestGood Good Says Parsed Means y z → v ≡ z
    one_longest u y v z p bad lv lz = ⊎_elim shorter longer (two_fronts z u lz.front.0 p.0 (sym lz.front.1 ∙ p.1))
      where
        v_in_y : Begins y v
        v_in_y = trans_front v u y p lv.front

        more : length v ≤ length z
        more = lz.longest v v_in_y lv.good

        -- u begins z
        shorter : Begins z u → v ≡ z
        shorter q = absurd (bad (o.front u z q lz.good))

        longer : Begins u z → v ≡ z
        longer q = let less : length z ≤ length v = lv.longest z q lz.good in same_front y v z v_in_y lz.front (omega (arith, more))

    long_good : (n : ℕ) (w x : List ℕ) → Begins x w → length x ≤ n → Good x → Good (take n w)
    long_good n w x p le g = o.front (take n w) x (trans_front (take n w) w x p (front_take n w)) g

    abbrev pub Stays : Answer → Answer → Type 0
    Stays a b = Begins b.text a.text × ((a.stop ≡ None → ⊥) → b ≡ a)

    same_stop : (s t : List ℕ) (i j : ℕ) (y : Why) → s ≡ t → i ≡ j → Stays (stopped_answer s i y) (stopped_answer t j y)
    same_stop s t i j y e f = (([], sym e ∙ sym (append-nil s)), λ h. ap₂ (λ p q. stopped_answer p q y) (sym e) (sym f))

    pub stays : (n : ℕ) {w x : List ℕ} {e : Bool} {a b : Answer} → Begins x w → Answers Good Says Parsed Means n w false a → Answers Good Says Parsed Means n x e b → Stays a b
    stays n {w = w} {x = x} p (bad_byte {text = s} v bad lv says) (bad_byte {text = t} z bad' lz says') =
        let same : v ≡ z = one_longest (take n w) (take n x) v z (take_front n w x p) bad lv lz in
        same_stop s t (length v) (length z) at_byte (one_said z s t (rw same at says) says') (ap length same)
    stays n {w = w} {x = x} p (bad_byte v bad lv says) (too_long lt good says') = absurd (bad (o.front (take n w) (take n x) (take_front n w x p) good))
    stays n {w = w} {x = x} p (bad_byte v bad lv says) (cut_off le good none says') = absurd (bad (long_good n w x p le good))
    stays n {w = w} {x = x} p (bad_byte v bad lv says) (whole {text = t} le means) = absurd (bad (long_good n w x p le (o.good x t means)))
    stays n {w = w} {x = x} p (bad_byte v bad lv says) (still_open le good says') = absurd (bad (long_good n w x p le good))
    stays n {w = w} {x = x} p (too_long lt good says) (bad_byte v bad lv says') = absurd (bad (subst Good (same_take n w x p lt) good))
    stays n {w = w} {x = x} p (too_long {text = s} lt good says) (too_long {text = t} lt' good' says') = same_stop s t n n at_limit (one_said (take n x) s t (subst (λ z. Says z s) (same_take n w x p lt) says) says') refl
    stays n {w = w} {x = x} p (too_long lt good says) (cut_off le good' none says') = absurd (omega (arith, ap length p.1, length-append w p.0))
    stays n {w = w} {x = x} p (too_long lt good says) (whole le means) = absurd (omega (arith, ap length p.1, length-append w p.0))
    stays n {w = w} {x = x} p (too_long lt good says) (still_open le good' says') = absurd (omega (arith, ap length p.1, length-append w p.0))
    stays n {w = w} {x = x} p (still_open {text = s} le good says) (bad_byte {text = t} v bad lv says') =
        let front : Begins (take n x) w = shorter_front x w (take n x) p (front_take n x) (omega (arith, length-take n x, ap length p.1, length-append w p.0)) in
        let fits : Begins v w = shorter_front (take n x) w v front lv.front (lv.longest w front good) in
        (o.said w v s t fits says says', λ h. absurd (h refl))
    stays n {w = w} {x = x} p (still_open {text = s} le good says) (too_long {text = t} lt good' says') =
        let front : Begins (take n x) w = shorter_front x w (take n x) p (front_take n x) (omega (arith, length-take n x)) in
        (o.said w (take n x) s t front says says', λ h. absurd (h refl))
    stays n {w = w} {x = x} p (still_open {text = s} le good says) (cut_off {text = t} le' good' none says') = (o.said w x s t p says says', λ h. absurd (h refl))
    stays n {w = w} {x = x} p (still_open {text = s} le good says) (whole {text = t} le' means) = (o.meant w x s t p says means, λ h. absurd (h refl))
    stays n {w = w} {x = x} p (still_open {text = s} le good says) (still_open {text = t} le' good' says') = (o.said w x s t p says says', λ h. absurd (h refl))

    -- a stage has one answer
    pub one_answer : (n : ℕ) {w : List ℕ} {e : Bool} {a b : Answer} → ((u s : List ℕ) → Means u s → Parsed u) → ((u s t : List ℕ) → Means u s → Means u t → s ≡ t) → Answers Good Says Parsed Means n w e a → Answers Good Says Parsed Means n w e b → a ≡ b
    one_answer n {w = w} parsed means (bad_byte {text = s} v bad lv h) (bad_byte {text = t} z bad' lz h') =
        let same : v ≡ z = one_longest (take n w) (take n w) v z (refl_front (take n w)) bad lv lz in
        ap₂ (λ x y. stopped_answer x y at_byte) (one_said z s t (subst (λ u. Says u s) same h) h') (ap length same)
    one_answer n {w = w} parsed means (bad_byte v bad lv h) (too_long lt good h') = absurd (bad good)
    one_answer n {w = w} parsed means (bad_byte v bad lv h) (cut_off le good none h') = absurd (bad (long_good n w w (refl_front w) le good))
    one_answer n {w = w} parsed means (bad_byte v bad lv h) (whole {text = t} le m) = absurd (bad (long_good n w w (refl_front w) le (o.good w t m)))
    one_answer n {w = w} parsed means (bad_byte v bad lv h) (still_open le good h') = absurd (bad (long_good n w w (refl_front w) le good))
    one_answer n {w = w} parsed means (too_long lt good h) (bad_byte v bad lv h') = absurd (bad good)
    one_answer n {w = w} parsed means (too_long {text = s} lt good h) (too_long {text = t} lt' good' h') = ap (λ x. stopped_answer x n at_limit) (one_said (take n w) s t h h')
    one_answer n {w = w} parsed means (too_long lt good h) (cut_off le good' none h') = absurd (omega arith)
    one_answer n {w = w} parsed means (too_long lt good h) (whole le m) = absurd (omega arith)
    one_answer n {w = w} parsed means (too_long lt good h) (still_open le good' h') = absurd (omega arith)
    one_answer n {w = w} parsed means (cut_off le good none h) (bad_byte v bad lv h') = absurd (bad (long_good n w w (refl_front w) le good))
    one_answer n {w = w} parsed means (cut_off le good none h) (too_long lt good' h') = absurd (omega arith)
    one_answer n {w = w} parsed means (cut_off {text = s} le good none h) (cut_off {text = t} le' good' none' h') = ap (λ x. stopped_answer x (length w) at_end) (one_said w s t h h')
    one_answer n {w = w} parsed means (cut_off le good none h) (whole {text = t} le' m) = absurd (none (parsed w t m))
    one_answer n {w = w} parsed means (whole {text = s} le m) (bad_byte v bad lv h') = absurd (bad (long_good n w w (refl_front w) le (o.good w s m)))
    one_answer n {w = w} parsed means (whole le m) (too_long lt good h') = absurd (omega arith)
    one_answer n {w = w} parsed means (whole {text = s} le m) (cut_off le' good none h') = absurd (none (parsed w s m))
    one_answer n {w = w} parsed means (whole {text = s} le m) (whole {text = t} le' m') = ap (λ x. record { text = x; ended = true; stop = None }) (means w s t m m')
    one_answer n {w = w} parsed means (still_open le good h) (bad_byte v bad lv h') = absurd (bad (long_good n w w (refl_front w) le good))
    one_answer n {w = w} parsed means (still_open le good h) (too_long lt good' h') = absurd (omega arith)
    one_answer n {w = w} parsed means (still_open {text = s} le good h) (still_open {text = t} le' good' h') = ap (λ x. record { text = x; ended = false; stop = None }) (one_said w s t h h')
