-- What some codes agree on.
use Rattle.std.proofs.Common.{◌≡◌, ℕ, zero, suc, ◌<◌, ◌≤◌, ◌+◌, ◌⊎◌, ⊎_elim, List, [], ◌∷◌, ◌++◌, length, take, drop, get_or, refl, sym, ap, subst, ◌∙◌, append_assoc, length-append, arith, All}
use Rattle.std.proofs.lemmas.List.{take_at, take-append-drop, length-take-le, get_or_append_left}
use Rattle.std.proofs.lemmas.List.Elements.{All-nil, All-cons, All-head, All-tail, All-weaker, All-append, All-get_or}
use Rattle.kex_code.specs.declared.symbol.Symbol.{Symbol}
use Rattle.kex_code.specs.declared.symbol.Symbol.TheVariants.{L}
use Rattle.kex_code.specs.Codes.{Begins}
use Rattle.kex_code.specs.Prefixes.{IsCommonLength}

begins_begins : (a b c : List Symbol) → Begins b a → Begins c b → Begins c a
begins_begins a b c (x, e) (y, f) = (x ++ y, f ∙ ap (λ z. z ++ y) e ∙ append_assoc a x y)

begins_take : (n : ℕ) (c : List Symbol) → Begins c (take n c)
begins_take n c = (drop n c, sym (take-append-drop n c))

begins_long : (a c : List Symbol) → Begins c a → length a ≤ length c
begins_long a c (x, e) = let l : length c ≡ length a + length x = ap length e ∙ length-append a x in omega arith

-- a front is what is taken
front_is : (a c : List Symbol) → Begins c a → take (length a) c ≡ a
front_is a c (x, e) = ap (λ z. take (length a) z) e ∙ take_at a x (length a) refl

-- a front that is no longer is one of what is taken too
begins_taken : (n : ℕ) (a c : List Symbol) → length a ≤ n → Begins c a → Begins (take n c) a
begins_taken n a c le b = subst (λ z. Begins (take n c) z) (take_take (length a) n c le ∙ front_is a c b) (begins_take (length a) (take n c))
  where
    take_take : (m n : ℕ) (c : List Symbol) → m ≤ n → take m (take n c) ≡ take m c
    take_take zero n c le = refl
    take_take (suc m) zero c le = absurd (omega arith)
    take_take (suc m) (suc n) [] le = refl
    take_take (suc m) (suc n) (x ∷ c) le = ap (λ z. x ∷ z) (take_take m n c (omega arith))

at_front : (n : ℕ) (a c : List Symbol) → n < length a → Begins c a → get_or c n L ≡ get_or a n L
at_front n a c lt (x, e) = ap (λ z. get_or z n L) e ∙ get_or_append_left a x L n lt

less_or : (m n : ℕ) → (m ≤ n) ⊎ (n < m)
less_or m n = grind arith

-- n is the greatest where one of two ends or they differ
pub two_agree : (a b : List Symbol) (n : ℕ) → n ≤ length a → n ≤ length b → take n a ≡ take n b → (n < length a → n < length b → get_or a n L ≡ get_or b n L → ⊥) → IsCommonLength (a ∷ b ∷ []) n
two_agree a b n la lb same apart = record {
  agree = (take n a, length-take-le n a la, All-cons (λ c. Begins c (take n a)) a (b ∷ []) (begins_take n a) (All-cons (λ c. Begins c (take n a)) b [] (subst (λ z. Begins b z) (sym same) (begins_take n b)) (All-nil (λ c. Begins c (take n a)))));
  greatest = λ m (front, long, all). ⊎_elim (λ le. le) (λ lt.
      let ba : Begins a front = All-head (λ c. Begins c front) a (b ∷ []) all in
      let bb : Begins b front = All-head (λ c. Begins c front) b [] (All-tail (λ c. Begins c front) a (b ∷ []) all) in
      let wa : length front ≤ length a = begins_long front a ba in
      let wb : length front ≤ length b = begins_long front b bb in
      absurd (apart (omega arith) (omega arith) (at_front n front a (omega arith) ba ∙ sym (at_front n front b (omega arith) bb)))) (less_or m n);
}

pub front_fits : (a b : List Symbol) (n k : ℕ) → IsCommonLength (take n a ∷ b ∷ []) k → k ≤ length a
front_fits a b n k h =
    let (f, fk, fs) = h.agree in
    let l : length f ≤ length (take n a) = begins_long f (take n a) (All-head (λ z. Begins z f) (take n a) (b ∷ []) fs) in
    let t : length (take n a) ≤ length a = begins_long (take n a) a (begins_take n a) in
    omega arith

-- with one code more
pub more_agree : (first c : List Symbol) (codes : List (List Symbol)) (n k : ℕ) → IsCommonLength (first ∷ codes) n → IsCommonLength (take n first ∷ c ∷ []) k → IsCommonLength (first ∷ (codes ++ c ∷ [])) k
more_agree first c codes n k h i =
    let (g, gn, gs) = h.agree in
    let (f, fk, fs) = i.agree in
    let P : List Symbol → Type 0 = λ z. Begins z f in
    let of_first : Begins first g = All-head (λ z. Begins z g) first codes gs in
    let taken : take n first ≡ g = ap (λ z. take z first) (sym gn) ∙ front_is g first of_first in
    let inner : Begins g f = subst P taken (All-head P (take n first) (c ∷ []) fs) in
    let of_c : Begins c f = All-head P c [] (All-tail P (take n first) (c ∷ []) fs) in
    let all_before : All P (first ∷ codes) = All-weaker (λ z. Begins z g) P (λ z b. begins_begins f g z inner b) (first ∷ codes) gs in
    record {
      agree = (f, fk, All-append P (first ∷ codes) (c ∷ []) all_before (All-cons P c [] of_c (All-nil P)));
      greatest = λ m (front, long, all).
          let Q : List Symbol → Type 0 = λ z. Begins z front in
          let before : All Q (first ∷ codes) = front_all Q (first ∷ codes) (c ∷ []) all in
          let le : m ≤ n = h.greatest m (front, long, before) in
          let ll : length front ≤ n = omega arith in
          i.greatest m (front, long, All-cons Q (take n first) (c ∷ []) (begins_taken n front first ll (All-head Q first codes before)) (back_all Q (first ∷ codes) (c ∷ []) all));
    }
  where
    front_all : {X : Type 0} (Q : X → Type 0) (xs ys : List X) → All Q (xs ++ ys) → All Q xs
    front_all Q [] ys h = All-nil Q
    front_all Q (x ∷ xs) ys h = All-cons Q x xs (All-head Q x (xs ++ ys) h) (front_all Q xs ys (All-tail Q x (xs ++ ys) h))

    back_all : {X : Type 0} (Q : X → Type 0) (xs ys : List X) → All Q (xs ++ ys) → All Q ys
    back_all Q [] ys h = h
    back_all Q (x ∷ xs) ys h = back_all Q xs ys (All-tail Q x (xs ++ ys) h)

-- the first code is among the codes
pub all_agree : (codes : List (List Symbol)) (d : List Symbol) (n : ℕ) → 0 < length codes → IsCommonLength (get_or codes 0 d ∷ codes) n → IsCommonLength codes n
all_agree codes d n some h = record {
  agree = let (g, gn, gs) = h.agree in (g, gn, All-tail (λ z. Begins z g) (get_or codes 0 d) codes gs);
  greatest = λ m (front, long, all). h.greatest m (front, long, All-cons (λ z. Begins z front) (get_or codes 0 d) codes (All-get_or (λ z. Begins z front) codes 0 d some all) all);
}
