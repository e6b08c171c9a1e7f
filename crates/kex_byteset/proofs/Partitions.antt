-- Classes that are numbered byte by byte.
use Rattle.std.proofs.Common.{◌≡◌, ℕ, zero, suc, ◌+◌, ◌<◌, ◌≤◌, Bool, List, [], ◌∷◌, ◌++◌, Option, Some, None, length, get_or, set, max, replicate, take, refl, sym, ap, ◌∙◌, subst, inl, inr, ⊎_elim, ◌⊎◌, arith}
use Rattle.std.proofs.Math.Nat.{le-max_left, le-max_right, max-zero, max_comm, max-le}
use Rattle.std.proofs.Math.Seq.{get_or-append_seam}
use Rattle.std.proofs.lemmas.Bool.{cases_eq}
use Rattle.std.proofs.lemmas.List.{length-set, get_or-set_same, get_or-set_other, length-replicate, get_or-replicate, length-append, get_or_append_left, take_more}
use Rattle.std.proofs.lemmas.List.Elements.{All-append, All-cons, All-nil, All-get_or, All-from_get_or}
use Rattle.kex_byteset.specs.Sets.{has}
use Rattle.kex_byteset.specs.Classes.{class_at, class_count, AreAlike, IsNumbered, IsRefinedBy, new_number, number_or, count_with}

-- the first n bytes have their new classes, and `count` is the number of these
pub record IsBegun (old : List ℕ) (s : List Bool) (new : List ℕ) (n count : ℕ) : Type 0 where
  pub long : length new ≡ 256
  pub few : count ≤ n
  pub below : (i : ℕ) → i < n → class_at new i < count
  pub met : (c : ℕ) → c < count → (i : ℕ) × (i < n) × (class_at new i ≡ c)
  pub least : (i c : ℕ) → i < n → c < class_at new i → (a : ℕ) × (a < i) × (class_at new a ≡ c)
  pub same : (i j : ℕ) → i < n → j < n → class_at new i ≡ class_at new j → (class_at old i ≡ class_at old j) × (has s i ≡ has s j)
  pub apart : (i j : ℕ) → i < n → j < n → class_at old i ≡ class_at old j → has s i ≡ has s j → class_at new i ≡ class_at new j

-- the numbers that were given to old classes, of the first n bytes that are in the set (or aren't)
pub record AreNumbers (old : List ℕ) (s : List Bool) (new : List ℕ) (n : ℕ) (v : Bool) (numbers : List (Option ℕ)) : Type 0 where
  pub long : length numbers ≡ 256
  pub some : (c m : ℕ) → new_number numbers c ≡ Some m → (i : ℕ) × (i < n) × (class_at old i ≡ c) × (has s i ≡ v) × (class_at new i ≡ m)
  pub none : (c : ℕ) → c < 256 → new_number numbers c ≡ None → (i : ℕ) → i < n → class_at old i ≡ c → has s i ≡ v → ⊥

under : (i n : ℕ) → i < n + 1 → (i < n) ⊎ (i ≡ n)
under i n h = grind arith

-- ---- one byte more

module _ (old : List ℕ) (s : List Bool) (new : List ℕ) (n m : ℕ) (long : length new ≡ 256) (in_range : n < 256) where
  abbrev more : List ℕ
  more = set new n m

  here : class_at more n ≡ m
  here = get_or-set_same new n m 0 (omega (arith, long))

  before : (i : ℕ) → i < n → class_at more i ≡ class_at new i
  before i lt = get_or-set_other new n i m 0 (omega arith)

  -- what class m has to meet as the next byte's, where `now` is the number of classes with it
  record Continues (count now : ℕ) : Type 0 where
    fits : m < now
    grows : count ≤ now
    few : now ≤ n + 1
    met : (c : ℕ) → c < now → (c < count) ⊎ (c ≡ m)
    least : (c : ℕ) → c < m → (a : ℕ) × (a < n) × (class_at new a ≡ c)
    same : (i : ℕ) → i < n → class_at new i ≡ m → (class_at old i ≡ class_at old n) × (has s i ≡ has s n)
    apart : (i : ℕ) → i < n → class_at old i ≡ class_at old n → has s i ≡ has s n → class_at new i ≡ m

  goes_on : (count now : ℕ) → IsBegun old s new n count → Continues count now → IsBegun old s more (n + 1) now
  goes_on count now b k = record {
    long = length-set new n m ∙ long;
    few = k.few;
    below = λ i lt. ⊎_elim (λ h. omega (arith, before i h, b.below i h, k.grows)) (λ e. omega (arith, ap (class_at more) e, here, k.fits)) (under i n lt);
    met = λ c lt. ⊎_elim (λ h. let r = b.met c h in (r.0, omega (arith, r.1), before r.0 r.1 ∙ r.2)) (λ e. (n, omega arith, here ∙ sym e)) (k.met c lt);
    least = λ i c lt h. ⊎_elim
        (λ l. let r = b.least i c l (omega (arith, h, before i l)) in (r.0, r.1, before r.0 (omega (arith, r.1, l)) ∙ r.2))
        (λ e. let r = k.least c (omega (arith, h, ap (class_at more) e, here)) in (r.0, omega (arith, r.1, e), before r.0 r.1 ∙ r.2))
        (under i n lt);
    same = λ i j li lj e. ⊎_elim
        (λ hi. ⊎_elim
        (λ hj. b.same i j hi hj (sym (before i hi) ∙ e ∙ before j hj))
        (λ ej. let r = k.same i hi (sym (before i hi) ∙ e ∙ ap (class_at more) ej ∙ here) in (r.0 ∙ ap (class_at old) (sym ej), r.1 ∙ ap (has s) (sym ej)))
        (under j n lj))
        (λ ei. ⊎_elim
        (λ hj. let r = k.same j hj (sym (before j hj) ∙ sym e ∙ ap (class_at more) ei ∙ here) in (ap (class_at old) ei ∙ sym r.0, ap (has s) ei ∙ sym r.1))
        (λ ej. (ap (class_at old) (ei ∙ sym ej), ap (has s) (ei ∙ sym ej)))
        (under j n lj))
        (under i n li);
    apart = λ i j li lj e d. ⊎_elim
        (λ hi. ⊎_elim
        (λ hj. before i hi ∙ b.apart i j hi hj e d ∙ sym (before j hj))
        (λ ej. before i hi ∙ k.apart i hi (e ∙ ap (class_at old) ej) (d ∙ ap (has s) ej) ∙ sym here ∙ ap (class_at more) (sym ej))
        (under j n lj))
        (λ ei. ⊎_elim
        (λ hj. ap (class_at more) ei ∙ here ∙ sym (k.apart j hj (sym e ∙ ap (class_at old) ei) (sym d ∙ ap (has s) ei)) ∙ sym (before j hj))
        (λ ej. ap (class_at more) (ei ∙ sym ej))
        (under j n lj))
        (under i n li);
  }

  -- the table that the byte's number was put into, and the other
  abbrev added : List (Option ℕ) → List (Option ℕ)
  added numbers = set numbers (class_at old n) (Some m)

  pub added_numbers : (numbers : List (Option ℕ)) → class_at old n < 256 → AreNumbers old s new n (has s n) numbers → AreNumbers old s more (n + 1) (has s n) (added numbers)
  added_numbers numbers lt t = record {
    long = length-set numbers (class_at old n) (Some m) ∙ t.long;
    some = λ c k e. elim (cases_eq c (class_at old n)) [
      | inl q ↦ (n, omega arith, sym q, refl, here ∙ own c k q e)
      | inr d ↦ (let r = t.some c k (sym (get_or-set_other numbers (class_at old n) c (Some m) None d) ∙ e) in (r.0, omega (arith, r.1), r.2, r.3, before r.0 r.1 ∙ r.4))
    ];
    none = λ c cl e i li ec hi. elim (cases_eq c (class_at old n)) [
      | inl q ↦ absurd (some_here c q e)
      | inr d ↦ ⊎_elim (λ l. t.none c cl (sym (get_or-set_other numbers (class_at old n) c (Some m) None d) ∙ e) i l ec hi) (λ q. d (sym ec ∙ ap (class_at old) q)) (under i n li)
    ];
  }
    where
      at_own : (c : ℕ) → c ≡ class_at old n → new_number (added numbers) c ≡ Some m
      at_own c q = ap (new_number (added numbers)) q ∙ get_or-set_same numbers (class_at old n) (Some m) None (omega (arith, lt, t.long))

      own : (c k : ℕ) → c ≡ class_at old n → new_number (added numbers) c ≡ Some k → m ≡ k
      own c k q e = let p : Some m ≡ Some k = sym (at_own c q) ∙ e in cc

      some_here : (c : ℕ) → c ≡ class_at old n → new_number (added numbers) c ≡ None → ⊥
      some_here c q e = let p : Some m ≡ None = sym (at_own c q) ∙ e in cc

  pub other_numbers : (v : Bool) (numbers : List (Option ℕ)) → (has s n ≡ v → ⊥) → AreNumbers old s new n v numbers → AreNumbers old s more (n + 1) v numbers
  other_numbers v numbers differs t = record {
    long = t.long;
    some = λ c k e. let r = t.some c k e in (r.0, omega (arith, r.1), r.2, r.3, before r.0 r.1 ∙ r.4);
    none = λ c cl e i li ec hi. ⊎_elim (λ l. t.none c cl e i l ec hi) (λ q. differs (ap (has s) (sym q) ∙ hi)) (under i n li);
  }

module _ (old : List ℕ) (s : List Bool) (new : List ℕ) (n count : ℕ) (b : IsBegun old s new n count) (in_range : n < 256) where
  found : (m i : ℕ) → i < n → class_at old i ≡ class_at old n → has s i ≡ has s n → class_at new i ≡ m → Continues old s new n m b.long in_range count count
  found m i lt e d at = record {
    fits = omega (arith, b.below i lt, at);
    grows = omega arith;
    few = omega (arith, b.few);
    met = λ c h. inl h;
    least = λ c h. let r = b.least i c lt (omega (arith, h, at)) in (r.0, omega (arith, r.1, lt), r.2);
    same = λ j lj f. let r = b.same j i lj lt (f ∙ sym at) in (r.0 ∙ e, r.1 ∙ d);
    apart = λ j lj f g. b.apart j i lj lt (f ∙ sym e) (g ∙ sym d) ∙ at;
  }

  fresh : ((i : ℕ) → i < n → class_at old i ≡ class_at old n → has s i ≡ has s n → ⊥) → Continues old s new n count b.long in_range count (count + 1)
  fresh none = record {
    fits = omega arith;
    grows = omega arith;
    few = omega (arith, b.few);
    met = λ c h. under c count h;
    least = λ c h. b.met c h;
    same = λ j lj f. absurd (omega (arith, b.below j lj, f));
    apart = λ j lj f g. absurd (none j lj f g);
  }

  -- the byte's number is that of its old class, or the next
  pub numbered_on : (numbers : List (Option ℕ)) → class_at old n < 256 → AreNumbers old s new n (has s n) numbers → IsBegun old s (set new n (number_or count (new_number numbers (class_at old n)))) (n + 1) (count_with count (new_number numbers (class_at old n)))
  numbered_on numbers lt t = by (new_number numbers (class_at old n)) refl
    where
      by : (x : Option ℕ) → new_number numbers (class_at old n) ≡ x → IsBegun old s (set new n (number_or count x)) (n + 1) (count_with count x)
      by None e = goes_on old s new n count b.long in_range count (count + 1) b (fresh (λ i li ec hi. t.none (class_at old n) lt e i li ec hi))
      by (Some m) e = let r = t.some (class_at old n) m e in goes_on old s new n m b.long in_range count count b (found m r.0 r.1 r.2 r.3 r.4)

  -- the byte has its number, from the table of the bytes that are in the set as it is, or aren't
  pub next_byte : (numbers others now_numbers : List (Option ℕ)) (v w : Bool) (m now : ℕ) → has s n ≡ v → (v ≡ w → ⊥) → class_at old n < 256 → AreNumbers old s new n v numbers → AreNumbers old s new n w others
      → m ≡ number_or count (new_number numbers (class_at old n)) → now_numbers ≡ set numbers (class_at old n) (Some m) → now ≡ count_with count (new_number numbers (class_at old n))
      → IsBegun old s (set new n m) (n + 1) now × AreNumbers old s (set new n m) (n + 1) v now_numbers × AreNumbers old s (set new n m) (n + 1) w others
  next_byte numbers others now_numbers v w m now e differs lt t u is puts counts =
      let own = subst (λ x. AreNumbers old s new n x numbers) (sym e) t in (
        rw (is, counts) (numbered_on numbers lt own),
        rw puts (subst (λ x. AreNumbers old s (set new n m) (n + 1) x (set numbers (class_at old n) (Some m))) e (added_numbers old s new n m b.long in_range numbers lt own)),
        other_numbers old s new n m b.long in_range w others (λ q. differs (sym e ∙ q)) u,
      )

-- ---- before the first byte, and after the last

pub begun_none : (old : List ℕ) (s : List Bool) → IsBegun old s (replicate 256 0) 0 0
begun_none old s = record {
  long = length-replicate {A = ℕ} 256 0;
  few = omega arith;
  below = λ i lt. absurd (omega arith);
  met = λ c lt. absurd (omega arith);
  least = λ i c lt h. absurd (omega arith);
  same = λ i j lt h e. absurd (omega arith);
  apart = λ i j lt h e d. absurd (omega arith);
}

pub no_numbers : (old : List ℕ) (s : List Bool) (new : List ℕ) (v : Bool) → AreNumbers old s new 0 v (replicate 256 None)
no_numbers old s new v = record {
  long = length-replicate {A = Option ℕ} 256 None;
  some = λ c m e. let p : Some m ≡ None = sym e ∙ none_at c in absurd (no_some m p);
  none = λ c cl e i lt ec hi. omega arith;
}
  where
    none_in : (k c : ℕ) → new_number (replicate k None) c ≡ None
    none_in zero c = refl
    none_in (suc k) zero = refl
    none_in (suc k) (suc c) = none_in k c

    none_at : (c : ℕ) → new_number (replicate 256 None) c ≡ None
    none_at c = none_in 256 c

    no_some : (m : ℕ) → Some m ≡ None → ⊥
    no_some m p = cc

pub numbered : (old new : List ℕ) (s : List Bool) (count : ℕ) → IsBegun old s new 256 count → IsNumbered new
numbered old new s count b = record { long = b.long; least = b.least }

pub refined : (old new : List ℕ) (s : List Bool) (sets : List (List Bool)) (count : ℕ) → IsBegun old s new 256 count → IsRefinedBy old sets → IsRefinedBy new (sets ++ s ∷ [])
refined old new s sets count b r = record {
  numbered = numbered old new s count b;
  alike = λ i j li lj. (
    (λ e. let q = b.same i j li lj e in All-append (λ x. has x i ≡ has x j) sets (s ∷ []) ((r.alike i j li lj).0 q.0) (All-cons (λ x. has x i ≡ has x j) s [] q.1 (All-nil (λ x. has x i ≡ has x j)))),
    (λ h. let q = split sets i j h in b.apart i j li lj ((r.alike i j li lj).1 q.0) q.1),
  );
}
  where
    split : (xs : List (List Bool)) (i j : ℕ) → AreAlike (xs ++ s ∷ []) i j → AreAlike xs i j × (has s i ≡ has s j)
    split xs i j h =
        let P : List Bool → Type 0 = λ x. has x i ≡ has x j in (
          All-from_get_or P xs [] (λ k lt. subst P (get_or_append_left xs (s ∷ []) [] k lt) (All-get_or P (xs ++ s ∷ []) k [] (omega (arith, length-append xs (s ∷ []), lt)) h)),
          subst P (get_or-append_seam xs s [] []) (All-get_or P (xs ++ s ∷ []) (length xs) [] (omega (arith, length-append xs (s ∷ []))) h),
        )

pub one_class : IsRefinedBy (replicate 256 0) []
one_class = record {
  numbered = record { long = length-replicate {A = ℕ} 256 0; least = λ b c lt h. absurd (omega (arith, h, get_or-replicate {A = ℕ} 256 b 0 0 lt)) };
  alike = λ a b la lb. ((λ _. All-nil (λ x. has x a ≡ has x b)), (λ _. get_or-replicate {A = ℕ} 256 a 0 0 la ∙ sym (get_or-replicate {A = ℕ} 256 b 0 0 lb)));
}

-- ---- how many classes there are

pub below_count : (classes : List ℕ) (b : ℕ) → b < length classes → class_at classes b < class_count classes
below_count [] b lt = absurd (omega arith)
below_count (c ∷ cs) zero lt = omega (arith, le-max_left (suc c) (class_count cs))
below_count (c ∷ cs) (suc b) lt = omega (arith, below_count cs b (omega arith), le-max_right (suc c) (class_count cs))

max_assoc : (a b c : ℕ) → max (max a b) c ≡ max a (max b c)
max_assoc a b c =
    let l : max (max a b) c ≤ max a (max b c) = max-le (max-le (le-max_left a (max b c)) (omega (arith, le-max_left b c, le-max_right a (max b c)))) (omega (arith, le-max_right b c, le-max_right a (max b c))) in
    let r : max a (max b c) ≤ max (max a b) c = max-le (omega (arith, le-max_left a b, le-max_left (max a b) c)) (max-le (omega (arith, le-max_right a b, le-max_left (max a b) c)) (le-max_right (max a b) c)) in
    omega (arith, l, r)

pub count_push : (xs : List ℕ) (c : ℕ) → class_count (xs ++ c ∷ []) ≡ max (class_count xs) (suc c)
count_push [] c = max-zero (suc c) ∙ sym (max_comm zero (suc c) ∙ max-zero (suc c))
count_push (x ∷ xs) c = ap (max (suc x)) (count_push xs c) ∙ sym (max_assoc (suc x) (class_count xs) (suc c))

pub count_more : (xs : List ℕ) (k : ℕ) → k < length xs → class_count (take (k + 1) xs) ≡ max (class_count (take k xs)) (get_or xs k 0 + 1)
count_more xs k lt = ap class_count (take_more xs k 0 lt) ∙ count_push (take k xs) (get_or xs k 0) ∙ ap (max (class_count (take k xs))) (suc_one (get_or xs k 0))
  where
    suc_one : (n : ℕ) → suc n ≡ n + 1
    suc_one n = omega arith
