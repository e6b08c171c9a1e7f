-- Names by their numbers: lists of keys, seen as lists of names.
use Rattle.std.proofs.Common.{◌≡◌, ℕ, zero, suc, Bool, true, false, if◌then◌else◌, ◌||◌, List, [], ◌∷◌, ◌++◌, ◌⊎◌, inl, inr, Option, Some, refl, sym, ap, ◌∙◌, subst, add-one, ◌+◌, ◌<◌, length, arith, length-append, true≢false}
use Rattle.std.specs.Prelude.{slice_get, map, take}
use Rattle.std.proofs.Math.Seq.{take-suc}
use Rattle.std.proofs.lemmas.Option.{slice_get_within, get_or_from_slice_get}
use Rattle.std.specs.List.{list_any}
use Rattle.std.proofs.lemmas.Bool.{cases_lt}
use Rattle.std.proofs.lemmas.List.{append-nil}
use Rattle.kex_code.specs.Codes.{Begins, Different, IsAmong}

module _ {A B : Type 0} (f : A → B) (eq : A → A → Bool) (same : (x y : A) → eq x y ≡ true → f x ≡ f y) (own : (x y : A) → f x ≡ f y → eq x y ≡ true) where
  pub get_map : (xs : List A) (i : ℕ) (x : A) → slice_get xs i ≡ Some x → slice_get (map f xs) i ≡ Some (f x)
  get_map [] i x e = absurd cc
  get_map (y ∷ xs) zero x e = ap (λ (o : Option B). o) (cc)
  get_map (y ∷ xs) (suc i) x e = get_map xs i x e

  pub map_push : (xs : List A) (x : A) → map f (xs ++ x ∷ []) ≡ map f xs ++ f x ∷ []
  map_push [] x = refl
  map_push (y ∷ xs) x = ap (λ (ys : List B). f y ∷ ys) (map_push xs x)

  pub begins : (b : Bool) (xs : List A) (x : A) → Begins (map f (if b then xs else xs ++ x ∷ [])) (map f xs)
  begins true xs x = ([], sym (append-nil (map f xs)))
  begins false xs x = (f x ∷ [], map_push xs x)

  pub absent : (xs : List A) (x : A) → list_any (eq x) xs ≡ false → IsAmong (map f xs) (f x) → ⊥
  absent [] x e h = h
  absent (y ∷ xs) x e (inl h) = true≢false (sym (first_yes (list_any (eq x) xs)) ∙ e)
    where
      first_yes : (b : Bool) → (eq x y || b) ≡ true
      first_yes b = ap (λ (c : Bool). c || b) (own x y (sym h))
  absent (y ∷ xs) x e (inr h) = absent xs x (later (eq x y) (list_any (eq x) xs) e) h
    where
      later : (a b : Bool) → (a || b) ≡ false → b ≡ false
      later true b g = absurd (true≢false g)
      later false b g = g

pub get_mapped : {A B : Type 0} (f : A → B) (xs : List A) (i : ℕ) (x : A) → slice_get xs i ≡ Some x → slice_get (map f xs) i ≡ Some (f x)
get_mapped f [] i x e = absurd cc
get_mapped f (y ∷ xs) zero x e = cc
get_mapped f (y ∷ xs) (suc i) x e = get_mapped f xs i x e

pub take_get : {A : Type 0} (xs : List A) (i : ℕ) (x : A) → slice_get xs i ≡ Some x → take (i + 1) xs ≡ take i xs ++ x ∷ []
take_get xs i x e =
    let lt = slice_get_within xs i x e in
    ap (λ (k : ℕ). take k xs) (add-one i) ∙ take-suc xs i x lt ∙ ap (λ (y : _). take i xs ++ y ∷ []) (get_or_from_slice_get xs i x x e)

pub among_push : {B : Type 0} (xs : List B) (x y : B) → IsAmong (xs ++ x ∷ []) y → IsAmong xs y ⊎ (x ≡ y)
among_push [] x y (inl h) = inr h
among_push [] x y (inr h) = absurd h
among_push (z ∷ xs) x y (inl h) = inl (inl h)
among_push (z ∷ xs) x y (inr h) = elim (among_push xs x y h) [ inl g ↦ inl (inr g) | inr g ↦ inr g ]

pub different_push : {B : Type 0} (xs : List B) (x : B) → Different xs → (IsAmong xs x → ⊥) → Different (xs ++ x ∷ [])
different_push [] x d n = (λ h. h, tt)
different_push (y ∷ xs) x d n = (λ h. elim (among_push xs x y h) [ inl g ↦ d.0 g | inr g ↦ n (inl (sym g)) ], different_push xs x d.1 (λ h. n (inr h)))

module _ {A B : Type 0} (f : A → B) (eq : A → A → Bool) (same : (x y : A) → eq x y ≡ true → f x ≡ f y) (own : (x y : A) → f x ≡ f y → eq x y ≡ true) where
  not_before : (xs : List A) (x y : A) (i : ℕ) → list_any (eq x) xs ≡ false → slice_get (xs ++ x ∷ []) i ≡ Some y → eq x y ≡ true → i ≡ length xs
  not_before [] x y zero e g h = refl
  not_before [] x y (suc i) e g h = absurd cc
  not_before (z ∷ xs) x y zero e g h =
      let is : z ≡ y = cc in
      absurd (true≢false (sym (first_yes (eq x z) (list_any (eq x) xs) (ap (eq x) is ∙ h)) ∙ e))
    where
      first_yes : (a b : Bool) → a ≡ true → (a || b) ≡ true
      first_yes a b k = ap (λ (c : Bool). c || b) k
  not_before (z ∷ xs) x y (suc i) e g h = ap suc (not_before xs x y i (later (eq x z) (list_any (eq x) xs) e) g h)
    where
      later : (a b : Bool) → (a || b) ≡ false → b ≡ false
      later true b g = absurd (true≢false g)
      later false b g = g

  mapped_long : (xs : List A) → length (map f xs) ≡ length xs
  mapped_long [] = refl
  mapped_long (x ∷ xs) = ap suc (mapped_long xs)

  -- one name at most is new, and it is the one that was numbered
  pub one_new : (b : Bool) (xs : List A) (x y : A) (i : ℕ) → list_any (eq x) xs ≡ b → slice_get (if b then xs else xs ++ x ∷ []) i ≡ Some y → eq x y ≡ true → (k : ℕ) → k < length (map f (if b then xs else xs ++ x ∷ [])) → (k < length (map f xs)) ⊎ (k ≡ i)
  one_new true xs x y i e g h k lt = inl lt
  one_new false xs x y i e g h k lt = elim (cases_lt k (length (map f xs))) [
    | inl below ↦ inl below
    | inr above ↦ inr (omega (arith, above, lt, not_before xs x y i e g h, mapped_long xs, mapped_long (xs ++ x ∷ []), length-append xs (x ∷ [])))
  ]

  pub stays_different : (b : Bool) (xs : List A) (x : A) → list_any (eq x) xs ≡ b → Different (map f xs) → Different (map f (if b then xs else xs ++ x ∷ []))
  stays_different true xs x e d = d
  stays_different false xs x e d = subst Different (sym (map_push f eq same own xs x)) (different_push (map f xs) (f x) d (absent f eq same own xs x e))
