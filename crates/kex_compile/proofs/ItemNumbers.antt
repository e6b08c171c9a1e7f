-- Lists whose items bear numbers at which they are.
use Rattle.std.proofs.Common.{◌≡◌, ◌+◌, ◌<◌, ◌≤◌, ℕ, zero, suc, List, [], ◌∷◌, ◌++◌, ◌⊎◌, inl, inr, ⊎_elim, length, map, refl, sym, ap, subst, ◌∙◌, arith}
use Rattle.std.specs.Prelude.{Some}
use Rattle.std.proofs.lemmas.Option.{slice_get_within}
use Rattle.kex_code.specs.Codes.{HasNumber}
use Rattle.kex_model.proofs.Tables.{get_last, get_more, some_same}
use Rattle.kex_compile.specs.Stages.{StandAtNumbers}

-- what is in a list with one item more
number-push : {A : Type 0} (xs : List A) (x y : A) (i : ℕ) → HasNumber (xs ++ x ∷ []) y i → HasNumber xs y i ⊎ ((i ≡ length xs) × (x ≡ y))
number-push [] x y zero k = inr (refl, some_same x y k)
number-push [] x y (suc i) k = cc
number-push (z ∷ xs) x y zero k = inl k
number-push (z ∷ xs) x y (suc i) k = ⊎_elim (λ h. inl h) (λ h. inr (ap suc h.0, h.1)) (number-push xs x y i k)

pub number-map : {A B : Type 0} (f : A → B) (xs : List A) (x : A) (i : ℕ) → HasNumber xs x i → HasNumber (map f xs) (f x) i
number-map f [] x i k = cc
number-map f (z ∷ xs) x zero k = ap (λ y. Some (f y)) (some_same z x k)
number-map f (z ∷ xs) x (suc i) k = number-map f xs x i k

number-seam : {A : Type 0} (xs ys : List A) (y : A) → HasNumber (xs ++ y ∷ ys) y (length xs)
number-seam [] ys y = refl
number-seam (x ∷ xs) ys y = number-seam xs ys y

number-front : {A : Type 0} (xs ys : List A) (y : A) (i : ℕ) → i < length xs → HasNumber (xs ++ ys) y i → HasNumber xs y i
number-front [] ys y i lt k = absurd (omega (arith, lt))
number-front (x ∷ xs) ys y zero lt k = k
number-front (x ∷ xs) ys y (suc i) lt k = number-front xs ys y i (omega (arith, lt)) k

module _ {A : Type 0} (number : A → ℕ) where
  more : (xs : List A) (x : A) (n : ℕ) → number x ≡ suc n → n ≤ length xs → HasNumber (xs ++ x ∷ []) x n → StandAtNumbers number xs → StandAtNumbers number (xs ++ x ∷ [])
  more xs x n is le at stand = λ i y k. ⊎_elim
      (λ h. let s = stand i y h in (s.0, s.1, s.2, get_more xs (x ∷ []) s.0 y s.3))
      (λ h. subst (λ z. (m : ℕ) × (number z ≡ suc m) × (m ≤ i) × HasNumber (xs ++ x ∷ []) z m) h.1 (n, is, omega (arith, le, h.0), at))
      (number-push xs x y i k)

  -- one item more, which bears its own number
  pub stand-own : (xs : List A) (x : A) → number x ≡ length xs + 1 → StandAtNumbers number xs → StandAtNumbers number (xs ++ x ∷ [])
  stand-own xs x is stand = more xs x (length xs) (is ∙ (let e : length xs + 1 ≡ suc (length xs) = omega arith in e)) (omega arith) (get_last xs x) stand

  -- or which is there already
  pub stand-again : (xs : List A) (x : A) (i : ℕ) → HasNumber xs x i → StandAtNumbers number xs → StandAtNumbers number (xs ++ x ∷ [])
  stand-again xs x i at stand =
      let s = stand i x at in
      let within : i < length xs = slice_get_within xs i x at in
      more xs x s.0 s.1 (let le = s.2 in omega (arith, le, within)) (get_more xs (x ∷ []) s.0 x s.3) stand

  -- an item among others, which bears its own number or is among those before
  pub stand-at : (all xs ys : List A) (y : A) → all ≡ xs ++ y ∷ ys → StandAtNumbers number all → (n : ℕ) × (number y ≡ suc n) × (n ≤ length xs) × (n < length xs → HasNumber xs y n)
  stand-at all xs ys y split stand =
      let s = stand (length xs) y (subst (λ z. HasNumber z y (length xs)) (sym split) (number-seam xs ys y)) in
      (s.0, s.1, s.2, λ lt. number-front xs (y ∷ ys) y s.0 lt (subst (λ z. HasNumber z y s.0) split s.3))
