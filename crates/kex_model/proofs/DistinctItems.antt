-- Different things that are all in a list are no more than the list has.
use Rattle.std.proofs.Common.{◌≡◌, ℕ, zero, suc, ◌<◌, ◌≤◌, List, [], ◌∷◌, ◌++◌, ◌+◌, ◌⊎◌, inl, inr, ⊎_elim, Some, length, refl, sym, subst, ◌∙◌, length-append, arith}
use Rattle.std.specs.Prelude.{slice_get}
use Rattle.std.proofs.lemmas.Option.{slice_get_within}
use Rattle.kex_code.specs.Codes.{IsAmong, Different}
use Rattle.kex_model.proofs.Tables.{some_same}

pub among_get : {A : Type 0} (ys : List A) (i : ℕ) (y : A) → slice_get ys i ≡ Some y → IsAmong ys y
among_get [] i y e = let lt : i < 0 = slice_get_within [] i y e in absurd (omega arith)
among_get (x ∷ ys) zero y e = inl (some_same x y e)
among_get (x ∷ ys) (suc i) y e = inr (among_get ys i y e)

-- the list without one
abbrev Without : {A : Type 0} → List A → A → Type 0
Without {A} ys x = (us vs : List A) × (length ys ≡ suc (length us + length vs)) × ((z : A) → IsAmong ys z → (z ≡ x) ⊎ IsAmong (us ++ vs) z)

pub among-append : {A : Type 0} (xs ys : List A) (z : A) → IsAmong xs z ⊎ IsAmong ys z → IsAmong (xs ++ ys) z
among-append [] ys z (inl h) = absurd h
among-append [] ys z (inr h) = h
among-append (x ∷ xs) ys z (inl (inl e)) = inl e
among-append (x ∷ xs) ys z (inl (inr h)) = inr (among-append xs ys z (inl h))
among-append (x ∷ xs) ys z (inr h) = inr (among-append xs ys z (inr h))

without : {A : Type 0} (ys : List A) (x : A) → IsAmong ys x → Without ys x
without [] x h = absurd h
without (y ∷ ys) x (inl e) = ([], ys, omega arith, (λ z. ⊎_elim (λ f. inl (sym f ∙ e)) (λ i. inr i)))
without (y ∷ ys) x (inr h) =
    let w = without ys x h in
    let n : length ys ≡ suc (length w.0 + length w.1) = w.2 in
    (y ∷ w.0, w.1, omega arith, (λ z. ⊎_elim (λ f. inr (inl f)) (λ i. ⊎_elim (λ f. inl f) (λ j. inr (inr j)) (w.3 z i))))

pub different_fits : {A : Type 0} (xs ys : List A) → Different xs → ((x : A) → IsAmong xs x → IsAmong ys x) → length xs ≤ length ys
different_fits [] ys d h = omega arith
different_fits (x ∷ xs) ys d h =
    let w = without ys x (h x (inl refl)) in
    let rest : length xs ≤ length (w.0 ++ w.1) = different_fits xs (w.0 ++ w.1) d.1 (λ z i. ⊎_elim (λ e. absurd (d.0 (subst (λ q. IsAmong xs q) e i))) (λ j. j) (w.3 z (h z (inr i)))) in
    let n : length ys ≡ suc (length w.0 + length w.1) = w.2 in
    omega (arith, length-append w.0 w.1)
