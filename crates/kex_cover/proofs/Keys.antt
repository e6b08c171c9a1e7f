-- What is put among others that differ in what they show.
use Rattle.std.proofs.Common.{◌≡◌, Bool, true, false, List, [], ◌∷◌, ◌++◌, ◌⊎◌, inl, inr, ⊎_elim, map, length, ◌+◌, ◌<◌, ◌≤◌, refl, sym, ap, subst, ◌∙◌, length-append, arith}
use Rattle.std.specs.Prelude.{◌||◌, not, MatchBool}
use Rattle.std.specs.List.{list_any}
use Rattle.std.specs.Bool.{Decides, if◌then◌else◌}
use Rattle.std.proofs.lemmas.List.{map-append}
use Rattle.kex_code.specs.Codes.{IsAmong}
use Rattle.kex_model.specs.States.{AllDifferent}
use Rattle.kex_model.proofs.Shapes.{among-append}
use Rattle.kex_cover.specs.Searches.{IsEntered}

module _ {A B : Type 0} (f : A → B) (eq : A → A → Bool) (same : (x y : A) → Decides (eq x y) (f x ≡ f y)) where
  there : (ks : List A) (k : A) → list_any (eq k) ks ≡ true → IsAmong (map f ks) (f k)
  there [] k e = cc
  there (x ∷ ks) k e = by (eq k x) refl (there ks k)
    where
      by : (b : Bool) → eq k x ≡ b → (list_any (eq k) ks ≡ true → IsAmong (map f ks) (f k)) → IsAmong (map f (x ∷ ks)) (f k)
      by true h rest = inl (sym ((same k x).0 h))
      by false h rest = inr (rest (ap (λ z. z || list_any (eq k) ks) (sym h) ∙ e))

  not_there : (ks : List A) (k : A) → list_any (eq k) ks ≡ false → IsAmong (map f ks) (f k) → ⊥
  not_there [] k e i = i
  not_there (x ∷ ks) k e i = by (eq k x) refl (not_there ks k)
    where
      by : (b : Bool) → eq k x ≡ b → (list_any (eq k) ks ≡ false → IsAmong (map f ks) (f k) → ⊥) → ⊥
      by true h others = let bad : true ≡ false = ap (λ z. z || list_any (eq k) ks) (sym h) ∙ e in cc
      by false h others = ⊎_elim (λ p. let bad : true ≡ false = sym ((same k x).1 (sym p)) ∙ h in cc) (λ j. others (ap (λ z. z || list_any (eq k) ks) (sym h) ∙ e) j) i

  abbrev pub IsPut : List A → A → List A → Bool → Type 0
  IsPut ks k ks' new = ((IsAmong (map f ks) (f k) × (map f ks' ≡ map f ks)) ⊎ ((¬ IsAmong (map f ks) (f k)) × (map f ks' ≡ map f ks ++ f k ∷ []))) × MatchBool new (IsAmong (map f ks) (f k) → ⊥) (IsAmong (map f ks) (f k))

  pub added : (ks ks' : List A) (k : A) (new : Bool) → new ≡ not (list_any (eq k) ks) → ks' ≡ (if list_any (eq k) ks then ks else ks ++ k ∷ []) → IsPut ks k ks' new
  added ks ks' k new n e = by (list_any (eq k) ks) refl
    where
      by : (b : Bool) → list_any (eq k) ks ≡ b → IsPut ks k ks' new
      by true h = subst (λ z. IsPut ks k ks' z) (sym (n ∙ ap not h)) (inl (there ks k h, ap (λ z. map f z) (e ∙ ap (λ z. if z then ks else ks ++ k ∷ []) h)), there ks k h)
      by false h = subst (λ z. IsPut ks k ks' z) (sym (n ∙ ap not h)) (inr ((λ i. not_there ks k h i), ap (λ z. map f z) (e ∙ ap (λ z. if z then ks else ks ++ k ∷ []) h) ∙ map-append f ks (k ∷ [])), (λ i. not_there ks k h i))

pub map_same : {A : Type 0} (xs : List A) → map (λ (x : A). x) xs ≡ xs
map_same [] = refl
map_same (x ∷ xs) = ap (λ z. x ∷ z) (map_same xs)

pub different-append : {A : Type 0} (xs : List A) (x : A) → AllDifferent xs → (IsAmong xs x → ⊥) → AllDifferent (xs ++ x ∷ [])
different-append [] x d h = ((λ i. i), tt)
different-append (y ∷ xs) x d h = ((λ i. ⊎_elim (λ j. d.0 j) (λ j. ⊎_elim (λ e. h (inl (sym e))) (λ k. k) j) (among-append xs (x ∷ []) y i)), different-append xs x d.1 (λ i. h (inr i)))

module _ {A : Type 0} (eq : A → A → Bool) (same : (x y : A) → Decides (eq x y) (x ≡ y)) where
  -- what is put among others is there, or is put at the end
  pub entered : (ks ks' : List A) (k : A) → ks' ≡ (if list_any (eq k) ks then ks else ks ++ k ∷ []) → IsEntered ks k ks'
  entered ks ks' k e =
      let r = (added (λ x. x) eq same ks ks' k (not (list_any (eq k) ks)) refl e).0 in
      subst (λ z. (IsAmong z k × (ks' ≡ z)) ⊎ ((¬ IsAmong z k) × (ks' ≡ z ++ k ∷ []))) (map_same ks)
      (subst (λ y. (IsAmong (map (λ x. x) ks) k × (y ≡ map (λ x. x) ks)) ⊎ ((¬ IsAmong (map (λ x. x) ks) k) × (y ≡ map (λ x. x) ks ++ k ∷ []))) (map_same ks') r)

-- there is no more than one more
pub entered_long : {A : Type 0} (ks ks' : List A) (k : A) → IsEntered ks k ks' → length ks' ≤ length ks + 1
entered_long ks ks' k h = ⊎_elim (λ r. let e = ap length r.1 in omega (arith, e)) (λ r. let e = ap length r.1 in let long = length-append ks (k ∷ []) in omega (arith, e, long)) h

-- where there are more, it wasn't there
pub entered_new : {A : Type 0} (ks ks' : List A) (k : A) → IsEntered ks k ks' → length ks < length ks' → (IsAmong ks k → ⊥)
entered_new ks ks' k h lt = ⊎_elim (λ r. let e = ap length r.1 in absurd (omega (arith, e, lt))) (λ r. r.0) h
