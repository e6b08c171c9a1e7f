-- Numbers and places: what is named stays named, each place has one number, and each number one place.
use Rattle.std.proofs.Common.{◌≡◌, ℕ, zero, suc, ◌<◌, ◌≤◌, List, [], ◌∷◌, ◌++◌, ⊎_elim, Some, length, refl, sym, ap, ap₂, subst, ◌∙◌, arith}
use Rattle.std.specs.Prelude.{slice_get}
use Rattle.std.proofs.lemmas.Option.{slice_get_within, slice_get_cases}
use Rattle.kex_code.specs.Codes.{Different, IsAmong}
use Rattle.kex_model.specs.Programs.{Grammar}
use Rattle.kex_model.specs.declared.frame.Frame.{Frame}
use Rattle.kex_model.specs.Places.{Place, IsPlace}
use Rattle.kex_desugar.specs.declared.spot.Spot.{Spot}
use Rattle.kex_desugar.specs.declared.spot.Spot.TheVariants.{Empty, On}
use Rattle.kex_desugar.specs.Machines.{HasMore}
use Rattle.kex_desugar.specs.Spots.{SpotIsPlace, IsAt, IsReal, Real}
use Rattle.kex_model.proofs.Tables.{some_same, get_more, get_pushed}

pub on_same : (f g : Frame) (r s : ℕ) → On f r ≡ On g s → (f ≡ g) × (r ≡ s)
on_same f g r s e = ((cc), (cc))

pub not_empty : (f : Frame) (r : ℕ) → Empty ≡ On f r → ⊥
not_empty f r e = cc

pub names_more : (xs ys : List Spot) (s : Spot) (p : Place) → SpotIsPlace xs s p → SpotIsPlace (xs ++ ys) s p
names_more xs ys s [] h = h
names_more xs ys s (f ∷ p) (r, t, e, g, h) = (r, t, e, get_more xs ys r t g, names_more xs ys t p h)

pub at_more : (xs ys : List Spot) (i : ℕ) (p : Place) → IsAt xs p i → IsAt (xs ++ ys) p i
at_more xs ys i p (s, g, h) = (s, get_more xs ys i s g, names_more xs ys s p h)

-- a spot is that of one place
pub one_place : (xs : List Spot) (s : Spot) (p q : Place) → SpotIsPlace xs s p → SpotIsPlace xs s q → p ≡ q
one_place xs s [] [] h k = refl
one_place xs s [] (g ∷ q) h k = absurd (not_empty g k.0 (sym h ∙ k.2))
one_place xs s (f ∷ p) [] h k = absurd (not_empty f h.0 (sym k ∙ h.2))
one_place xs s (f ∷ p) (g ∷ q) (r, t, e, at, h) (r', t', e', at', k) =
    let both : (f ≡ g) × (r ≡ r') = on_same f g r r' (sym e ∙ e') in
    let under : t ≡ t' = some_same t t' (sym at ∙ ap (λ z. slice_get xs z) both.1 ∙ at') in
    ap₂ (λ x y. x ∷ y) both.0 (one_place xs t p q h (subst (λ z. SpotIsPlace xs z q) (sym under) k))

abbrev pub Once : List Spot → Type 0
Once xs = (i j : ℕ) (s : Spot) → slice_get xs i ≡ Some s → slice_get xs j ≡ Some s → i ≡ j

-- a place has one spot
pub one_spot : (xs : List Spot) → Once xs → (p : Place) (s s' : Spot) → SpotIsPlace xs s p → SpotIsPlace xs s' p → s ≡ s'
one_spot xs once [] s s' h k = h ∙ sym k
one_spot xs once (f ∷ p) s s' (r, t, e, at, h) (r', t', e', at', k) =
    let under : t ≡ t' = one_spot xs once p t t' h k in
    let same : r ≡ r' = once r r' t at (at' ∙ ap (λ z. Some z) (sym under)) in
    e ∙ ap (λ z. On f z) same ∙ sym e'

pub one_at : (xs : List Spot) (i : ℕ) (p q : Place) → IsAt xs p i → IsAt xs q i → p ≡ q
one_at xs i p q (s, at, h) (s', at', k) = one_place xs s p q h (subst (λ z. SpotIsPlace xs z q) (some_same s' s (sym at' ∙ at)) k)

pub one_number : (xs : List Spot) → Once xs → (p : Place) (i j : ℕ) → IsAt xs p i → IsAt xs p j → i ≡ j
one_number xs once p i j (s, at, h) (s', at', k) = once i j s at (at' ∙ ap (λ z. Some z) (sym (one_spot xs once p s s' h k)))

module _ (P : Grammar) (root : ℕ) where
  real_none : Real P root []
  real_none = record { each = λ i s e. let lt : i < 0 = slice_get_within [] i s e in absurd (omega arith); once = λ i j s e f. let lt : i < 0 = slice_get_within [] i s e in absurd (omega arith) }

  pub real_empty : (xs : List Spot) → xs ≡ [] → Real P root xs
  real_empty xs e = subst (λ z. Real P root z) (sym e) real_none

  real_more : (xs ys : List Spot) (s : Spot) → IsReal P root xs s → IsReal P root (xs ++ ys) s
  real_more xs ys s (p, h, is) = (p, names_more xs ys s p h, is)

  pub real_push : (xs : List Spot) (s : Spot) → Real P root xs → IsReal P root xs s → ((i : ℕ) → slice_get xs i ≡ Some s → ⊥) → Real P root (xs ++ s ∷ [])
  real_push xs s all here new = record {
    each = λ i t e. ⊎_elim (λ f. real_more xs (s ∷ []) t (all.each i t f)) (λ f. subst (λ z. IsReal P root (xs ++ s ∷ []) z) f.1 (real_more xs (s ∷ []) s here)) (get_pushed xs s i t e);
    once = λ i j t e f. ⊎_elim
        (λ a. ⊎_elim (λ b. all.once i j t a b) (λ b. absurd (new i (a ∙ ap (λ z. Some z) (sym b.1)))) (get_pushed xs s j t f))
        (λ a. ⊎_elim (λ b. absurd (new j (b ∙ ap (λ z. Some z) (sym a.1)))) (λ b. a.0 ∙ sym b.0) (get_pushed xs s j t f))
        (get_pushed xs s i t e);
  }

  -- the places of the first n numbers
  record Listed (xs : List Spot) (n : ℕ) : Type 0 where
    places : List Place
    long : length places ≡ n
    different : Different places
    each : (p : Place) → IsAmong places p → IsPlace P root p × ((i : ℕ) × (i < n) × IsAt xs p i)

  one_more : (xs : List Spot) → Real P root xs → (n : ℕ) (s : Spot) → slice_get xs n ≡ Some s → IsReal P root xs s → Listed xs n → Listed xs (suc n)
  one_more xs all n s at (p, h, is) before = record {
    places = p ∷ before.places;
    long = ap (λ z. suc z) before.long;
    different = ((λ i. let b = (before.each p i).1 in let same : b.0 ≡ n = one_number xs all.once p b.0 n b.2 (s, at, h) in let lt : b.0 < n = b.1 in omega arith), before.different);
    each = λ q i. ⊎_elim (λ e. subst (λ z. IsPlace P root z × ((i : ℕ) × (i < suc n) × IsAt xs z i)) e (is, (n, omega arith, (s, at, h)))) (λ j. let b = before.each q j in (b.0, (b.1.0, (let lt : b.1.0 < n = b.1.1 in omega arith), b.1.2))) i;
  }

  listed : (xs : List Spot) → Real P root xs → (n : ℕ) → n ≤ length xs → Listed xs n
  listed xs all zero le = record { places = []; long = refl; different = tt; each = λ p i. absurd i }
  listed xs all (suc n) le =
      let before = listed xs all n (omega arith) in
      ⊎_elim
      (λ h. one_more xs all n h.0 h.2 (all.each n h.0 h.2) before)
      (λ h. let past : length xs ≤ n = h.0 in absurd (omega arith))
      (slice_get_cases xs n).1

  -- all that have numbers, and one that has none
  pub more_than : (xs : List Spot) (s : Spot) (max : ℕ) → Real P root xs → IsReal P root xs s → ((i : ℕ) → slice_get xs i ≡ Some s → ⊥) → length xs ≡ max → HasMore P root max
  more_than xs s max all (p, h, is) new long =
      let l = listed xs all (length xs) (omega arith) in
      record {
        places = p ∷ l.places;
        more = ap (λ z. suc z) (l.long ∙ long);
        different = ((λ i. let b = (l.each p i).1 in new b.0 (b.2.1 ∙ ap (λ z. Some z) (one_spot xs all.once p b.2.0 s b.2.2 h))), l.different);
        each = λ q i. ⊎_elim (λ e. subst (λ z. IsPlace P root z) e is) (λ j. (l.each q j).0) i;
      }
