-- A stage has as many places in one alike program as in the other.
use Rattle.std.proofs.Common.{◌≡◌, ℕ, zero, suc, ◌<◌, List, [], ◌∷◌, length, refl, ap, ◌∙◌, subst, arith}
use Rattle.std.proofs.lemmas.Option.{slice_get_within}
use Rattle.kex_code.specs.Codes.{HasNumber}
use Rattle.kex_model.specs.Programs.{Grammar}
use Rattle.kex_model.specs.declared.frame.Frame.{Frame}
use Rattle.kex_model.specs.declared.frame.Frame.TheVariants.{Pending, EndOf}
use Rattle.kex_model.specs.Moves.{target_of}
use Rattle.kex_model.specs.Places.{Place, start_of, IsPlace, at_start, by_step, by_rest}
use Rattle.kex_model.proofs.Tables.{some_same}
use Rattle.kex_lowering.specs.Stages.{HasPlaces}
use Rattle.kex_compile.specs.Stages.{HaveInAll}
use Rattle.kex_compile.proofs.Alike.{Alike}
use Rattle.kex_compile.proofs.PlacePairs.{SamePlace, empty, pending, ends, Partners, enter_on, moves_on, step_back, place_on, place_back, place_forth, one_partner, one_partner_back}
use Rattle.kex_compile.proofs.StagePairs.{Known, Pairwise, Both}

rest_back : (S : ℕ → ℕ → Type 0) {g : Frame} {p q : Place} → SamePlace S p (g ∷ q) → (f : Frame) × (p' : Place) × (p ≡ f ∷ p') × SamePlace S p' q
rest_back S (pending {n = n} {need = need} {left = left} {p = p} h s) = (Pending n need left, p, refl, s)
rest_back S (ends {n = n} {p = p} h s) = (EndOf n, p, refl, s)

module _ (P Q : Grammar) (a : Alike P Q) (known : Known P) (root root' : ℕ) (same : Partners P Q a known root root') where
  abbrev S : ℕ → ℕ → Type 0
  S = Partners P Q a known

  placed_back : {q : Place} → IsPlace Q root' q → (p : Place) × SamePlace S p q × IsPlace P root p
  placed_back at_start = (start_of P root, enter_on P Q a known root root' same empty, at_start)
  placed_back (by_step k is al) =
      let x = placed_back is in
      let y = step_back S (moves_on P Q a known x.1) al in
      (target_of y.0, y.3, by_step y.0 x.2 y.1)
  placed_back (by_rest is) =
      let x = placed_back is in
      let y = rest_back S x.1 in
      (y.1, y.3, by_rest (subst (λ z. IsPlace P root z) y.2 x.2))

  -- places in pairs, one for each number
  record InPairs (ps qs : List Place) : Type 0 where
    long : length qs ≡ length ps
    forth : (p : Place) (i : ℕ) → HasNumber ps p i → (q : Place) × HasNumber qs q i × SamePlace S p q
    back : (q : Place) (i : ℕ) → HasNumber qs q i → (p : Place) × HasNumber ps p i × SamePlace S p q
    each : (q : Place) (i : ℕ) → HasNumber qs q i → IsPlace Q root' q

  in_pairs : (ps : List Place) → ((p : Place) (i : ℕ) → HasNumber ps p i → IsPlace P root p) → (qs : List Place) × InPairs ps qs
  in_pairs [] all = ([], record { long = refl; forth = λ p i h. absurd (none p i h); back = λ q i h. absurd (none q i h); each = λ q i h. absurd (none q i h) })
    where
      none : (p : Place) (i : ℕ) → HasNumber [] p i → ⊥
      none p i h = let lt : i < 0 = slice_get_within [] i p h in omega (arith, lt)
  in_pairs (x ∷ ps) all =
      let y = place_on P Q a known root root' same (all x 0 refl) in
      let rest = in_pairs ps (λ p i h. all p (suc i) h) in
      (y.0 ∷ rest.0, one_more x y.0 ps rest.0 y.1 y.2 rest.1)
    where
      one_more : (x y : Place) (ps qs : List Place) → SamePlace S x y → IsPlace Q root' y → InPairs ps qs → InPairs (x ∷ ps) (y ∷ qs)
      one_more x y ps qs s is r = record { long = ap suc r.long; forth = forth; back = back; each = each }
        where
          forth : (p : Place) (i : ℕ) → HasNumber (x ∷ ps) p i → (q : Place) × HasNumber (y ∷ qs) q i × SamePlace S p q
          forth p zero h = (y, refl, subst (λ z. SamePlace S z y) (some_same x p h) s)
          forth p (suc i) h = r.forth p i h

          back : (q : Place) (i : ℕ) → HasNumber (y ∷ qs) q i → (p : Place) × HasNumber (x ∷ ps) p i × SamePlace S p q
          back q zero h = (x, refl, subst (λ z. SamePlace S x z) (some_same y q h) s)
          back q (suc i) h = r.back q i h

          each : (q : Place) (i : ℕ) → HasNumber (y ∷ qs) q i → IsPlace Q root' q
          each q zero h = subst (λ z. IsPlace Q root' z) (some_same y q h) is
          each q (suc i) h = r.each q i h

  pub as_many : (count : ℕ) → HasPlaces P root count → HasPlaces Q root' count
  as_many count h =
      let x = in_pairs h.places h.each in
      record {
        places = x.0;
        long = x.1.long ∙ h.long;
        each = x.1.each;
        all = λ q is. (
            let y = placed_back is in
            let z = h.all y.0 y.2 in
            let u = x.1.forth y.0 z.0 z.1 in
            (z.0, subst (λ v. HasNumber x.0 v z.0) (place_forth S (one_partner P Q a known root root' same) u.2 y.1) u.1)
            );
        once = λ q i j k l. (
            let y = x.1.back q i k in
            let z = x.1.back q j l in
            h.once y.0 i j y.1 (subst (λ v. HasNumber h.places v j) (place_back S (one_partner_back P Q a known root root' same) z.2 y.2) z.1)
            );
      }

module _ (P Q : Grammar) (a : Alike P Q) (b : Alike Q P) (known : Known P) (known' : Known Q) where
  pub as_many_in_all : (rs qs : List ℕ) (total : ℕ) → Pairwise (Both P Q a b known known') rs qs → HaveInAll P rs total → HaveInAll Q qs total
  unfolding Pairwise
  as_many_in_all [] [] total p h = h
  as_many_in_all [] (q ∷ qs) total p h = absurd p
  as_many_in_all (r ∷ rs) [] total p h = absurd p
  as_many_in_all (r ∷ rs) (q ∷ qs) total p (own, rest, x, y, e) = (own, rest, as_many P Q a known r q p.0.0 own x, as_many_in_all rs qs rest p.1 y, e)
