-- Pairs of sets by numbers: one pair of sets has one pair of numbers.
use Rattle.std.proofs.Common.{◌≡◌, ℕ, zero, suc, ◌<◌, List, [], ◌∷◌, ◌++◌, ⊎_elim, inl, inr, Some, length, get_or, refl, sym, ap, ap₂, subst, ◌∙◌, arith}
use Rattle.std.specs.Prelude.{slice_get}
use Rattle.std.proofs.lemmas.List.{map-append}
use Rattle.std.proofs.lemmas.Option.{slice_get-get_or}
use Rattle.kex_code.specs.Codes.{Begins, IsAmong}
use Rattle.kex_model.specs.States.{AllDifferent}
use Rattle.kex_cover.specs.declared.pairs.SetPair.{SetPair}
use Rattle.kex_cover.specs.Pairs.{PlaceSets}
use Rattle.kex_cover.specs.Searches.{IsEntered, HasNumbers, all_pair_sets, pair_sets}
use Rattle.kex_cover.proofs.LeafMarks.{one_place}

get_front : {A : Type 0} (xs more : List A) (i : ℕ) (d : A) → i < length xs → get_or (xs ++ more) i d ≡ get_or xs i d
get_front [] more i d lt = absurd (omega (arith, lt))
get_front (x ∷ xs) more zero d lt = refl
get_front (x ∷ xs) more (suc i) d lt = get_front xs more i d (omega (arith, lt))

pub length_front : {A : Type 0} (xs more : List A) (i : ℕ) → i < length xs → i < length (xs ++ more)
length_front [] more i lt = absurd (omega (arith, lt))
length_front (x ∷ xs) more zero lt = omega arith
length_front (x ∷ xs) more (suc i) lt = let r = length_front xs more i (omega (arith, lt)) in omega (arith, r)

-- ---- among more sets

module _ (sets more : List (List ℕ)) (begins : Begins more sets) where
  pub numbered_on : (p : SetPair) → HasNumbers sets p → HasNumbers more p
  numbered_on p h = subst (λ z. HasNumbers z p) (sym begins.1) (length_front sets begins.0 p.first h.0, length_front sets begins.0 p.second h.1)

  pub pair_on : (p : SetPair) → HasNumbers sets p → pair_sets more p ≡ pair_sets sets p
  pair_on p h = ap (λ z. pair_sets z p) begins.1 ∙ ap₂ (λ a b. record { first = a; second = b }) (get_front sets begins.0 p.first [] h.0) (get_front sets begins.0 p.second [] h.1)

  pub pairs_on : (ps : List SetPair) → ((p : SetPair) → IsAmong ps p → HasNumbers sets p) → all_pair_sets more ps ≡ all_pair_sets sets ps
  pairs_on [] h = refl
  pairs_on (p ∷ ps) h = ap₂ (λ u us. u ∷ us) (pair_on p (h p (inl refl))) (pairs_on ps (λ q i. h q (inr i)))

-- ---- one pair of numbers

module _ (sets : List (List ℕ)) (different : AllDifferent sets) where
  one_number : (i j : ℕ) → i < length sets → j < length sets → get_or sets i [] ≡ get_or sets j [] → i ≡ j
  one_number i j lt less e = one_place sets i j (get_or sets j []) different (slice_get-get_or sets i [] lt ∙ ap (λ z. Some z) e) (slice_get-get_or sets j [] less)

  pub one_pair : (p q : SetPair) → HasNumbers sets p → HasNumbers sets q → pair_sets sets p ≡ pair_sets sets q → p ≡ q
  one_pair p q h k e = ap₂ (λ a b. record { first = a; second = b }) (one_number p.first q.first h.0 k.0 (ap (λ u. PlaceSets.first u) e)) (one_number p.second q.second h.1 k.1 (ap (λ u. PlaceSets.second u) e))

  pub among_sets : (ps : List SetPair) (p : SetPair) → IsAmong ps p → IsAmong (all_pair_sets sets ps) (pair_sets sets p)
  among_sets [] p i = i
  among_sets (q ∷ ps) p i = ⊎_elim (λ e. inl (ap (pair_sets sets) e)) (λ j. inr (among_sets ps p j)) i

  pub among_numbers : (ps : List SetPair) (p : SetPair) → ((q : SetPair) → IsAmong ps q → HasNumbers sets q) → HasNumbers sets p → IsAmong (all_pair_sets sets ps) (pair_sets sets p) → IsAmong ps p
  among_numbers [] p h k i = i
  among_numbers (q ∷ ps) p h k i = ⊎_elim (λ e. inl (one_pair q p (h q (inl refl)) k e)) (λ j. inr (among_numbers ps p (λ r l. h r (inr l)) k j)) i

  pub different_sets : (ps : List SetPair) → ((q : SetPair) → IsAmong ps q → HasNumbers sets q) → AllDifferent ps → AllDifferent (all_pair_sets sets ps)
  different_sets [] h d = d
  different_sets (q ∷ ps) h d = ((λ i. d.0 (among_numbers ps q (λ r l. h r (inr l)) (h q (inl refl)) i)), different_sets ps (λ r l. h r (inr l)) d.1)

  -- what is put among the numbers is put among the pairs of sets
  pub entered_sets : (ps qs : List SetPair) (p : SetPair) → ((q : SetPair) → IsAmong ps q → HasNumbers sets q) → HasNumbers sets p → IsEntered ps p qs → IsEntered (all_pair_sets sets ps) (pair_sets sets p) (all_pair_sets sets qs)
  entered_sets ps qs p h k = ⊎_elim
      (λ r. inl (among_sets ps p r.0, ap (all_pair_sets sets) r.1))
      (λ r. inr ((λ i. r.0 (among_numbers ps p h k i)), ap (all_pair_sets sets) r.1 ∙ map-append (pair_sets sets) ps (p ∷ [])))

-- the sets of a pair that has numbers
pub set_there : (sets : List (List ℕ)) (i : ℕ) → i < length sets → slice_get sets i ≡ Some (get_or sets i [])
set_there sets i lt = slice_get-get_or sets i [] lt

pub set_is : (sets : List (List ℕ)) (i : ℕ) (x : List ℕ) → slice_get sets i ≡ Some x → get_or sets i [] ≡ x
set_is [] i x e = cc
set_is (y ∷ sets) zero x e = cc
set_is (y ∷ sets) (suc i) x e = set_is sets i x e

pub set_within : (sets : List (List ℕ)) (i : ℕ) (x : List ℕ) → slice_get sets i ≡ Some x → i < length sets
set_within [] i x e = cc
set_within (y ∷ sets) zero x e = omega arith
set_within (y ∷ sets) (suc i) x e = let r = set_within sets i x e in omega (arith, r)
