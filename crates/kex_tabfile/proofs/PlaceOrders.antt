-- Places that are met one after the other.
use Rattle.std.proofs.Common.{◌≡◌, ◌≢◌, ℕ, zero, suc, ◌<◌, ◌≤◌, List, [], ◌∷◌, ◌++◌, ◌⊎◌, inl, inr, ⊎_elim, Some, length, get_or, set, replicate, refl, sym, ap, subst, ◌∙◌, length-append, arith}
use Rattle.std.specs.Prelude.{slice_get}
use Rattle.std.proofs.lemmas.Bool.{cases_lt, cases_eq}
use Rattle.std.proofs.lemmas.List.{length-set, get_or-set_same, get_or-set_other, length-replicate, get_or-replicate}
use Rattle.std.proofs.lemmas.Option.{slice_get_within, slice_get_read}
use Rattle.kex_code.specs.Codes.{IsAmong, Different}
use Rattle.kex_model.proofs.Tables.{get_pushed}
use Rattle.kex_model.proofs.DistinctItems.{different_fits, among_get, among-append}
use Rattle.kex_tabfile.specs.PlaceNumbers.{MeetsPlace, MeetsPlaces, IsOrder}

different_push : (xs : List ℕ) (x : ℕ) → Different xs → (IsAmong xs x → ⊥) → Different (xs ++ x ∷ [])
different_push [] x d h = ((λ i. i), tt)
different_push (y ∷ xs) x d h = ((λ i. d.0 (by xs i)), different_push xs x d.1 (λ i. h (inr i)))
  where
    by : (zs : List ℕ) → IsAmong (zs ++ x ∷ []) y → IsAmong zs y
    by [] (inl e) = absurd (h (inl (sym e)))
    by [] (inr i) = absurd i
    by (z ∷ zs) (inl e) = inl e
    by (z ∷ zs) (inr i) = inr (by zs i)

among_or_not : (xs : List ℕ) (p : ℕ) → IsAmong xs p ⊎ (IsAmong xs p → ⊥)
among_or_not [] p = inr (λ h. h)
among_or_not (x ∷ xs) p = elim (cases_eq x p) [
  | inl e ↦ inl (inl e)
  | inr d ↦ ⊎_elim (λ h. inl (inr h)) (λ n. inr (λ h. ⊎_elim d n h)) (among_or_not xs p)
]

at_index : (xs : List ℕ) (p : ℕ) → IsAmong xs p → (i : ℕ) × (slice_get xs i ≡ Some p)
at_index [] p h = absurd h
at_index (x ∷ xs) p (inl e) = (0, ap (λ z. Some z) e)
at_index (x ∷ xs) p (inr h) = let r = at_index xs p h in (suc r.0, r.1)

-- the numbers below a count
abbrev down_from : ℕ → List ℕ
down_from zero = []
down_from (suc n) = n ∷ down_from n

length-down_from : (n : ℕ) → length (down_from n) ≡ n
length-down_from zero = refl
length-down_from (suc n) = let h = length-down_from n in omega (arith, h)

among-down_from : (n p : ℕ) → p < n → IsAmong (down_from n) p
among-down_from zero p lt = absurd (omega arith)
among-down_from (suc n) p lt = ⊎_elim (λ h. inr (among-down_from n p h)) (λ h. let e : n ≡ p = omega (arith, lt, h) in inl e) (cases_lt p n)

-- no more places are met than there are
pub order_fits : (order numbers : List ℕ) → IsOrder order numbers → length order ≤ length numbers
order_fits order numbers o = let h = different_fits order (down_from (length numbers)) o.different (λ p i. among-down_from (length numbers) p (o.below p i)) in omega (arith, h, length-down_from (length numbers))

-- before the first place
pub no_order : (count : ℕ) (numbers : List ℕ) → count < 4294967296 → numbers ≡ replicate count count → IsOrder [] numbers
no_order count numbers few e =
    let long : length numbers ≡ count = ap length e ∙ length-replicate count count in
    record {
      given = record {
        long = refl;
        each = λ n p h. let lt : n < 0 = slice_get_within [] n p h in absurd (omega (arith, lt));
        others = λ p lt h. ap (λ z. get_or z p 0) e ∙ get_or-replicate count p count 0 (omega (arith, lt, long)) ∙ sym long;
      };
      different = tt;
      below = λ p h. absurd h;
      few = omega (arith, few, long);
    }

-- a place with a number was met
pub met_again : (order numbers : List ℕ) (p : ℕ) → IsOrder order numbers → p < length numbers → get_or numbers p 0 < length numbers → MeetsPlace order p order
met_again order numbers p o lt h = ⊎_elim (λ i. inl (i, refl)) (λ n. let e = o.given.others p lt n in absurd (omega (arith, e, h))) (among_or_not order p)

-- another is put at the end
module _ (order numbers : List ℕ) (p : ℕ) (o : IsOrder order numbers) (lt : p < length numbers) (le : length numbers ≤ get_or numbers p 0) where
  new_place : IsAmong order p → ⊥
  new_place h =
      let r = at_index order p h in
      let e = o.given.each r.0 p r.1 in
      let within : r.0 < length order = slice_get_within order r.0 p r.1 in
      omega (arith, e, within, order_fits order numbers o, le)

  pub met_first : MeetsPlace order p (order ++ p ∷ [])
  met_first = inr (new_place, refl)

  other : (q n : ℕ) → slice_get order n ≡ Some q → q ≢ p
  other q n h e = new_place (subst (λ z. IsAmong order z) e (among_get order n q h))

  pub order_more : IsOrder (order ++ p ∷ []) (set numbers p (length order))
  order_more =
      let long : length (set numbers p (length order)) ≡ length numbers = length-set numbers p (length order) in
      record {
        given = record {
          long = refl;
          each = λ n q h. ⊎_elim
              (λ k. get_or-set_other numbers p q (length order) 0 (other q n k) ∙ o.given.each n q k)
              (λ k. ap (λ z. get_or (set numbers p (length order)) z 0) (sym k.1) ∙ get_or-set_same numbers p (length order) 0 lt ∙ sym k.0)
              (get_pushed order p n q h);
          others = λ q below h. get_or-set_other numbers p q (length order) 0 (λ e. h (among-append order (p ∷ []) q (inr (inl (sym e))))) ∙ o.given.others q (omega (arith, below, long)) (λ i. h (among-append order (p ∷ []) q (inl i))) ∙ sym long;
        };
        different = different_push order p o.different new_place;
        below = λ q h. ⊎_elim (λ i. let b = o.below q i in omega (arith, b, long)) (λ i. let e = only p q i in omega (arith, e, lt, long)) (split order (p ∷ []) q h);
        few = omega (arith, long, o.few);
      }
    where
      only : (p q : ℕ) → IsAmong (p ∷ []) q → p ≡ q
      only p q (inl e) = e
      only p q (inr h) = absurd h

      split : (xs ys : List ℕ) (q : ℕ) → IsAmong (xs ++ ys) q → IsAmong xs q ⊎ IsAmong ys q
      split [] ys q h = inr h
      split (x ∷ xs) ys q (inl e) = inl (inl e)
      split (x ∷ xs) ys q (inr h) = ⊎_elim (λ i. inl (inr i)) (λ i. inr i) (split xs ys q h)

any_default : (xs : List ℕ) (i d e : ℕ) → i < length xs → get_or xs i d ≡ get_or xs i e
any_default [] i d e lt = absurd (omega arith)
any_default (x ∷ xs) zero d e lt = refl
any_default (x ∷ xs) (suc i) d e lt = any_default xs i d e (omega arith)

-- the number that is read there
pub number_read : (numbers : List ℕ) (p n : ℕ) → p < length numbers → n ≡ get_or numbers p n → get_or numbers p 0 ≡ n
number_read numbers p n lt e = any_default numbers p 0 n lt ∙ sym e

-- the place of a number
pub place_read : (order numbers : List ℕ) (i p : ℕ) → IsOrder order numbers → i < length order → p ≡ get_or order i p → (p < length numbers) × (slice_get order i ≡ Some p)
place_read order numbers i p o lt e = let g = slice_get_read order (length order) i p refl lt e in (o.below p (among_get order i p g), g)

pub first_met : (order after : List ℕ) (p : ℕ) → order ≡ [] → MeetsPlace order p after → after ≡ p ∷ []
first_met order after p e (inl h) = absurd (subst (λ z. IsAmong z p) e h.0)
first_met order after p e (inr h) = h.1 ∙ ap (λ z. z ++ p ∷ []) e

pub meets_grow : (order ps after : List ℕ) → MeetsPlaces order ps after → length order ≤ length after
meets_grow order [] after h = let e = ap length h in omega (arith, e)
meets_grow order (p ∷ ps) after (more, m, rest) = let g = meets_grow more ps after rest in ⊎_elim (λ h. let e = ap length h.1 in omega (arith, e, g)) (λ h. let e = ap length h.1 in omega (arith, e, g, length-append order (p ∷ []))) m
