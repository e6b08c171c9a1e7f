-- What a pair of numbers leads to, by the ways of its sets.
use Rattle.std.proofs.Common.{◌≡◌, ℕ, ◌<◌, List, [], ◌++◌, Some, get_or, length, sym, ap, subst, ◌∙◌, append_assoc}
use Rattle.std.specs.Prelude.{slice_get}
use Rattle.std.proofs.lemmas.Option.{slice_get-get_or}
use Rattle.kex_code.specs.Codes.{Begins}
use Rattle.kex_model.proofs.Tables.{some_same}
use Rattle.kex_machine.specs.Nodes.{Graph}
use Rattle.kex_cover.specs.declared.pairs.SetPair.{SetPair}
use Rattle.kex_cover.specs.Pairs.{ArePlacesAfter}
use Rattle.kex_cover.specs.Searches.{IsNextPair, IsWayTo, pair_sets}
use Rattle.kex_cover.proofs.PairNumbers.{length_front, set_is, set_within}
use Rattle.kex_cover.proofs.SetNumbers.{get_on}

pub begins_on : {A : Type 0} (xs ys zs : List A) → Begins ys xs → Begins zs ys → Begins zs xs
begins_on xs ys zs h k = (h.0 ++ k.0, k.1 ∙ ap (λ z. z ++ k.0) h.1 ∙ append_assoc xs h.0 k.0)

-- a number of one of these is one of more
pub number_on : (xs ys : List (List ℕ)) (i : ℕ) → Begins ys xs → i < length xs → i < length ys
number_on xs ys i h lt = subst (λ z. i < length z) (sym h.1) (length_front xs h.0 i lt)

-- the byte of a class
pub byte_at : (bytes : List ℕ) (class : ℕ) → class < length bytes → slice_get bytes class ≡ Some (get_or bytes class 0)
byte_at bytes class lt = slice_get-get_or bytes class 0 lt

pub way_within : (g : Graph) (sets : List (List ℕ)) (from : List ℕ) (b to : ℕ) → IsWayTo g sets from b to → to < length sets
way_within g sets from b to w = set_within sets to w.0 w.1

module _ (g : Graph) (s t : List (List ℕ)) (p : SetPair) (first b : ℕ) (way : IsWayTo g t (get_or s p.first []) b first) where
  pub none_next : slice_get t first ≡ Some [] → ArePlacesAfter g (pair_sets s p).first b []
  none_next e = subst (λ z. ArePlacesAfter g (get_or s p.first []) b z) (some_same way.0 [] (sym way.1 ∙ e)) way.2

  pub some_next : (r : List (List ℕ)) (second : ℕ) → Begins r t → (slice_get t first ≡ Some [] → ⊥) → IsWayTo g r (get_or s p.second []) b second → (next : SetPair) → next.first ≡ first → next.second ≡ second → IsNextPair g (pair_sets s p) b (pair_sets r next)
  some_next r second more some other next e f = record {
    first = subst (λ z. ArePlacesAfter g (get_or s p.first []) b z) (sym here) way.2;
    second = subst (λ z. ArePlacesAfter g (get_or s p.second []) b z) (sym (ap (λ z. get_or r z []) f ∙ set_is r second other.0 other.1)) other.2;
    some = λ none. some (way.1 ∙ ap (λ z. Some z) (sym here ∙ none));
  }
    where
      here : get_or r next.first [] ≡ way.0
      here = ap (λ z. get_or r z []) e ∙ set_is r first way.0 (get_on t r first way.0 more way.1)
