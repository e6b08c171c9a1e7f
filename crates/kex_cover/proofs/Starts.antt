-- Where a search starts, and what it shows at its end.
use Rattle.std.proofs.Common.{◌≡◌, ℕ, zero, suc, ◌+◌, ◌≤◌, Bool, true, false, List, [], ◌∷◌, ◌++◌, inl, inr, ⊎_elim, Some, length, take, refl, sym, ap, subst, ◌∙◌, arith}
use Rattle.std.specs.Prelude.{slice_get, MatchBool, not}
use Rattle.kex_code.specs.Codes.{IsAmong}
use Rattle.kex_model.specs.States.{AllDifferent}
use Rattle.kex_machine.specs.Nodes.{Graph}
use Rattle.kex_cover.specs.declared.pairs.SetPair.{SetPair}
use Rattle.kex_cover.specs.declared.pairs.Pairs.{Pairs}
use Rattle.kex_cover.specs.declared.met_sets.MetSets.{MetSets}
use Rattle.kex_cover.specs.Pairs.{PlaceSets, AreReached, IsPair, HasMorePairs, IsPlaceSetOf, IsCoveredBy, IsUncoveredBy}
use Rattle.kex_cover.specs.Searches.{AllHold, ArePairs, ArePairsKept, AreSetsMet, AreWaiting, Holds, IsDoneFor, IsEntered, HasNumbers, SomeFails, all_pair_sets, met_sets, pair_sets}
use Rattle.kex_cover.proofs.MetPairs.{reached_none, is_covered, is_uncovered}

pub first_entered : {A : Type 0} (ps qs : List A) (q : A) → ps ≡ [] → IsEntered ps q qs → qs ≡ q ∷ []
first_entered ps qs q none h = ⊎_elim (λ r. absurd (subst (λ z. IsAmong z q) none r.0)) (λ r. r.1 ∙ ap (λ z. z ++ q ∷ []) none) h

-- pairs that hold, one more
pub hold_more : (g : Graph) (sets : List (List ℕ)) (ps : List SetPair) (i : ℕ) (p : SetPair) → slice_get ps i ≡ Some p → AllHold g (all_pair_sets sets (take i ps)) → Holds g.nodes (pair_sets sets p) → AllHold g (all_pair_sets sets (take (i + 1) ps))
hold_more g sets ps i p e h here = let same : suc i ≡ i + 1 = omega arith in subst (λ z. AllHold g (all_pair_sets sets (take z ps))) same (by ps i e h)
  where
    none : (ps : List SetPair) (u : PlaceSets) → IsAmong (all_pair_sets sets (take 0 ps)) u → ⊥
    none [] u a = a
    none (y ∷ ps) u a = a

    by : (ps : List SetPair) (i : ℕ) → slice_get ps i ≡ Some p → AllHold g (all_pair_sets sets (take i ps)) → AllHold g (all_pair_sets sets (take (suc i) ps))
    by [] i e h u j = cc
    by (x ∷ ps) zero e h u j = ⊎_elim (λ f. let same : x ≡ p = cc in subst (λ z. Holds g.nodes z) (ap (pair_sets sets) (sym same) ∙ f) here) (λ a. absurd (none ps u a)) j
    by (x ∷ ps) (suc i) e h u j = ⊎_elim (λ f. h u (inl f)) (λ k. by ps i e (λ v l. h v (inr l)) u k) j

module _ (g : Graph) (leaf : ℕ) (before : List ℕ) (waits : AreWaiting g (leaf ∷ [])) (waits_too : AreWaiting g before) (u : PlaceSets) (first : IsPlaceSetOf (leaf ∷ []) u.first) (second : IsPlaceSetOf before u.second) where
  pub first_reached : AreReached g (leaf ∷ []) [] u.first
  first_reached = reached_none g (leaf ∷ []) u.first first (λ q i. (waits q i).1)

  pub second_reached : AreReached g before [] u.second
  second_reached = reached_none g before u.second second (λ q i. (waits_too q i).1)

  pub start_pair : IsPair g leaf before u
  start_pair = ([], first_reached, second_reached, λ e. subst (λ z. IsAmong z leaf) e (first.all leaf (inl refl)))

  pub first_refused : (most : ℕ) → most ≤ 0 → HasMorePairs g leaf before most
  first_refused most le = (u ∷ [], omega (arith, le), ((λ i. i), tt), λ v i. ⊎_elim (λ e. subst (λ z. IsPair g leaf before z) e start_pair) (λ a. absurd a) i)

  pub are_pairs : ArePairs g leaf before (u ∷ [])
  are_pairs v i = ⊎_elim (λ e. subst (λ z. IsPair g leaf before z) e start_pair) (λ a. absurd a) i

  -- what the pairs that were found say
  pub decided : (us : List PlaceSets) → IsAmong us u → ArePairs g leaf before us → ((v : PlaceSets) (b : ℕ) → IsAmong us v → IsDoneFor g us v b) → (yes : Bool) → MatchBool yes (AllHold g us) (SomeFails g us) → MatchBool yes (IsCoveredBy g leaf before) (IsUncoveredBy g leaf before)
  decided us here pairs closed true h = is_covered g leaf before us u first_reached second_reached here closed h
  decided us here pairs closed false (v, i, f) = is_uncovered g leaf before v (pairs v i) f.0 f.1

-- the first pair alone
pub kept_first : (g : Graph) (s : MetSets) (p p' : Pairs) (q : SetPair) → AreSetsMet g s → p.met.keys ≡ [] → HasNumbers (met_sets s) q → IsEntered p.met.keys q p'.met.keys → length p'.met.keys ≤ p.most → p'.most ≡ p.most → ArePairsKept g s p'
kept_first g s p p' q met none numbered h within same = record {
  sets = met;
  within = subst (λ z. length p'.met.keys ≤ z) (sym same) within;
  different = subst AllDifferent (sym one) ((λ i. i), tt);
  numbered = λ r i. ⊎_elim (λ e. subst (HasNumbers (met_sets s)) e numbered) (λ a. absurd a) (subst (λ z. IsAmong z r) one i);
}
  where
    one : p'.met.keys ≡ q ∷ []
    one = first_entered p.met.keys p'.met.keys q none h

-- by whether the second part of a pair holds the end, where the first does
pub fails_by : (P Q : Type 0) (b : Bool) → P → MatchBool b Q (Q → ⊥) → MatchBool (not b) (P × (Q → ⊥)) (P → Q)
fails_by P Q true p h = λ e. h
fails_by P Q false p h = (p, h)
