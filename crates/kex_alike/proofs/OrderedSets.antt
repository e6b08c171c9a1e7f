-- Sets of nodes as lists that fall, and as lists in whatever order: as many pairs.
use Rattle.std.proofs.Common.{◌≡◌, ℕ, suc, ◌<◌, ◌≤◌, List, [], ◌∷◌, ◌++◌, ◌⊎◌, inl, inr, ⊎_elim, length, refl, sym, ap, ap₂, subst, ◌∙◌, arith}
use Rattle.std.proofs.lemmas.Bool.{cases_eq}
use Rattle.kex_code.specs.Codes.{IsAmong}
use Rattle.kex_model.specs.Labelled.{Shape, place, parts}
use Rattle.kex_model.specs.States.{AllDifferent, IsState}
use Rattle.kex_model.proofs.DistinctItems.{different_fits}
use Rattle.kex_machine.specs.Nodes.{Graph, node_moves}
use Rattle.kex_paths.specs.Nexts.{places_of}
use Rattle.kex_cover.specs.Pairs.{Falls, PlaceSets, IsPlaceSetOf, GetsTo, AreReached, IsPair, HasPairs, HasMorePairs}
use Rattle.kex_cover.specs.Optimal.{EachAsksAtMost, SomeAsksMore}
use Rattle.kex_cover.proofs.MetPairs.{one_set}
use Rattle.kex_alike.specs.StageTests.{TwoSets, SameMembers, SameSets, AllApart, leaves_in, AreLedTo, IsPairBy, HasMorePairsThan, SomeTestHasMore}

-- ---- each list has a set of its places

higher : (n x : ℕ) → (n ≡ x → ⊥) → (x < n) ⊎ (n < x)
higher n x ne = grind arith

below : (a b c : ℕ) → a < b → b < c → a < c
below a b c l k = omega (arith, l, k)

-- one place more
with_place : (n : ℕ) (xs : List ℕ) → Falls xs → (ys : List ℕ) × IsPlaceSetOf (n ∷ xs) ys
with_place n [] h = (n ∷ [], record { falls = ((λ y i. absurd i), tt); real = λ q i. i; all = λ q i. i })
with_place n (x ∷ xs) h = ⊎_elim same (λ ne. ⊎_elim first (later (with_place n xs h.1)) (higher n x ne)) (cases_eq n x)
  where
    same : n ≡ x → (ys : List ℕ) × IsPlaceSetOf (n ∷ x ∷ xs) ys
    same e = (x ∷ xs, record { falls = h; real = λ q i. inr i; all = λ q i. ⊎_elim (λ f. inl (sym e ∙ f)) (λ j. j) i })

    first : x < n → (ys : List ℕ) × IsPlaceSetOf (n ∷ x ∷ xs) ys
    first lt = (n ∷ x ∷ xs, record { falls = ((λ y i. ⊎_elim (λ e. subst (λ z. z < n) e lt) (λ j. below y x n (h.0 y j) lt) i), h); real = λ q i. i; all = λ q i. i })

    later : (ys : List ℕ) × IsPlaceSetOf (n ∷ xs) ys → n < x → (ys : List ℕ) × IsPlaceSetOf (n ∷ x ∷ xs) ys
    later (ys, r) lt = (
      x ∷ ys,
      record {
        falls = ((λ y i. ⊎_elim (λ e. subst (λ z. z < x) e lt) (λ j. h.0 y j) (r.real y i)), r.falls);
        real = λ q i. ⊎_elim (λ e. inr (inl e)) (λ j. ⊎_elim (λ e. inl e) (λ k. inr (inr k)) (r.real q j)) i;
        all = λ q i. ⊎_elim (λ e. inr (r.all q (inl e))) (λ j. ⊎_elim (λ e. inl e) (λ k. inr (r.all q (inr k))) j) i;
      },
    )

place_set : (xs : List ℕ) → (ys : List ℕ) × IsPlaceSetOf xs ys
place_set [] = ([], record { falls = tt; real = λ q i. i; all = λ q i. i })
place_set (x ∷ xs) =
    let r = place_set xs in
    let s = with_place x r.0 r.1.falls in (
      s.0,
      record {
        falls = s.1.falls;
        real = λ q i. ⊎_elim (λ e. inl e) (λ j. inr (r.1.real q j)) (s.1.real q i);
        all = λ q i. s.1.all q (⊎_elim (λ e. inl e) (λ j. inr (r.1.all q j)) i);
      },
    )

none_of : (xs ys : List ℕ) → ((q : ℕ) → IsAmong xs q → IsAmong ys q) → ys ≡ [] → xs ≡ []
none_of [] ys f e = refl
none_of (x ∷ xs) ys f e = absurd (subst (λ z. IsAmong z x) e (f x (inl refl)))

-- ---- pairs

module _ (g : Graph) where
  abbrev pub Leads : ℕ → List ℕ → ℕ → Type 0
  Leads p x q = GetsTo g p x q

  unordered : (from x to : List ℕ) → AreReached g from x to → AreLedTo Leads from x to
  unordered from x to r = record { real = r.real; all = r.all }

  ordered : (from x to set : List ℕ) → AreLedTo Leads from x to → IsPlaceSetOf to set → AreReached g from x set
  ordered from x to set r s = record { falls = s.falls; real = λ q i. r.real q (s.real q i); all = λ p q i w. s.all q (r.all p q i w) }

  module _ (p : ℕ) (Q : List ℕ) where
    abbrev loose : PlaceSets → TwoSets ℕ
    loose u = record { first = u.first; second = u.second }

    loose_pair : (u : PlaceSets) → IsPair g p Q u → IsPairBy Leads p Q (loose u)
    loose_pair u (x, a, b, some) = (x, unordered (p ∷ []) x u.first a, unordered Q x u.second b, some)

    one_loose : (u v : PlaceSets) → IsPair g p Q u → IsPair g p Q v → SameSets (loose u) (loose v) → u ≡ v
    one_loose u v (x, a, b, some) (y, c, d, some') same =
        ap₂ (λ s t. record { first = s; second = t })
        (one_set u.first v.first a.falls c.falls (λ q i. (same.0 q).0 i) (λ q i. (same.0 q).1 i))
        (one_set u.second v.second b.falls d.falls (λ q i. (same.1 q).0 i) (λ q i. (same.1 q).1 i))

    -- the same pairs without an order, which are apart
    record LoosePairs (us : List PlaceSets) : Type 0 where
      pairs : List (TwoSets ℕ)
      long : length pairs ≡ length us
      each : (v : TwoSets ℕ) → IsAmong pairs v → IsPairBy Leads p Q v
      source : (v : TwoSets ℕ) → IsAmong pairs v → (u : PlaceSets) × IsAmong us u × (loose u ≡ v)
      apart : AllDifferent us → AllApart pairs

    loosened : (us : List PlaceSets) → ((u : PlaceSets) → IsAmong us u → IsPair g p Q u) → LoosePairs us
    loosened [] all = record { pairs = []; long = refl; each = λ v i. absurd i; source = λ v i. absurd i; apart = λ d. tt }
    loosened (u ∷ us) all =
        let rest = loosened us (λ z i. all z (inr i)) in
        let is = loose_pair u (all u (inl refl)) in
        record {
          pairs = loose u ∷ rest.pairs;
          long = ap suc rest.long;
          each = λ v i. ⊎_elim (λ e. subst (λ z. IsPairBy Leads p Q z) e is) (λ j. rest.each v j) i;
          source = λ v i. ⊎_elim (λ e. (u, inl refl, e)) (λ j. let y = rest.source v j in (y.0, inr y.1, y.2)) i;
          apart = λ d. ((λ v i same. let y = rest.source v i in d.0 (subst (λ z. IsAmong us z) (sym (one_loose u y.0 (all u (inl refl)) (all y.0 (inr y.1)) (subst (λ z. SameSets (loose u) z) (sym y.2) same))) y.1)), rest.apart d.1);
        }

    pub without_order : (most : ℕ) → HasMorePairs g p Q most → HasMorePairsThan Leads p Q most
    without_order most (us, long, different, each) =
        let all = loosened us each in
        (all.pairs, omega (arith, all.long, long), all.apart different, all.each)

    -- sets in order, of the same places
    record IsInOrder (u : TwoSets ℕ) (v : PlaceSets) : Type 0 where
      first : IsPlaceSetOf u.first v.first
      second : IsPlaceSetOf u.second v.second

    put_in_order : (u : TwoSets ℕ) → (v : PlaceSets) × IsInOrder u v
    put_in_order u =
        let s = place_set u.first in
        let t = place_set u.second in
        (record { first = s.0; second = t.0 }, record { first = s.1; second = t.1 })

    pair_in_order : (u : TwoSets ℕ) (v : PlaceSets) → IsInOrder u v → IsPairBy Leads p Q u → IsPair g p Q v
    pair_in_order u v o (x, a, b, some) = (x, ordered (p ∷ []) x u.first v.first a o.first, ordered Q x u.second v.second b o.second, λ e. some (none_of u.first v.first o.first.all e))

    members : (xs ys set : List ℕ) → IsPlaceSetOf xs set → IsPlaceSetOf ys set → SameMembers xs ys
    members xs ys set a b q = ((λ i. b.real q (a.all q i)), (λ i. a.real q (b.all q i)))

    same_loose : (u u' : TwoSets ℕ) (v : PlaceSets) → IsInOrder u v → IsInOrder u' v → SameSets u u'
    same_loose u u' v a b = (members u.first u'.first v.first a.first b.first, members u.second u'.second v.second a.second b.second)

    -- the same pairs in order, which are different
    record PairsInOrder (us : List (TwoSets ℕ)) : Type 0 where
      pairs : List PlaceSets
      long : length pairs ≡ length us
      each : (v : PlaceSets) → IsAmong pairs v → IsPair g p Q v
      source : (v : PlaceSets) → IsAmong pairs v → (u : TwoSets ℕ) × IsAmong us u × IsInOrder u v
      different : AllApart us → AllDifferent pairs

    in_order : (us : List (TwoSets ℕ)) → ((u : TwoSets ℕ) → IsAmong us u → IsPairBy Leads p Q u) → PairsInOrder us
    in_order [] all = record { pairs = []; long = refl; each = λ v i. absurd i; source = λ v i. absurd i; different = λ d. tt }
    in_order (u ∷ us) all =
        let x = put_in_order u in
        let is = pair_in_order u x.0 x.1 (all u (inl refl)) in
        let rest = in_order us (λ z i. all z (inr i)) in
        record {
          pairs = x.0 ∷ rest.pairs;
          long = ap suc rest.long;
          each = λ v i. ⊎_elim (λ e. subst (λ z. IsPair g p Q z) e is) (λ j. rest.each v j) i;
          source = λ v i. ⊎_elim (λ e. (u, inl refl, subst (λ z. IsInOrder u z) e x.1)) (λ j. let y = rest.source v j in (y.0, inr y.1, y.2)) i;
          different = λ d. ((λ i. let y = rest.source x.0 i in d.0 y.0 y.1 (same_loose u y.0 x.0 x.1 y.2)), rest.different d.1);
        }

    pub with_order : (most : ℕ) → HasMorePairsThan Leads p Q most → HasMorePairs g p Q most
    with_order most (us, long, apart, each) =
        let all = in_order us each in
        (all.pairs, omega (arith, all.long, long), all.different apart, all.each)

  -- ---- tests

  abbrev pub IsNodeState : Shape ℕ → Type 0
  IsNodeState s = IsState (node_moves g.nodes) g.start s

  same_leaves : (s : Shape ℕ) → leaves_in s ≡ places_of s
  same_leaves (place p) = refl
  same_leaves (parts l r) = ap₂ (λ xs ys. xs ++ ys) (same_leaves l) (same_leaves r)

  pub test_without_order : (most : ℕ) → SomeAsksMore g most → SomeTestHasMore Leads IsNodeState most
  test_without_order most (s, is, (front, p, back, e, some, more)) = (s, is, (front, p, back, same_leaves s ∙ e, some, without_order p front most more))

  pub test_with_order : (most : ℕ) → SomeTestHasMore Leads IsNodeState most → SomeAsksMore g most
  test_with_order most (s, is, (front, p, back, e, some, more)) = (s, is, (front, p, back, sym (same_leaves s) ∙ e, some, with_order p front most more))

  -- there aren't both more than `most` pairs and n of them at most
  not_both : (p : ℕ) (Q : List ℕ) (n most : ℕ) → n ≤ most → HasPairs g p Q n → HasMorePairs g p Q most → ⊥
  not_both p Q n most le h (us, long, different, each) =
      let few : length us ≤ length h.pairs = different_fits us h.pairs different (λ u i. h.all u (each u i)) in
      let count = h.count in
      omega (arith, le, long, few, count)

  pub asks_one : (most : ℕ) → EachAsksAtMost g most → SomeAsksMore g most → ⊥
  asks_one most each (s, is, (front, p, back, e, some, more)) =
      let x = each s is front p back e some in
      not_both p front x.0 most x.1 x.2 more
