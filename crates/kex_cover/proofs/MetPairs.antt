-- Pairs of sets: each text leads to one pair, which is among those that a search has found; and what they say of covering.
use Rattle.std.proofs.Common.{◌≡◌, ℕ, ◌<◌, List, [], ◌∷◌, ◌++◌, ◌⊎◌, inl, inr, ⊎_elim, length, refl, sym, ap, ap₂, subst, ◌∙◌, append-nil, append_assoc, arith}
use Rattle.kex_code.specs.declared.symbol.Symbol.TheVariants.{Byte}
use Rattle.kex_code.specs.Codes.{bytes_of, IsAmong}
use Rattle.kex_model.specs.Moves.{Move, Step, took, chose, went, Allows, code_of, Walk, Waits, IsWaiting}
use Rattle.kex_model.specs.States.{AllDifferent}
use Rattle.kex_model.proofs.Walks.{bytes_of-append}
use Rattle.kex_model.proofs.Derivations.{code_of-append, walk-append}
use Rattle.kex_machine.specs.Nodes.{Graph, node_moves}
use Rattle.kex_machine.proofs.StraightWalks.{split, no_side, no_effect}
use Rattle.kex_cover.specs.Pairs.{Falls, PlaceSets, GetsTo, AreReached, IsPair, HasPairs, HoldsEnd, IsCoveredBy, IsUncoveredBy, PairsHold, ArePlacesAfter, IsPlaceSetOf}
use Rattle.kex_cover.specs.Searches.{IsDoneFor}

below_itself : {X : Type 0} (x : ℕ) → x < x → X
below_itself x h = absurd (omega (arith, h))

-- two falling lists with the same members are one
pub one_set : (xs ys : List ℕ) → Falls xs → Falls ys → ((q : ℕ) → IsAmong xs q → IsAmong ys q) → ((q : ℕ) → IsAmong ys q → IsAmong xs q) → xs ≡ ys
one_set [] [] h k f b = refl
one_set [] (y ∷ ys) h k f b = absurd (b y (inl refl))
one_set (x ∷ xs) [] h k f b = absurd (f x (inl refl))
one_set (x ∷ xs) (y ∷ ys) h k f b = ap₂ (λ u v. u ∷ v) same (one_set xs ys h.1 k.1 down up)
  where
    same : x ≡ y
    same = ⊎_elim (λ e. sym e) (λ i. ⊎_elim (λ e. e) (λ j. let p = k.0 x i in let q = h.0 y j in absurd (omega (arith, p, q))) (b y (inl refl))) (f x (inl refl))

    down : (q : ℕ) → IsAmong xs q → IsAmong ys q
    down q i = ⊎_elim (λ e. below_itself x (subst (λ z. z < x) (sym e ∙ sym same) (h.0 q i))) (λ j. j) (f q (inr i))

    up : (q : ℕ) → IsAmong ys q → IsAmong xs q
    up q i = ⊎_elim (λ e. below_itself y (subst (λ z. z < y) (sym e ∙ same) (k.0 q i))) (λ j. j) (b q (inr i))

module _ (g : Graph) where
  abbrev ms : ℕ → Move ℕ
  ms = node_moves g.nodes

  pub one_reached : (from x s t : List ℕ) → AreReached g from x s → AreReached g from x t → s ≡ t
  one_reached from x s t h k = one_set s t h.falls k.falls (λ q i. let r = h.real q i in k.all r.0 q r.1 r.2) (λ q i. let r = k.real q i in h.all r.0 q r.1 r.2)

  pub one_after : (from : List ℕ) (b : ℕ) (s t : List ℕ) → ArePlacesAfter g from b s → ArePlacesAfter g from b t → s ≡ t
  one_after from b s t h k = one_set s t h.falls k.falls (λ q i. let r = h.real q i in k.all q r.0 r.1) (λ q i. let r = k.real q i in h.all q r.0 r.1)

  -- a text of one byte more, by the waiting place before the byte
  abbrev pub ByByte : ℕ → ℕ → ℕ → Type 0
  ByByte m b q = (t : ℕ) × Allows (ms m) (took b t) × ((ks : List (Step ℕ)) × Walk ms t ks q × (bytes_of (code_of ks) ≡ []))

  pub gets_before : (p q : ℕ) (x : List ℕ) (b : ℕ) → GetsTo g p (x ++ b ∷ []) q → (m : ℕ) × GetsTo g p x m × ByByte m b q
  gets_before p q x b (ks, walk, waits, bytes) =
      let r = split ms ks p q x (b ∷ []) walk waits bytes in
      (r.at, (r.front, r.first, r.waits, r.front_bytes), by r.at r.waits r.back r.last r.back_bytes)
    where
      by : (m : ℕ) → Waits ms m → (back : List (Step ℕ)) → Walk ms m back q → bytes_of (code_of back) ≡ b ∷ [] → ByByte m b q
      by m h [] walk e = cc
      by m h (took y t ∷ back) walk e =
          let same : y ≡ b = cc in
          let quiet : bytes_of (code_of back) ≡ [] = cc in
          (t, subst (λ z. Allows (ms m) (took z t)) same walk.0, (back, walk.1, quiet))
      by m h (chose y t ∷ back) walk e = absurd (no_side h walk.0)
      by m h (went y t ∷ back) walk e = absurd (no_effect h walk.0)

  pub gets_more : (p m q : ℕ) (x : List ℕ) (b : ℕ) → GetsTo g p x m → ByByte m b q → Waits ms q → GetsTo g p (x ++ b ∷ []) q
  gets_more p m q x b (ks, walk, waits, bytes) (t, a, (js, on, quiet)) h = (
    ks ++ took b t ∷ js,
    walk-append ms ks (took b t ∷ js) p m q walk (a, on),
    h,
    ap bytes_of (code_of-append ks (took b t ∷ js)) ∙ bytes_of-append (code_of ks) (Byte b ∷ code_of js) ∙ ap₂ (λ u v. u ++ b ∷ v) bytes quiet,
  )

  -- the sets of a longer text come of those of the shorter
  pub reached_after : (from x s : List ℕ) (b : ℕ) (t : List ℕ) → AreReached g from x s → ArePlacesAfter g s b t → AreReached g from (x ++ b ∷ []) t
  reached_after from x s b t h k = record {
    falls = k.falls;
    real = λ q i. let r = k.real q i in let m = h.real r.0.0 r.0.1 in (m.0, m.1, gets_more m.0 r.0.0 q x b m.2 r.0.2 r.1);
    all = λ p q i w. let r = gets_before p q x b w in k.all q (r.0, h.all p r.0 i r.1, r.2) w.2;
  }

  from_waiting : (p q : ℕ) (ks : List (Step ℕ)) → Waits ms p → Walk ms p ks q → bytes_of (code_of ks) ≡ [] → p ≡ q
  from_waiting p q [] h walk e = walk
  from_waiting p q (took y t ∷ ks) h walk e = cc
  from_waiting p q (chose y t ∷ ks) h walk e = absurd (no_side h walk.0)
  from_waiting p q (went y t ∷ ks) h walk e = absurd (no_effect h walk.0)

  -- the sets of the empty text are the places themselves
  pub reached_none : (from set : List ℕ) → IsPlaceSetOf from set → ((q : ℕ) → IsAmong from q → Waits ms q) → AreReached g from [] set
  reached_none from set h waits = record {
    falls = h.falls;
    real = λ q i. let j = h.real q i in (q, j, ([], refl, waits q j, refl));
    all = λ p q i (ks, walk, w, e). h.all q (subst (λ z. IsAmong from z) (from_waiting p q ks (waits p i) walk e) i);
  }

  module _ (p : ℕ) (Q : List ℕ) (us : List PlaceSets) (start : PlaceSets) (begins : AreReached g (p ∷ []) [] start.first) (begins_too : AreReached g Q [] start.second) (here : IsAmong us start) (closed : (u : PlaceSets) (b : ℕ) → IsAmong us u → IsDoneFor g us u b) where
    -- the pair that a text leads to
    pub record Met (x : List ℕ) : Type 0 where
      pub sets : PlaceSets
      pub among : IsAmong us sets
      pub first : AreReached g (p ∷ []) x sets.first
      pub second : AreReached g Q x sets.second

    abbrev pub MetOr : List ℕ → Type 0
    MetOr x = ((q : ℕ) → GetsTo g p x q → ⊥) ⊎ Met x

    met_next : (x : List ℕ) (b : ℕ) → MetOr x → MetOr (x ++ b ∷ [])
    met_next x b (inl none) = inl (λ q w. let r = gets_before p q x b w in none r.0 r.1)
    met_next x b (inr m) =
        let d = closed m.sets b m.among in
        let f = reached_after (p ∷ []) x m.sets.first b d.0 m.first d.1 in
        ⊎_elim
        (λ e. inl (λ q w. subst (λ z. IsAmong z q) e (f.all p q (inl refl) w)))
        (λ s. inr (record { sets = record { first = d.0; second = s.0 }; among = s.2; first = f; second = reached_after Q x m.sets.second b s.0 m.second s.1 }))
        d.2

    met_along : (x v : List ℕ) → MetOr x → MetOr (x ++ v)
    met_along x [] h = subst (λ z. MetOr z) (sym (append-nil x)) h
    met_along x (b ∷ v) h = subst (λ z. MetOr z) (append_assoc x (b ∷ []) v) (met_along (x ++ b ∷ []) v (met_next x b h))

    -- each text leads nowhere from p, or to a pair that was found
    pub met : (x : List ℕ) → MetOr x
    met x = met_along [] x (inr (record { sets = start; among = here; first = begins; second = begins_too }))

    same_sets : (u v : PlaceSets) → u.first ≡ v.first → u.second ≡ v.second → u ≡ v
    same_sets u v e f = ap₂ (λ a b. record { first = a; second = b }) e f

    -- so all pairs were found
    pub all_found : (u : PlaceSets) → IsPair g p Q u → IsAmong us u
    all_found u (x, f, s, some) =
        ⊎_elim
        (λ none. absurd (some (empty u.first (λ q i. let r = f.real q i in let here : r.0 ≡ p = ⊎_elim (λ e. sym e) (λ k. absurd k) r.1 in none q (subst (λ z. GetsTo g z x q) here r.2)))))
        (λ m. subst (λ z. IsAmong us z) (same_sets m.sets u (one_reached (p ∷ []) x m.sets.first u.first m.first f) (one_reached Q x m.sets.second u.second m.second s)) m.among)
        (met x)
      where
        empty : (xs : List ℕ) → ((q : ℕ) → IsAmong xs q → ⊥) → xs ≡ []
        empty [] h = refl
        empty (y ∷ xs) h = absurd (h y (inl refl))

    pub has_pairs : AllDifferent us → ((u : PlaceSets) → IsAmong us u → IsPair g p Q u) → HasPairs g p Q (length us)
    has_pairs different each = record { pairs = us; count = refl; different = different; each = each; all = all_found }

    -- where each pair found whose first part holds the end holds it in the second too, p is covered
    pub is_covered : ((u : PlaceSets) → IsAmong us u → HoldsEnd g u.first → HoldsEnd g u.second) → IsCoveredBy g p Q
    is_covered hold x (ks, e, walk, acc, bytes) =
        let to : GetsTo g p x e = (ks, walk, subst (λ z. IsWaiting z) (sym acc) tt, bytes) in
        ⊎_elim
        (λ none. absurd (none e to))
        (λ m.
        let h = hold m.sets m.among (e, m.first.all p e (inl refl) to, acc) in
        let r = m.second.real h.0 h.1 in
        (r.0, r.1, (r.2.0, h.0, r.2.1, h.2, r.2.3)))
        (met x)

  -- a pair whose first part alone holds the end shows that p isn't covered
  pub is_uncovered : (p : ℕ) (Q : List ℕ) (u : PlaceSets) → IsPair g p Q u → HoldsEnd g u.first → (HoldsEnd g u.second → ⊥) → IsUncoveredBy g p Q
  is_uncovered p Q u (x, f, s, some) (e, i, acc) none =
      let r = f.real e i in
      let here : r.0 ≡ p = ⊎_elim (λ q. sym q) (λ k. absurd k) r.1 in
      let w = subst (λ z. GetsTo g z x e) here r.2 in
      (x, (w.0, e, w.1, acc, w.3), (λ q j (ks, e', walk, acc', bytes). none (e', s.all q e' j (ks, walk, subst (λ z. IsWaiting z) (sym acc') tt, bytes), acc')))

  -- where it is covered the pairs say so: one way
  pub covered_holds : (p : ℕ) (Q : List ℕ) → IsCoveredBy g p Q → PairsHold g p Q
  covered_holds p Q covered u (x, f, s, some) (e, i, acc) =
      let r = f.real e i in
      let here : r.0 ≡ p = ⊎_elim (λ q. sym q) (λ k. absurd k) r.1 in
      let w = subst (λ z. GetsTo g z x e) here r.2 in
      let c = covered x (w.0, e, w.1, acc, w.3) in
      let on = c.2 in
      (on.1, s.all c.0 on.1 c.1 (on.0, on.2, subst (λ z. IsWaiting z) (sym on.3) tt, on.4), on.3)
