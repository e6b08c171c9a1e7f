-- The last component is closed, since nothing is ahead of it.
use Rattle.std.proofs.Common.{◌≡◌, ◌≢◌, ℕ, ◌<◌, ◌≤◌, ◌+◌, List, [], ◌∷◌, ◌++◌, ◌⊎◌, inl, inr, ⊎_elim, Some, length, get_or, set, refl, sym, ap, subst, ◌∙◌, length-append, length-set, get_or-set_other, arith}
use Rattle.std.specs.Prelude.{Option, None, MatchOption}
use Rattle.std.specs.Option.{option_to_list}
use Rattle.std.proofs.lemmas.Option.{slice_get_within}
use Rattle.kex_code.specs.Codes.{HasNumber}
use Rattle.kex_model.proofs.Tables.{get_more, get_last, get_pushed}
use Rattle.kex_rules.specs.declared.components.Mark.{Mark}
use Rattle.kex_rules.specs.declared.components.Mark.TheVariants.{Unseen, Open, Closed}
use Rattle.kex_rules.specs.declared.components.Bound.{Bound}
use Rattle.kex_rules.specs.Graphs.{Leads, AreComponents}
use Rattle.kex_rules.specs.Searches.{unseen_count, Met, is_closed, is_open, is_ahead, in_hand, IsSearch, ClosesPath}
use Rattle.kex_rules.proofs.Marks.{same_or_not, less_or_not, at_most_or_not, number_front, mark_set, one_number, unseen_count-closed}

-- nothing is closed yet
pub closes_none : (p closed : ℕ) (path : List ℕ) (marks : List Mark) → ClosesPath p p closed path marks marks
closes_none p closed path marks = record { long = refl; done = λ v i le lt h. absurd (omega arith); kept = λ v n. refl; count = omega arith }

-- one more is closed
pub closes_more : (p q closed : ℕ) (path : List ℕ) (old mid : List Mark) (v : ℕ) → p ≤ q → HasNumber path v q → v < length old → ClosesPath p q closed path old mid → ClosesPath p (q + 1) closed path old (set mid v (Closed closed))
closes_more p q closed path old mid v le h lt c = record {
  long = length-set mid v (Closed closed) ∙ c.long;
  done = λ u i l m k. ⊎_elim (λ e. mark_set mid v u (Closed closed) fits e) (λ ne. get_or-set_other mid v u (Closed closed) Unseen ne ∙ c.done u i l (earlier u i m k ne) k) (same_or_not v u);
  kept = λ u n. ⊎_elim (λ e. absurd (n q le (omega arith) (subst (λ z. HasNumber path z q) e h))) (λ ne. get_or-set_other mid v u (Closed closed) Unseen ne ∙ c.kept u (λ i l m k. n i l (omega arith) k)) (same_or_not v u);
  count = let m : unseen_count (set mid v (Closed closed)) ≤ unseen_count mid = unseen_count-closed mid v closed in omega (arith, c.count);
}
  where
    fits : v < length mid
    fits = omega (arith, c.long)

    earlier : (u i : ℕ) → i < q + 1 → HasNumber path u i → u ≢ v → i < q
    earlier u i m k ne = ⊎_elim (λ l. l) (λ l. let e : q ≡ i = omega arith in absurd (ne (one_number path u v i k (subst (λ z. HasNumber path v z) e h)))) (less_or_not i q)

-- past the end of the path there is no more
pub closes_whole : (p q closed : ℕ) (path : List ℕ) (old new : List Mark) → length path ≤ q → ClosesPath p q closed path old new → ClosesPath p (length path) closed path old new
closes_whole p q closed path old new le c = record {
  long = c.long;
  done = λ v i l m h. c.done v i l (omega arith) h;
  kept = λ v n. c.kept v (λ i l m h. n i l (slice_get_within path i v h) h);
  count = c.count;
}

-- the last bound is taken off
pub last_off : (xs ys : List Bound) (r : Option Bound) (b : Bound) (k n m : ℕ) → xs ≡ ys ++ option_to_list r → MatchOption r ((n ≡ 0) × (m ≡ 0)) (λ _. m + 1 ≡ n) → n ≡ length xs → length xs ≡ k + 1 → HasNumber xs b k → xs ≡ ys ++ b ∷ []
last_off xs ys None b k n m e c long len h = let z : n ≡ 0 = c.0 in absurd (omega arith)
last_off xs ys (Some x) b k n m e c long len h =
    let size : k ≡ length ys = omega (arith, ap length e, length-append ys (x ∷ [])) in
    let there : HasNumber xs x k = subst (λ z. HasNumber z x k) (sym e) (subst (λ z. HasNumber (ys ++ x ∷ []) x z) (sym size) (get_last ys x)) in
    e ∙ ap (λ z. ys ++ z ∷ []) (one_number xs x b k there h)

module _ (f : ℕ → List ℕ) (count : ℕ) where
  pub closed_off : (marks marks' : List Mark) (path path' gone ahead : List ℕ) (bounds : List Bound) (top : Bound) (closed : ℕ) →
      IsSearch f count [] marks path ahead (bounds ++ top ∷ []) closed → length ahead ≤ top.ahead → path ≡ path' ++ gone → length path' ≡ top.path → ClosesPath top.path (length path) closed path marks marks' →
      IsSearch f count [] marks' path' ahead bounds (closed + 1)
  closed_off marks marks' path path' gone ahead bounds top closed s low split len c = record {
    long = c.long ∙ s.long;
    opened = λ v i h. still v i (more v i h) (inside v i h);
    listed = λ v i e. was_open v i e;
    onward = λ u v i j hu hv le. s.onward u v i j (more u i hu) (more v j hv) le;
    back = λ u v i j hu hv le n. s.back u v i j (more u i hu) (more v j hv) le (λ k b hb l. ⊎_elim (λ old. n k b old l) (λ g. let e : top.path ≡ b.path = ap (λ z. z.path) g.1 in let m : j < top.path = inside v j hv in absurd (omega arith)) (get_pushed bounds top k b hb));
    rising = λ k l b d le hb hd. s.rising k l b d le (get_more bounds (top ∷ []) k b hb) (get_more bounds (top ∷ []) l d hd);
    within = λ k b h. (let r : b.path ≤ top.path = (under k b h).0 in omega arith, (s.within k b (get_more bounds (top ∷ []) k b h)).1);
    first = λ b h. s.first b (get_more bounds (top ∷ []) 0 b h);
    based = λ v i h. based_on bounds (λ e. let g : HasNumber (bounds ++ top ∷ []) top 0 = subst (λ z. HasNumber (bounds ++ top ∷ []) top z) e (get_last bounds top) in let z : top.path ≡ 0 = s.first top g in let m : i < top.path = inside v i h in omega arith);
    sourced = λ w q h.
        let o = s.sourced w q h in
        let early : q < top.ahead = (let l : q < length ahead = slice_get_within ahead q w h in omega arith) in
        (o.0, o.1, front o.0 o.1 o.2 ((o.4 (length bounds) top (get_last bounds top)).1 early), o.3, (λ k b hb. o.4 k b (get_more bounds (top ∷ []) k b hb)));
    met = λ u i w hu e. again i w (s.met u i w (more u i hu) e);
    falls = λ u a w e i. ⊎_elim
        (λ old. let r = s.falls u a w old i in (r.0, after w r.0 r.1, r.2))
        (λ new. closed_met new.0 w a new.1 new.3 (s.met u new.0 w new.2 i))
        (was_closed u a e);
    same = λ u v a eu ev. ⊎_elim
        (λ ou. ⊎_elim (λ ov. s.same u v a ou ov) (λ nv. let l : a < closed = s.fresh u a ou in let q : a ≡ closed = nv.3 in absurd (omega arith)) (was_closed v a ev))
        (λ nu. ⊎_elim (λ ov. let l : a < closed = s.fresh v a ov in let q : a ≡ closed = nu.3 in absurd (omega arith)) (λ nv. together u v nu.0 nv.0 nu.2 nv.2 nu.1 nv.1) (was_closed v a ev))
        (was_closed u a eu);
    fresh = λ u a e. ⊎_elim (λ old. let l : a < closed = s.fresh u a old in omega arith) (λ new. let q : a ≡ closed = new.3 in omega arith) (was_closed u a e);
    few = omega (arith, s.few, c.count, length-append bounds (top ∷ []));
  }
    where
      more : (v i : ℕ) → HasNumber path' v i → HasNumber path v i
      more v i h = subst (λ z. HasNumber z v i) (sym split) (get_more path' gone i v h)

      inside : (v i : ℕ) → HasNumber path' v i → i < top.path
      inside v i h = let l : i < length path' = slice_get_within path' i v h in omega arith

      front : (v i : ℕ) → HasNumber path v i → i < top.path → HasNumber path' v i
      front v i h l = number_front path' gone i v (subst (λ z. HasNumber z v i) split h) (omega arith)

      under : (k : ℕ) (b : Bound) → HasNumber bounds b k → (b.path ≤ top.path) × (b.ahead ≤ top.ahead)
      under k b h = s.rising k (length bounds) b top (let l : k < length bounds = slice_get_within bounds k b h in omega arith) (get_more bounds (top ∷ []) k b h) (get_last bounds top)

      based_on : (bs : List Bound) → (length bs ≡ 0 → ⊥) → 0 < length bs
      based_on [] n = absurd (n refl)
      based_on (b ∷ bs) n = omega arith

      still : (v i : ℕ) → HasNumber path v i → i < top.path → get_or marks' v Unseen ≡ Open i
      still v i h l = c.kept v (λ j le lt k. let e : Open i ≡ Open j = sym (s.opened v i h) ∙ s.opened v j k in let q : i ≡ j = cc in omega arith) ∙ s.opened v i h

      shut : (v i : ℕ) → HasNumber path v i → top.path ≤ i → get_or marks' v Unseen ≡ Closed closed
      shut v i h le = c.done v i le (slice_get_within path i v h) h

      after : (v a : ℕ) → get_or marks v Unseen ≡ Closed a → get_or marks' v Unseen ≡ Closed a
      after v a e = c.kept v (λ j le lt k. let n : Closed a ≡ Open j = sym e ∙ s.opened v j k in cc) ∙ e

      unmet : (v : ℕ) → get_or marks v Unseen ≡ Unseen → get_or marks' v Unseen ≡ Unseen
      unmet v e = c.kept v (λ j le lt k. let n : Unseen ≡ Open j = sym e ∙ s.opened v j k in cc) ∙ e

      was_open : (v i : ℕ) → get_or marks' v Unseen ≡ Open i → HasNumber path' v i
      was_open v i e = by (get_or marks v Unseen) refl
        where
          by : (m : Mark) → get_or marks v Unseen ≡ m → HasNumber path' v i
          by Unseen g = let n : Unseen ≡ Open i = sym (unmet v g) ∙ e in cc
          by (Open j) g = ⊎_elim
              (λ l. let n : Open j ≡ Open i = sym (still v j (s.listed v j g) l) ∙ e in let q : j ≡ i = cc in subst (λ z. HasNumber path' v z) q (front v j (s.listed v j g) l))
              (λ l. let n : Closed closed ≡ Open i = sym (shut v j (s.listed v j g) l) ∙ e in cc)
              (less_or_not j top.path)
          by (Closed a) g = let n : Closed a ≡ Open i = sym (after v a g) ∙ e in cc

      was_closed : (v a : ℕ) → get_or marks' v Unseen ≡ Closed a → (get_or marks v Unseen ≡ Closed a) ⊎ ((i : ℕ) × (top.path ≤ i) × HasNumber path v i × (a ≡ closed))
      was_closed v a e = by (get_or marks v Unseen) refl
        where
          by : (m : Mark) → get_or marks v Unseen ≡ m → (get_or marks v Unseen ≡ Closed a) ⊎ ((i : ℕ) × (top.path ≤ i) × HasNumber path v i × (a ≡ closed))
          by Unseen g = let n : Unseen ≡ Closed a = sym (unmet v g) ∙ e in cc
          by (Open j) g = ⊎_elim
              (λ l. let n : Open j ≡ Closed a = sym (still v j (s.listed v j g) l) ∙ e in cc)
              (λ l. let n : Closed closed ≡ Closed a = sym (shut v j (s.listed v j g) l) ∙ e in inr (j, l, s.listed v j g, cc))
              (less_or_not j top.path)
          by (Closed b) g = let n : Closed b ≡ Closed a = sym (after v b g) ∙ e in let q : b ≡ a = cc in inl (g ∙ ap (λ z. Closed z) q)

      again : (i w : ℕ) → Met marks ahead (bounds ++ top ∷ []) [] i w → Met marks' ahead bounds [] i w
      again i w (is_closed a e) = is_closed a (after w a e)
      again i w (is_open j e n) = ⊎_elim
          (λ l. is_open j (still w j (s.listed w j e) l) (λ k b hb le. n k b (get_more bounds (top ∷ []) k b hb) le))
          (λ l. is_closed closed (shut w j (s.listed w j e) l))
          (less_or_not j top.path)
      again i w (is_ahead q h n) = is_ahead q h (λ k b hb le. n k b (get_more bounds (top ∷ []) k b hb) le)
      again i w (in_hand h) = absurd h

      -- where the last component leads
      closed_met : (i w a : ℕ) → top.path ≤ i → a ≡ closed → Met marks ahead (bounds ++ top ∷ []) [] i w → (b : ℕ) × (get_or marks' w Unseen ≡ Closed b) × (b ≤ a)
      closed_met i w a le q (is_closed b e) = (b, after w b e, let l : b < closed = s.fresh w b e in omega arith)
      closed_met i w a le q (is_open j e n) = (closed, shut w j (s.listed w j e) (n (length bounds) top (get_last bounds top) le), omega arith)
      closed_met i w a le q (is_ahead m h n) = let l : m < length ahead = slice_get_within ahead m w h in let g : top.ahead ≤ m = n (length bounds) top (get_last bounds top) le in absurd (omega arith)
      closed_met i w a le q (in_hand h) = absurd h

      together : (u v i j : ℕ) → HasNumber path u i → HasNumber path v j → top.path ≤ i → top.path ≤ j → Leads f u v
      together u v i j hu hv li lj = ⊎_elim
          (λ l. s.onward u v i j hu hv l)
          (λ l. s.back v u j i hv hu (omega arith) (λ k b hb m. ⊎_elim (λ old. let r : b.path ≤ top.path = (under k b old).0 in omega arith) (λ g. let e : top.path ≡ b.path = ap (λ z. z.path) g.1 in omega arith) (get_pushed bounds top k b hb)))
          (at_most_or_not i j)

  -- where nothing is open, all that was met is parted
  pub parted : (marks : List Mark) (path ahead : List ℕ) (bounds : List Bound) (closed : ℕ) → IsSearch f count [] marks path ahead bounds closed → bounds ≡ [] → ((v : ℕ) → v < count → get_or marks v Unseen ≡ Unseen → ⊥) → AreComponents f count marks
  parted marks path ahead bounds closed s e n = record {
    long = s.long;
    all = λ v lt. by v lt (get_or marks v Unseen) refl;
    falls = s.falls;
    same = s.same;
  }
    where
      by : (v : ℕ) → v < count → (m : Mark) → get_or marks v Unseen ≡ m → (a : ℕ) × (get_or marks v Unseen ≡ Closed a)
      by v lt Unseen g = absurd (n v lt g)
      by v lt (Open i) g = let l : 0 < length bounds = s.based v i (s.listed v i g) in let z : length bounds ≡ 0 = ap length e in absurd (omega arith)
      by v lt (Closed a) g = (a, g)
