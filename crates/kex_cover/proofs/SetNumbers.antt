-- The sets that were met, when one is put among them, and when a way becomes known.
use Rattle.std.proofs.Common.{◌≡◌, ℕ, zero, suc, ◌<◌, Bool, true, false, List, [], ◌∷◌, ◌++◌, ◌+◌, ◌⊎◌, ⊎_elim, inl, inr, Option, Some, None, length, replicate, set, get_or, refl, sym, ap, subst, ◌∙◌, append-nil, length-append, length-set, arith}
use Rattle.std.proofs.lemmas.List.{length-replicate}
use Rattle.std.specs.Prelude.{slice_get, MatchBool, ◌==◌}
use Rattle.std.specs.Global.{Vec}
use Rattle.std.specs.Option.{option_map}
use Rattle.std.proofs.lemmas.Option.{slice_get-get_or, slice_get-map, slice_get_within}
use Rattle.kex_code.specs.Codes.{Begins, IsAmong}
use Rattle.kex_model.proofs.Shapes.{among-append, among_left, among_right}
use Rattle.kex_model.specs.States.{AllDifferent}
use Rattle.kex_model.proofs.Tables.{get_more, get_pushed, some_same}
use Rattle.kex_machine.specs.Nodes.{Graph}
use Rattle.kex_determine.specs.Numbering.{texts, IsAdded}
use Rattle.kex_cover.specs.declared.met_sets.MetSet.{MetSet}
use Rattle.kex_cover.specs.declared.met_sets.MetSets.{MetSets}
use Rattle.kex_cover.specs.Searches.{AreClassBytes, AreListedTo, AreSetsMet, AreWithin, HasEnd, HaveRoom, IsMetSet, IsWayTo, met_sets}
use Rattle.kex_cover.proofs.Keys.{different-append}
use Rattle.kex_cover.proofs.LeftLeaves.{apart_by, equal_by}

pub get_on : {A : Type 0} (xs ys : List A) (i : ℕ) (x : A) → Begins ys xs → slice_get xs i ≡ Some x → slice_get ys i ≡ Some x
get_on xs ys i x b e = ap (λ z. slice_get z i) b.1 ∙ get_more xs b.0 i x e

-- what is in a list after one item was changed
set_get : {A : Type 0} (xs : List A) (at i : ℕ) (x y : A) → slice_get (set xs at x) i ≡ Some y → (slice_get xs i ≡ Some y) ⊎ ((i ≡ at) × (x ≡ y))
set_get [] at i x y e = cc
set_get (z ∷ xs) zero zero x y e = inr (refl, some_same x y e)
set_get (z ∷ xs) zero (suc i) x y e = inl e
set_get (z ∷ xs) (suc at) zero x y e = inl e
set_get (z ∷ xs) (suc at) (suc i) x y e = ⊎_elim (λ f. inl f) (λ f. inr (ap suc f.0, f.1)) (set_get xs at i x y e)

no_way : (n k to : ℕ) → slice_get (replicate n None) k ≡ Some (Some to) → ⊥
no_way zero k to e = cc
no_way (suc n) zero to e = cc
no_way (suc n) (suc k) to e = no_way n k to e

module _ (g : Graph) where
  pub way_on : (sets more : List (List ℕ)) (from : List ℕ) (b to : ℕ) → Begins more sets → IsWayTo g sets from b to → IsWayTo g more from b to
  way_on sets more from b to begins w = (w.0, get_on sets more to w.0 begins w.1, w.2)

  met_on : (sets more : List (List ℕ)) (bytes x : List ℕ) (m : MetSet) → Begins more sets → IsMetSet g sets bytes x m → IsMetSet g more bytes x m
  met_on sets more bytes x m begins h = record { end = h.end; long = h.long; ways = λ k b to e f. way_on sets more x b to begins (h.ways k b to e f) }

  met_new : (sets : List (List ℕ)) (bytes x : List ℕ) (m : MetSet) → MatchBool m.end (HasEnd g.nodes x) (HasEnd g.nodes x → ⊥) → m.ways.items ≡ replicate (length bytes) None → IsMetSet g sets bytes x m
  met_new sets bytes x m end none = record {
    end = end;
    long = ap length none ∙ length-replicate (length bytes) None;
    ways = λ k b to e f. absurd (no_way (length bytes) k to (ap (λ z. slice_get z k) (sym none) ∙ f));
  }

  module _ (s t : MetSets) (h : AreSetsMet g s) (rooms : HaveRoom (length g.nodes) t.rows) (bytes : t.bytes ≡ s.bytes) where
    listed : AreClassBytes g t.bytes.items
    listed = subst (λ z. AreClassBytes g z.items) (sym bytes) h.bytes

    -- a set as it was known is so among more sets
    kept : (x : List ℕ) (m : MetSet) → Begins (met_sets t) (met_sets s) → IsMetSet g (met_sets s) s.bytes.items x m → IsMetSet g (met_sets t) t.bytes.items x m
    kept x m begins k = subst (λ z. IsMetSet g (met_sets t) z.items x m) (sym bytes) (met_on (met_sets s) (met_sets t) s.bytes.items x m begins k)

    -- the same sets
    pub sets_same : met_sets t ≡ met_sets s → t.met.items ≡ s.met.items → AreSetsMet g t
    sets_same same known = record {
      rooms = rooms;
      bytes = listed;
      within = λ x i. h.within x (subst (λ z. IsAmong z x) same i);
      different = subst AllDifferent (sym same) h.different;
      count = ap length known ∙ h.count ∙ ap length (sym same);
      each = λ i x m e f. kept x m ([], same ∙ sym (append-nil (met_sets s))) (h.each i x m (ap (λ z. slice_get z i) (sym same) ∙ e) (ap (λ z. slice_get z i) (sym known) ∙ f));
    }

    -- one set more
    pub sets_more : (x : List ℕ) (m : MetSet) → (IsAmong (met_sets s) x → ⊥) → met_sets t ≡ met_sets s ++ x ∷ [] → AreWithin (length g.nodes) x → t.met.items ≡ s.met.items ++ m ∷ [] → MatchBool m.end (HasEnd g.nodes x) (HasEnd g.nodes x → ⊥) → m.ways.items ≡ replicate (length s.bytes.items) None → AreSetsMet g t
    sets_more x m nowhere grown within known end none = record {
      rooms = rooms;
      bytes = listed;
      within = λ y i. ⊎_elim (λ j. h.within y j) (λ j. ⊎_elim (λ e. subst (AreWithin (length g.nodes)) e within) (λ a. absurd a) j) (among-append (met_sets s) (x ∷ []) y (subst (λ z. IsAmong z y) grown i));
      different = subst AllDifferent (sym grown) (different-append (met_sets s) x h.different nowhere);
      count = omega (arith, ap length known, length-append s.met.items (m ∷ []), ap length grown, length-append (met_sets s) (x ∷ []), h.count);
      each = λ i y k e f. ⊎_elim
          (λ here. ⊎_elim
          (λ there. kept y k begins (h.each i y k here there))
          (λ last. let lt = slice_get_within (met_sets s) i y here in absurd (omega (arith, lt, h.count, last.0)))
          (get_pushed s.met.items m i k (ap (λ z. slice_get z i) (sym known) ∙ f)))
          (λ last. ⊎_elim
          (λ there. let lt = slice_get_within s.met.items i k there in absurd (omega (arith, lt, h.count, last.0)))
          (λ end_too. subst (λ z. IsMetSet g (met_sets t) t.bytes.items z k) last.1 (subst (λ z. IsMetSet g (met_sets t) t.bytes.items x z) end_too.1 new))
          (get_pushed s.met.items m i k (ap (λ z. slice_get z i) (sym known) ∙ f)))
          (get_pushed (met_sets s) x i y (ap (λ z. slice_get z i) (sym grown) ∙ e));
    }
      where
        begins : Begins (met_sets t) (met_sets s)
        begins = (x ∷ [], grown)

        new : IsMetSet g (met_sets t) t.bytes.items x m
        new = subst (λ z. IsMetSet g (met_sets t) z.items x m) (sym bytes) (met_new (met_sets t) s.bytes.items x m end none)

    -- one way more is known
    pub sets_way : (at class to b : ℕ) (x : List ℕ) (old new : MetSet) → met_sets t ≡ met_sets s → slice_get s.met.items at ≡ Some old → t.met.items ≡ set s.met.items at new → new.end ≡ old.end → new.ways.items ≡ set old.ways.items class (Some to) → slice_get (met_sets s) at ≡ Some x → slice_get s.bytes.items class ≡ Some b → IsWayTo g (met_sets s) x b to → AreSetsMet g t
    sets_way at class to b x old new same here known end ways is byte way = record {
      rooms = rooms;
      bytes = listed;
      within = λ y i. h.within y (subst (λ z. IsAmong z y) same i);
      different = subst AllDifferent (sym same) h.different;
      count = ap length known ∙ length-set s.met.items at new ∙ h.count ∙ ap length (sym same);
      each = λ i y k e f. by i y k (ap (λ z. slice_get z i) (sym same) ∙ e) (set_get s.met.items at i new k (ap (λ z. slice_get z i) (sym known) ∙ f));
    }
      where
        begins : Begins (met_sets t) (met_sets s)
        begins = ([], same ∙ sym (append-nil (met_sets s)))

        was : IsMetSet g (met_sets s) s.bytes.items x old
        was = h.each at x old is here

        now : IsMetSet g (met_sets s) s.bytes.items x new
        now = record {
          end = subst (λ z. MatchBool z (HasEnd g.nodes x) (HasEnd g.nodes x → ⊥)) (sym end) was.end;
          long = ap length ways ∙ length-set old.ways.items class (Some to) ∙ was.long;
          ways = λ k c u e f. ⊎_elim
              (λ there. was.ways k c u e there)
              (λ last. subst (λ z. IsWayTo g (met_sets s) x c z) (some_same to u last.1) (subst (λ z. IsWayTo g (met_sets s) x z to) (some_same b c (sym byte ∙ ap (λ z. slice_get s.bytes.items z) (sym last.0) ∙ e)) way))
              (set_get old.ways.items class k (Some to) (Some u) (ap (λ z. slice_get z k) (sym ways) ∙ f));
        }

        by : (i : ℕ) (y : List ℕ) (k : MetSet) → slice_get (met_sets s) i ≡ Some y → (slice_get s.met.items i ≡ Some k) ⊎ ((i ≡ at) × (new ≡ k)) → IsMetSet g (met_sets t) t.bytes.items y k
        by i y k e f = kept y k begins (⊎_elim (λ there. h.each i y k e there) (λ last. subst (λ z. IsMetSet g (met_sets s) s.bytes.items z k) (some_same x y (sym is ∙ ap (λ z. slice_get (met_sets s) z) (sym last.0) ∙ e)) (subst (λ z. IsMetSet g (met_sets s) s.bytes.items x z) last.1 now)) f)

-- one sample more
within_more : (k n : ℕ) → k < n + 1 → (k < n) ⊎ (k ≡ n)
within_more k n lt = grind arith

pub listed_some : (n : ℕ) (samples : List (Option ℕ)) (bytes : List ℕ) (x : ℕ) → AreListedTo n samples bytes → slice_get samples n ≡ Some (Some x) → AreListedTo (n + 1) samples (bytes ++ x ∷ [])
listed_some n samples bytes x h at k b lt e = ⊎_elim
    (λ less. among_left bytes (x ∷ []) b (h k b less e))
    (λ same. among_right bytes (x ∷ []) b (inl (some_same x b (some_same (Some x) (Some b) (sym at ∙ ap (λ z. slice_get samples z) (sym same) ∙ e)))))
    (within_more k n lt)

pub listed_none : (n : ℕ) (samples : List (Option ℕ)) (bytes : List ℕ) → AreListedTo n samples bytes → slice_get samples n ≡ Some None → AreListedTo (n + 1) samples bytes
listed_none n samples bytes h at k b lt e = ⊎_elim
    (λ less. h k b less e)
    (λ same. absurd (nothing (some_same None (Some b) (sym at ∙ ap (λ z. slice_get samples z) (sym same) ∙ e))))
    (within_more k n lt)
  where
    nothing : None ≡ Some b → ⊥
    nothing e = cc

-- whether the list of a number is empty
pub empty_at : (ks : List (Vec ℕ)) (i : ℕ) (k : Vec ℕ) (b : Bool) → slice_get ks i ≡ Some k → b ≡ (length k.items == 0) → MatchBool b (slice_get (texts ks) i ≡ Some []) (slice_get (texts ks) i ≡ Some [] → ⊥)
empty_at ks i k b at is = subst (λ z. MatchBool b (z ≡ Some []) (z ≡ Some [] → ⊥)) (sym here) (by k.items b is)
  where
    here : slice_get (texts ks) i ≡ Some k.items
    here = slice_get-map (λ v. v.items) ks i ∙ ap (λ z. option_map (λ v. v.items) z) at

    empty : (xs : List ℕ) → length xs ≡ 0 → xs ≡ []
    empty [] e = refl
    empty (x ∷ xs) e = absurd (omega (arith, e))

    by : (xs : List ℕ) (b : Bool) → b ≡ (length xs == 0) → MatchBool b (Some xs ≡ Some []) (Some xs ≡ Some [] → ⊥)
    by xs true is = ap (λ z. Some z) (empty xs (equal_by (length xs) 0 (sym is)))
    by xs false is = λ e. apart_by (length xs) 0 (sym is) (ap length (some_same xs [] e))

-- no set was met
pub none_met : (g : Graph) (s : MetSets) → HaveRoom (length g.nodes) s.rows → AreClassBytes g s.bytes.items → s.sets.keys ≡ [] → s.met.items ≡ [] → AreSetsMet g s
none_met g s rooms bytes none known = record {
  rooms = rooms;
  bytes = bytes;
  within = λ x i. absurd (subst (λ z. IsAmong (texts z) x) none i);
  different = subst (λ z. AllDifferent (texts z)) (sym none) tt;
  count = ap length known ∙ ap (λ z. length (texts z)) (sym none);
  each = λ i x m e f. absurd (nothing i m (ap (λ z. slice_get z i) (sym known) ∙ f));
}
  where
    nothing : (i : ℕ) (m : MetSet) → slice_get [] i ≡ Some m → ⊥
    nothing i m e = cc

-- a list that was among others, or wasn't
pub added_old : (ts us : List (List ℕ)) (x : List ℕ) → IsAdded ts x us → IsAmong ts x → us ≡ ts
added_old ts us x h i = ⊎_elim (λ r. r.1) (λ r. absurd (r.0 i)) h

pub added_new : (ts us : List (List ℕ)) (x : List ℕ) → IsAdded ts x us → (IsAmong ts x → ⊥) → us ≡ ts ++ x ∷ []
added_new ts us x h none = ⊎_elim (λ r. absurd (none r.0)) (λ r. r.1) h

pub added_begins : (ts us : List (List ℕ)) (x : List ℕ) → IsAdded ts x us → Begins us ts
added_begins ts us x h = ⊎_elim (λ r. ([], r.1 ∙ sym (append-nil ts))) (λ r. (x ∷ [], r.1)) h

-- what a way that is known leads to
pub known_way : (g : Graph) (s : MetSets) (at class to : ℕ) (m : MetSet) → AreSetsMet g s → slice_get s.met.items at ≡ Some m → slice_get m.ways.items class ≡ Some (Some to) → (x : List ℕ) (b : ℕ) → slice_get (met_sets s) at ≡ Some x → slice_get s.bytes.items class ≡ Some b → IsWayTo g (met_sets s) x b to
known_way g s at class to m h here way x b is byte = (h.each at x m is here).ways class b to byte way

-- whether the set of a number holds the end
pub ends_there : (g : Graph) (s : MetSets) (i : ℕ) (m : MetSet) → AreSetsMet g s → i < length (met_sets s) → slice_get s.met.items i ≡ Some m → MatchBool m.end (HasEnd g.nodes (get_or (met_sets s) i [])) (HasEnd g.nodes (get_or (met_sets s) i []) → ⊥)
ends_there g s i m h lt here = (h.each i (get_or (met_sets s) i []) m (slice_get-get_or (met_sets s) i [] lt) here).end

-- an item of a list
pub item_at : {A : Type 0} (xs : List A) (i : ℕ) (x : A) → i < length xs → x ≡ get_or xs i x → slice_get xs i ≡ Some x
item_at xs i x lt e = slice_get-get_or xs i x lt ∙ ap (λ z. Some z) (sym e)

pub text_at : (ks : List (Vec ℕ)) (i : ℕ) (k : Vec ℕ) → slice_get ks i ≡ Some k → slice_get (texts ks) i ≡ Some k.items
text_at ks i k e = slice_get-map (λ v. v.items) ks i ∙ ap (λ z. option_map (λ v. v.items) z) e

-- there is a way of each class
pub ways_long : (g : Graph) (s : MetSets) (i : ℕ) (m : MetSet) → AreSetsMet g s → i < length (met_sets s) → slice_get s.met.items i ≡ Some m → length m.ways.items ≡ length s.bytes.items
ways_long g s i m h lt here = (h.each i (get_or (met_sets s) i []) m (slice_get-get_or (met_sets s) i [] lt) here).long
