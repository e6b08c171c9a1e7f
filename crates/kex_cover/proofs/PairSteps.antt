-- What the search keeps, pair by pair.
use Rattle.std.proofs.Common.{◌≡◌, ℕ, zero, suc, ◌+◌, ◌<◌, ◌≤◌, List, [], ◌∷◌, ◌++◌, ◌⊎◌, inl, inr, ⊎_elim, Option, Some, None, length, refl, sym, ap, subst, ◌∙◌, append-nil, append_assoc, length-append, arith}
use Rattle.std.specs.Prelude.{slice_get, IfErr, IsErrAnd, OnOk, Result, Ok, Err}
use Rattle.std.specs.Option.{option_map}
use Rattle.std.proofs.lemmas.Option.{slice_get-map}
use Rattle.std.proofs.lemmas.List.{length-map}
use Rattle.kex_code.specs.Codes.{Begins, IsAmong}
use Rattle.kex_byteset.specs.Classes.{class_at, IsNumbered}
use Rattle.kex_model.specs.Moves.{took, Allows}
use Rattle.kex_model.specs.States.{AllDifferent}
use Rattle.kex_model.proofs.Shapes.{among-append, among_left, among_right}
use Rattle.kex_model.proofs.Tables.{get_more}
use Rattle.kex_machine.specs.Nodes.{Graph, node_moves}
use Rattle.kex_machine.specs.Advancing.{LeadAlike}
use Rattle.kex_machine.proofs.Classes.{lead_alike, byte_read}
use Rattle.kex_cover.specs.declared.pairs.SetPair.{SetPair}
use Rattle.kex_cover.specs.declared.pairs.Pairs.{Pairs}
use Rattle.kex_cover.specs.declared.met_sets.MetSets.{MetSets}
use Rattle.kex_cover.specs.declared.fault.CoverFault.{CoverFault}
use Rattle.kex_cover.specs.declared.fault.CoverFault.TheVariants.{TooManyPairs, Memory}
use Rattle.kex_cover.specs.Pairs.{PlaceSets, IsPair, ArePlacesAfter}
use Rattle.kex_cover.specs.Searches.{AreClassBytes, ArePairsKept, AreSetsMet, GrowsPairs, HasMoreFrom, IsDoneFor, IsEntered, IsNextPair, HasNumbers, IsPairFollowedTo, IsPairFollowed, RefusesPairs, all_pair_sets, met_sets, pair_sets, pairs_met}
use Rattle.kex_cover.proofs.Keys.{different-append}
use Rattle.kex_cover.proofs.MetPairs.{reached_after}
use Rattle.kex_cover.proofs.PairNumbers.{among_numbers, among_sets, different_sets, entered_sets, numbered_on, pairs_on}

pub err_as : {A E : Type 0} (P : E → Type 0) (r : Result A E) (x : E) → IsErrAnd r (λ y. y ≡ x) → P x → IfErr r P
err_as P (Ok a) x h k = tt
err_as P (Err y) x h k = subst P (sym h) k

pub on_both : {T E : Type 0} {P Q : Type 0} (R : Type 0) (r : Result T E) → (P → Q → R) → OnOk r P → OnOk r Q → OnOk r R
on_both R (Ok x) f p q = f p q
on_both R (Err e) f p q = tt

pub on_three : {T E : Type 0} {P Q R : Type 0} (S : Type 0) (r : Result T E) → (P → Q → R → S) → OnOk r P → OnOk r Q → OnOk r R → OnOk r S
on_three S (Ok x) f p q h = f p q h
on_three S (Err e) f p q h = tt

pub on_one : {T E : Type 0} {P : Type 0} (R : Type 0) (r : Result T E) → (P → R) → OnOk r P → OnOk r R
on_one R (Ok x) f p = f p
on_one R (Err e) f p = tt

pub refuses : {T : Type 0} {P Q : Type 0} (most : ℕ) (r : Result T CoverFault) → (P → Q) → IfErr r (RefusesPairs most P) → IfErr r (RefusesPairs most Q)
refuses most (Ok x) f h = tt
refuses most (Err (TooManyPairs seen)) f h = (h.0, f h.1)
refuses most (Err Memory) f h = tt

pub refuses_more : {P Q : Type 0} (most : ℕ) (e : CoverFault) → (P → Q) → RefusesPairs most P e → RefusesPairs most Q e
refuses_more most (TooManyPairs seen) f h = (h.0, f h.1)
refuses_more most Memory f h = tt

set_at : (sets : List (List ℕ)) (ps : List SetPair) (at : ℕ) (p : SetPair) (u : PlaceSets) → slice_get ps at ≡ Some p → slice_get (all_pair_sets sets ps) at ≡ Some u → pair_sets sets p ≡ u
set_at sets ps at p u e f = let g : Some (pair_sets sets p) ≡ Some u = sym (slice_get-map (pair_sets sets) ps at ∙ ap (λ z. option_map (pair_sets sets) z) e) ∙ f in cc

pub get_among : {A : Type 0} (xs : List A) (i : ℕ) (x : A) → slice_get xs i ≡ Some x → IsAmong xs x
get_among [] i x e = cc
get_among (y ∷ xs) zero x e = inl (cc)
get_among (y ∷ xs) (suc i) x e = inr (get_among xs i x e)

pub among_get : {A : Type 0} (xs : List A) (x : A) → IsAmong xs x → (i : ℕ) × (i < length xs) × (slice_get xs i ≡ Some x)
among_get [] x i = absurd i
among_get (y ∷ xs) x i = ⊎_elim (λ e. (0, omega arith, ap (λ z. Some z) e)) (λ j. let r = among_get xs x j in (suc r.0, (let lt = r.1 in omega (arith, lt)), r.2)) i

pub begun_among : (us vs : List PlaceSets) (u : PlaceSets) → Begins vs us → IsAmong us u → IsAmong vs u
begun_among us vs u b i = subst (λ z. IsAmong z u) (sym b.1) (among_left us b.0 u i)

begun_get : (us vs : List PlaceSets) (i : ℕ) (u : PlaceSets) → Begins vs us → slice_get us i ≡ Some u → slice_get vs i ≡ Some u
begun_get us vs i u b e = ap (λ z. slice_get z i) b.1 ∙ get_more us b.0 i u e

get_in : {A : Type 0} (xs : List A) (i : ℕ) → i < length xs → slice_get xs i ≡ None → ⊥
get_in [] i lt e = omega (arith, lt)
get_in (x ∷ xs) zero lt e = cc
get_in (x ∷ xs) (suc i) lt e = get_in xs i (omega (arith, lt)) e

-- a byte's class is at most the byte
class_low : (classes : List ℕ) → IsNumbered classes → (n b : ℕ) → b < n → b < 256 → class_at classes b ≤ b
class_low classes h zero b lt small = absurd (omega (arith, lt))
class_low classes h (suc n) b lt small = ⊎_elim (λ le. le) (λ more. absurd (by more (λ a less. class_low classes h n a (omega (arith, less, lt)) (omega (arith, less, small))))) (either (class_at classes b) b)
  where
    either : (x y : ℕ) → (x ≤ y) ⊎ (y < x)
    either x y = grind arith

    by : b < class_at classes b → ((a : ℕ) → a < b → class_at classes a ≤ a) → ⊥
    by more rest =
        let r = h.least b b small more in
        let low = rest r.0 r.1 in
        omega (arith, low, r.1, r.2)

module _ (g : Graph) where
  pub grows_not : (us : List PlaceSets) → GrowsPairs g us us
  grows_not us = record { begins = ([], sym (append-nil us)); real = λ leaf before h. h }

  pub grows_on : (us vs ws : List PlaceSets) → GrowsPairs g us vs → GrowsPairs g vs ws → GrowsPairs g us ws
  grows_on us vs ws h k = record {
    begins = (h.begins.0 ++ k.begins.0, k.begins.1 ∙ ap (λ z. z ++ k.begins.0) h.begins.1 ∙ append_assoc us h.begins.0 k.begins.0);
    real = λ leaf before r. k.real leaf before (h.real leaf before r);
  }

  pub done_on : (us vs : List PlaceSets) (u : PlaceSets) (b : ℕ) → Begins vs us → IsDoneFor g us u b → IsDoneFor g vs u b
  done_on us vs u b begins d = (d.0, d.1, ⊎_elim (λ e. inl e) (λ s. inr (s.0, s.1, begun_among us vs (record { first = d.0; second = s.0 }) begins s.2)) d.2)

  entered_begins : (us : List PlaceSets) (v : PlaceSets) (vs : List PlaceSets) → IsEntered us v vs → Begins vs us
  entered_begins us v vs h = ⊎_elim (λ k. ([], k.1 ∙ sym (append-nil us))) (λ k. (v ∷ [], k.1)) h

  pub entered_here : (us : List PlaceSets) (v : PlaceSets) (vs : List PlaceSets) → IsEntered us v vs → IsAmong vs v
  entered_here us v vs h = ⊎_elim (λ k. subst (λ z. IsAmong z v) (sym k.1) k.0) (λ k. subst (λ z. IsAmong z v) (sym k.1) (among_right us (v ∷ []) v (inl refl))) h

  pub entered_each : (P : PlaceSets → Type 0) (us : List PlaceSets) (v : PlaceSets) (vs : List PlaceSets) → IsEntered us v vs → ((u : PlaceSets) → IsAmong us u → P u) → P v → (u : PlaceSets) → IsAmong vs u → P u
  entered_each P us v vs h each here u i = ⊎_elim (λ k. each u (subst (λ z. IsAmong z u) k.1 i)) (λ k. ⊎_elim (λ j. each u j) (λ j. ⊎_elim (λ e. subst P e here) (λ a. absurd a) j) (among-append us (v ∷ []) u (subst (λ z. IsAmong z u) k.1 i))) h

  pub next_is_pair : (leaf : ℕ) (before : List ℕ) (u v : PlaceSets) (b : ℕ) → IsPair g leaf before u → IsNextPair g u b v → IsPair g leaf before v
  next_is_pair leaf before u v b (x, f, s, some) n = (x ++ b ∷ [], reached_after g (leaf ∷ []) x u.first b v.first f n.first, reached_after g before x u.second b v.second s n.second, n.some)

  pub entered_grows : (us : List PlaceSets) (u v : PlaceSets) (b : ℕ) (vs : List PlaceSets) → IsAmong us u → IsNextPair g u b v → IsEntered us v vs → GrowsPairs g us vs
  entered_grows us u v b vs i n h = record {
    begins = entered_begins us v vs h;
    real = λ leaf before r. entered_each (λ z. IsPair g leaf before z) us v vs h r (next_is_pair leaf before u v b (r u i) n);
  }

  pub entered_done : (us : List PlaceSets) (u v : PlaceSets) (b : ℕ) (vs : List PlaceSets) → IsNextPair g u b v → IsEntered us v vs → IsDoneFor g vs u b
  entered_done us u v b vs n h = (v.first, n.first, inr (v.second, n.second, entered_here us v vs h))

  pub more_from : (us : List PlaceSets) (u v : PlaceSets) (b most : ℕ) → AllDifferent us → IsAmong us u → IsNextPair g u b v → (IsAmong us v → ⊥) → most ≤ length us → HasMoreFrom g most us
  more_from us u v b most different i n none le leaf before r = (v ∷ us, omega (arith, le), (none, different), λ z j. ⊎_elim (λ e. subst (λ y. IsPair g leaf before y) e (next_is_pair leaf before u v b (r u i) n)) (λ k. r z k) j)

  -- what holds from more pairs holds from fewer
  pub more_grown : (us vs : List PlaceSets) (most : ℕ) → GrowsPairs g us vs → HasMoreFrom g most vs → HasMoreFrom g most us
  more_grown us vs most grows h leaf before r = h leaf before (grows.real leaf before r)

  pub followed_none : (bytes : List ℕ) (us vs : List PlaceSets) (at : ℕ) → IsPairFollowedTo 0 g bytes us vs at
  followed_none bytes us vs at u k b lt = absurd (omega (arith, lt))

  pub followed_more : (n : ℕ) (bytes : List ℕ) (us vs ws : List PlaceSets) (at : ℕ) → GrowsPairs g us vs → GrowsPairs g vs ws → IsPairFollowedTo n g bytes us vs at → ((u : PlaceSets) (b : ℕ) → slice_get vs at ≡ Some u → slice_get bytes n ≡ Some b → IsDoneFor g ws u b) → IsPairFollowedTo (n + 1) g bytes us ws at
  followed_more n bytes us vs ws at grows more h done u k b lt e f =
      ⊎_elim
      (λ less. done_on vs ws u b more.begins (h u k b less e f))
      (λ same. done u b (begun_get us vs at u grows.begins e) (ap (λ z. slice_get bytes z) (sym same) ∙ f))
      (last k n lt)
    where
      last : (k n : ℕ) → k < n + 1 → (k < n) ⊎ (k ≡ n)
      last k n lt = grind arith

  pub followed_on : (bytes : List ℕ) (vs ws : List PlaceSets) (at : ℕ) → GrowsPairs g vs ws → ((i : ℕ) → i < at → IsPairFollowed g bytes vs vs i) → at < length vs → IsPairFollowed g bytes vs ws at → (i : ℕ) → i < at + 1 → IsPairFollowed g bytes ws ws i
  followed_on bytes vs ws at grows h here new i lt u k b e f =
      ⊎_elim
      (λ less. done_on vs ws u b grows.begins (h i less u k b (back i (omega (arith, less, here)) e) f))
      (λ same. new u k b (ap (λ z. slice_get vs z) (sym same) ∙ back i (omega (arith, same, here)) e) f)
      (last i at lt)
    where
      last : (k n : ℕ) → k < n + 1 → (k < n) ⊎ (k ≡ n)
      last k n lt = grind arith

      get_front : (vs more : List PlaceSets) (i : ℕ) → i < length vs → slice_get (vs ++ more) i ≡ slice_get vs i
      get_front [] more i lt = absurd (omega (arith, lt))
      get_front (x ∷ vs) more zero lt = refl
      get_front (x ∷ vs) more (suc i) lt = get_front vs more i (omega (arith, lt))

      back : (i : ℕ) → i < length vs → slice_get ws i ≡ Some u → slice_get vs i ≡ Some u
      back i lt e = sym (get_front vs grows.begins.0 i lt) ∙ ap (λ z. slice_get z i) (sym grows.begins.1) ∙ e

  -- bytes that lead alike lead to the same set
  pub alike_after : (b c : ℕ) (from to : List ℕ) → LeadAlike (node_moves g.nodes) b c → ArePlacesAfter g from b to → ArePlacesAfter g from c to
  alike_after b c from to alike h = record {
    falls = h.falls;
    real = λ q i. let r = h.real q i in ((r.0.0, r.0.1, (r.0.2.0, (alike r.0.0 r.0.2.0).0 r.0.2.1, r.0.2.2)), r.1);
    all = λ q (p, i, (t, a, w)) waits. h.all q (p, i, (t, (alike p t).1 a, w)) waits;
  }

  pub none_after : (from : List ℕ) (b : ℕ) → ((p t : ℕ) → Allows (node_moves g.nodes p) (took b t) → ⊥) → ArePlacesAfter g from b []
  none_after from b none = record { falls = tt; real = λ q i. absurd i; all = λ q (p, i, (t, a, w)) waits. absurd (none p t a) }

  -- where the samples are followed, all bytes are
  pub all_bytes : (bytes : List ℕ) (us : List PlaceSets) → AreClassBytes g bytes → ((u : PlaceSets) (k b : ℕ) → IsAmong us u → slice_get bytes k ≡ Some b → IsDoneFor g us u b) → (u : PlaceSets) (b : ℕ) → IsAmong us u → IsDoneFor g us u b
  all_bytes bytes us of done u b i = ⊎_elim byte beyond (within b)
    where
      within : (b : ℕ) → (b < 256) ⊎ (256 ≤ b)
      within b = grind arith

      beyond : 256 ≤ b → IsDoneFor g us u b
      beyond le = ([], none_after u.first b (λ p t a. let lt = byte_read g.nodes of.classes of.has p b t a in omega (arith, lt, le)), inl refl)

      by : (o : Option (Option ℕ)) → slice_get of.samples (class_at of.classes b) ≡ o → b < 256 → IsDoneFor g us u b
      by None e lt = let low = class_low of.classes of.has.refined.numbered 256 b lt lt in absurd (get_in of.samples (class_at of.classes b) (let long = of.are.long in omega (arith, low, lt, long)) e)
      by (Some None) e lt = absurd (of.are.all b lt e)
      by (Some (Some c)) e lt =
          let r = of.are.right (class_at of.classes b) c e in
          let alike = lead_alike g.nodes of.classes of.has c b r.0 lt r.1 in
          let there = among_get bytes c (of.listed (class_at of.classes b) c e) in
          let d = done u there.0 c i there.2 in
          (d.0, alike_after c b u.first d.0 alike d.1, ⊎_elim (λ q. inl q) (λ s. inr (s.0, alike_after c b u.second s.0 alike s.1, s.2)) d.2)

      byte : b < 256 → IsDoneFor g us u b
      byte lt = by (slice_get of.samples (class_at of.classes b)) refl lt

-- more sets, and the same pairs
module _ (g : Graph) (s t : MetSets) (p : Pairs) (kept : ArePairsKept g s p) (met : AreSetsMet g t) (begins : Begins (met_sets t) (met_sets s)) where
  pub pairs_same : pairs_met t p ≡ pairs_met s p
  pairs_same = pairs_on (met_sets s) (met_sets t) begins p.met.keys kept.numbered

  pub kept_same : ArePairsKept g t p
  kept_same = record { sets = met; within = kept.within; different = kept.different; numbered = λ q i. numbered_on (met_sets s) (met_sets t) begins q (kept.numbered q i) }

  pub grows_same : GrowsPairs g (pairs_met s p) (pairs_met t p)
  grows_same = subst (GrowsPairs g (pairs_met s p)) (sym pairs_same) (grows_not g (pairs_met s p))

-- a pair that is put among the others
module _ (g : Graph) (s t : MetSets) (p p' : Pairs) (at b : ℕ) (q next : SetPair) (kept : ArePairsKept g s p) (met : AreSetsMet g t) (begins : Begins (met_sets t) (met_sets s)) (here : slice_get p.met.keys at ≡ Some q) (numbered : HasNumbers (met_sets t) next) (n : IsNextPair g (pair_sets (met_sets s) q) b (pair_sets (met_sets t) next)) where
  among_old : IsAmong (pairs_met s p) (pair_sets (met_sets s) q)
  among_old = among_sets (met_sets s) kept.sets.different p.met.keys q (get_among p.met.keys at q here)

  was : ArePairsKept g t p
  was = kept_same g s t p kept met begins

  entered : IsEntered p.met.keys next p'.met.keys → IsEntered (pairs_met s p) (pair_sets (met_sets t) next) (pairs_met t p')
  entered h = subst (λ z. IsEntered z (pair_sets (met_sets t) next) (pairs_met t p')) (pairs_same g s t p kept met begins) (entered_sets (met_sets t) met.different p.met.keys p'.met.keys next was.numbered numbered h)

  pub kept_now : IsEntered p.met.keys next p'.met.keys → length p'.met.keys ≤ p.most → p'.most ≡ p.most → ArePairsKept g t p'
  kept_now h within same = record {
    sets = met;
    within = subst (λ z. length p'.met.keys ≤ z) (sym same) within;
    different = ⊎_elim (λ r. subst AllDifferent (sym r.1) kept.different) (λ r. subst AllDifferent (sym r.1) (different-append p.met.keys next kept.different r.0)) h;
    numbered = λ r i. ⊎_elim
        (λ k. was.numbered r (subst (λ z. IsAmong z r) k.1 i))
        (λ k. ⊎_elim (λ j. was.numbered r j) (λ j. ⊎_elim (λ e. subst (HasNumbers (met_sets t)) e numbered) (λ a. absurd a) j) (among-append p.met.keys (next ∷ []) r (subst (λ z. IsAmong z r) k.1 i)))
        h;
  }

  pub grows_now : IsEntered p.met.keys next p'.met.keys → GrowsPairs g (pairs_met s p) (pairs_met t p')
  grows_now h = entered_grows g (pairs_met s p) (pair_sets (met_sets s) q) (pair_sets (met_sets t) next) b (pairs_met t p') among_old n (entered h)

  pub done_now : IsEntered p.met.keys next p'.met.keys → (u : PlaceSets) → slice_get (pairs_met s p) at ≡ Some u → IsDoneFor g (pairs_met t p') u b
  done_now h u e = subst (λ z. IsDoneFor g (pairs_met t p') z b) (set_at (met_sets s) p.met.keys at q u here e) (entered_done g (pairs_met s p) (pair_sets (met_sets s) q) (pair_sets (met_sets t) next) b (pairs_met t p') n (entered h))

  pub more_now : (IsAmong p.met.keys next → ⊥) × (p.most ≤ length p.met.keys) → HasMoreFrom g p.most (pairs_met s p)
  more_now (none, le) = more_from g (pairs_met s p) (pair_sets (met_sets s) q) (pair_sets (met_sets t) next) b p.most
      (different_sets (met_sets s) kept.sets.different p.met.keys kept.numbered kept.different)
      among_old n
      (λ i. none (among_numbers (met_sets t) met.different p.met.keys next was.numbered numbered (subst (λ z. IsAmong z (pair_sets (met_sets t) next)) (sym (pairs_same g s t p kept met begins)) i)))
      (let same = length-map p.met.keys (pair_sets (met_sets s)) in omega (arith, le, same))

-- nothing is reached from the first part of a pair
pub done_empty : (g : Graph) (s : MetSets) (p : Pairs) (us : List PlaceSets) (at b : ℕ) (q : SetPair) → slice_get p.met.keys at ≡ Some q → ArePlacesAfter g (pair_sets (met_sets s) q).first b [] → (u : PlaceSets) → slice_get (pairs_met s p) at ≡ Some u → IsDoneFor g us u b
done_empty g s p us at b q here none u e = subst (λ z. IsDoneFor g us z b) (set_at (met_sets s) p.met.keys at q u here e) ([], none, inl refl)

pub at_least : (g : Graph) (s t : MetSets) (p q : Pairs) (at : ℕ) → GrowsPairs g (pairs_met s p) (pairs_met t q) → at < length p.met.keys → at < length q.met.keys
at_least g s t p q at h lt =
    let one = length-map p.met.keys (pair_sets (met_sets s)) in
    let two = length-map q.met.keys (pair_sets (met_sets t)) in
    let long = ap length h.begins.1 in
    let both = length-append (pairs_met s p) h.begins.0 in
    omega (arith, lt, one, two, long, both)
