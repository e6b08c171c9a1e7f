-- A byte of each class, byte by byte; and that a machine's classes are determined.
use Rattle.std.proofs.Common.{◌≡◌, ℕ, zero, suc, ◌+◌, ◌<◌, ◌≤◌, Bool, List, [], ◌∷◌, ⊎_elim, ◌⊎◌, inl, inr, Option, Some, None, length, get_or, set, replicate, refl, sym, ap, subst, ◌∙◌, length-set, arith}
use Rattle.std.specs.Prelude.{slice_get, MatchOption}
use Rattle.std.proofs.lemmas.Option.{slice_get-get_or}
use Rattle.kex_byteset.specs.Classes.{class_at}
use Rattle.kex_machine.specs.Nodes.{Graph, node_moves, HasClasses}
use Rattle.kex_machine.specs.Advancing.{LeadAlike}
use Rattle.kex_machine.proofs.Classes.{lead_alike}
use Rattle.kex_paths.specs.Workspaces.{AreSamples, IsWorkspaceReady}
use Rattle.kex_paths.specs.Nexts.{HasClass}

-- the bytes below n are sampled
pub record AreSampled (classes : List ℕ) (samples : List (Option ℕ)) (n : ℕ) : Type 0 where
  pub long : length samples ≡ 256
  pub right : (class b : ℕ) → slice_get samples class ≡ Some (Some b) → (b < 256) × (class_at classes b ≡ class)
  pub all : (b : ℕ) → b < n → slice_get samples (class_at classes b) ≡ Some None → ⊥

get_set_same : {A : Type 0} (xs : List A) (i : ℕ) (x y : A) → slice_get (set xs i x) i ≡ Some y → x ≡ y
get_set_same [] i x y e = cc
get_set_same (z ∷ xs) zero x y e = cc
get_set_same (z ∷ xs) (suc i) x y e = get_set_same xs i x y e

get_set_other : {A : Type 0} (xs : List A) (i j : ℕ) (x : A) → (i ≡ j → ⊥) → slice_get (set xs i x) j ≡ slice_get xs j
get_set_other [] i j x ne = refl
get_set_other (z ∷ xs) zero zero x ne = absurd (ne refl)
get_set_other (z ∷ xs) zero (suc j) x ne = refl
get_set_other (z ∷ xs) (suc i) zero x ne = refl
get_set_other (z ∷ xs) (suc i) (suc j) x ne = get_set_other xs i j x (λ e. ne (ap suc e))

same_or : (i j : ℕ) → (i ≡ j) ⊎ (i ≡ j → ⊥)
same_or zero zero = inl refl
same_or zero (suc j) = inr (λ e. cc)
same_or (suc i) zero = inr (λ e. cc)
same_or (suc i) (suc j) = ⊎_elim (λ e. inl (ap suc e)) (λ ne. inr (λ e. ne (let f : i ≡ j = cc in f))) (same_or i j)

none_at : (n i b : ℕ) → slice_get (replicate n None) i ≡ Some (Some b) → ⊥
none_at zero i b e = cc
none_at (suc n) zero b e = cc
none_at (suc n) (suc i) b e = none_at n i b e

length_none : (n : ℕ) → length (replicate {A = Option ℕ} n None) ≡ n
length_none zero = refl
length_none (suc n) = ap suc (length_none n)

pub sampled_none : (classes : List ℕ) → AreSampled classes (replicate 256 None) 0
sampled_none classes = record { long = length_none 256; right = λ k b e. absurd (none_at 256 k b e); all = λ b lt e. absurd (omega arith) }

pub sampled_more : (classes : List ℕ) (old new : List (Option ℕ)) (n class : ℕ) → n < 256 → class ≡ class_at classes n → new ≡ set old class (Some n) → AreSampled classes old n → AreSampled classes new (n + 1)
sampled_more classes old new n class lt is e h = record {
  long = ap length e ∙ length-set old class (Some n) ∙ h.long;
  right = λ k b f.
      let g : slice_get (set old class (Some n)) k ≡ Some (Some b) = ap (λ z. slice_get z k) (sym e) ∙ f in
      ⊎_elim
      (λ s. let v : Some n ≡ Some b = get_set_same old class (Some n) (Some b) (ap (λ z. slice_get (set old class (Some n)) z) s ∙ g) in let q : n ≡ b = cc in (subst (λ z. z < 256) q lt, ap (λ z. class_at classes z) (sym q) ∙ sym is ∙ s))
      (λ ne. h.right k b (sym (get_set_other old class k (Some n) ne) ∙ g))
      (same_or class k);
  all = λ b less f.
      let g : slice_get (set old class (Some n)) (class_at classes b) ≡ Some None = ap (λ z. slice_get z (class_at classes b)) (sym e) ∙ f in
      ⊎_elim
      (λ s. let v : Some n ≡ None = get_set_same old class (Some n) None (ap (λ z. slice_get (set old class (Some n)) z) s ∙ g) in some_none v)
      (λ ne. h.all b (below b n class (λ q. ne (is ∙ ap (λ z. class_at classes z) (sym q))) less) (sym (get_set_other old class (class_at classes b) (Some n) ne) ∙ g))
      (same_or class (class_at classes b));
}
  where
    some_none : Some n ≡ None → ⊥
    some_none v = cc

    below : (b n class : ℕ) → (b ≡ n → ⊥) → b < n + 1 → b < n
    below b n class ne less = ⊎_elim (λ s. absurd (ne s)) (λ d. other b n d less) (same_or b n)
      where
        other : (b n : ℕ) → (b ≡ n → ⊥) → b < n + 1 → b < n
        other b n d less = grind arith

pub sampled_all : (classes : List ℕ) (samples : List (Option ℕ)) → AreSampled classes samples 256 → AreSamples classes samples
sampled_all classes samples h = record { long = h.long; right = h.right; all = h.all }

-- classes of the same nodes are the same, byte by byte
module _ (g : Graph) (k l : List ℕ) (hk : HasClasses g.nodes k) (hl : HasClasses g.nodes l) where
  -- what one of two lists of classes has lower can't be
  not_lower : (k l : List ℕ) → HasClasses g.nodes k → HasClasses g.nodes l → (b : ℕ) → b < 256 → ((a : ℕ) → a < b → class_at k a ≡ class_at l a) → class_at k b < class_at l b → ⊥
  not_lower k l hk hl b lt before less =
      let r = hl.refined.numbered.least b (class_at k b) lt less in
      let a = r.0 in
      let la : a < 256 = let x = r.1 in omega arith in
      let same : class_at k a ≡ class_at k b = before a r.1 ∙ r.2 in
      let also : class_at l a ≡ class_at l b = (hl.refined.alike a b la lt).1 ((hk.refined.alike a b la lt).0 same) in
      let e : class_at l b ≡ class_at k b = sym also ∙ r.2 in
      omega arith

  three : (x y : ℕ) → (x < y → ⊥) → (y < x → ⊥) → x ≡ y
  three x y p q = grind arith

  at_next : (n b : ℕ) → b < suc n → (b ≡ n → ⊥) → b < n
  at_next n b lt ne = grind arith

  below_all : (n : ℕ) → n ≤ 256 → (b : ℕ) → b < n → class_at k b ≡ class_at l b
  below_all zero le b lt = absurd (omega arith)
  below_all (suc n) le b lt =
      let before = below_all n (omega arith) in
      ⊎_elim
      (λ s. subst (λ z. class_at k z ≡ class_at l z) (sym s) (three (class_at k n) (class_at l n) (not_lower k l hk hl n (omega arith) (λ a less. before a less)) (not_lower l k hl hk n (omega arith) (λ a less. sym (before a less)))))
      (λ d. before b (at_next n b lt d))
      (same_or b n)

  pub one_class : (b : ℕ) → b < 256 → class_at k b ≡ class_at l b
  one_class b lt = below_all 256 (omega arith) b lt

-- the sample of a byte's class is there, and leads to the same places
sample_leads : (g : Graph) (samples : List (Option ℕ)) (marks : List Bool) (class : ℕ) (found : Option ℕ) → IsWorkspaceReady g samples marks → slice_get samples class ≡ Some found → (b : ℕ) → HasClass g class b → MatchOption found ⊥ (λ byte. LeadAlike (node_moves g.nodes) byte b)
sample_leads g samples marks class None ready e b (classes, has, lt, is) = ready.each.all b lt (ap (λ z. slice_get samples z) (one_class g ready.classes classes ready.has has b lt ∙ is) ∙ e)
sample_leads g samples marks class (Some byte) ready e b (classes, has, lt, is) =
    let r = ready.each.right class byte e in
    lead_alike g.nodes ready.classes ready.has byte b r.0 lt (r.1 ∙ sym is ∙ sym (one_class g ready.classes classes ready.has has b lt))

pub sample_at : (g : Graph) (samples : List (Option ℕ)) (marks : List Bool) (class : ℕ) → class < 256 → IsWorkspaceReady g samples marks → (b : ℕ) → HasClass g class b → MatchOption (get_or samples class None) ⊥ (λ byte. LeadAlike (node_moves g.nodes) byte b)
sample_at g samples marks class lt ready b has = sample_leads g samples marks class (get_or samples class None) ready (slice_get-get_or samples class None (let long = ready.each.long in omega arith)) b has
