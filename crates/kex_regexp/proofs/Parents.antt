-- No node is lost: what is held, and what becomes a child.
use Rattle.std.proofs.Common.{◌≡◌, ℕ, List, [], ◌∷◌, ◌++◌, ◌⊎◌, inl, inr, length, Option, Some, None, Result, Ok, Err, refl, sym, ap, subst, arith, length-append}
use Rattle.std.proofs.lemmas.Bool.{cases_lt}
use Rattle.std.specs.Prelude.{IfOk, slice_get}
use Rattle.kex_code.specs.Codes.{IsAmong}
use Rattle.kex_model.specs.declared.program.Node.{Node}
use Rattle.kex_model.proofs.Shapes.{among-append, among_left, among_right}
use Rattle.kex_regexp.specs.declared.constructs.Construct.{Construct}
use Rattle.kex_regexp.specs.declared.constructs.Placed.{Placed}
use Rattle.kex_regexp.specs.declared.counts.Bounds.{Bounds}
use Rattle.kex_regexp.specs.declared.wait.Repetition.{Repetition}
use Rattle.kex_regexp.specs.declared.wait.Wait.{Wait}
use Rattle.kex_regexp.specs.declared.wait.Wait.TheVariants as waits
use Rattle.kex_regexp.specs.declared.wait.StepFault.{StepFault}
use Rattle.kex_regexp.specs.declared.fault.RegexFault.{RegexFault}
use Rattle.kex_regexp.specs.declared.breaks.Break.{Break}
use Rattle.kex_regexp.specs.Parents.{HasChild, HasParent, NoneLost}
use Rattle.kex_regexp.specs.Holding.{InConstruct, InConstructs, IsHeld, LosesNone}
use Rattle.kex_regexp.specs.Shown.{Adds}
use Rattle.kex_regexp.proofs.Additions.{stays, added}

pub parent_stays : (a b : List Node) (n : ℕ) → Adds a b → HasParent a n → HasParent b n
parent_stays a b n k h = (h.0, h.1, stays a b k h.0 h.1 h.2, h.3)

-- where no node is added
pub none_added : (a : List Node) (B A : ℕ → Type 0) → ((n : ℕ) → B n → A n) → NoneLost a a B A
none_added a B A f = record { held = λ n h. inr (f n h); added = λ n lt. inl lt }

-- where one node is
pub one_added : (a b : List Node) (x : Node) (B A : ℕ → Type 0) → b ≡ a ++ x ∷ [] → ((n : ℕ) → B n → HasChild x.kind n ⊎ A n) → A (length a) → NoneLost a b B A
one_added a b x B A e f last = record {
  held = λ n h. elim (f n h) [ inl c ↦ inl (length a, x, subst (λ (y : List Node). slice_get y (length a) ≡ Some x) (sym e) (added a x), c) | inr h ↦ inr h ];
  added = λ n lt. elim (cases_lt n (length a)) [
    | inl below ↦ inl below
    | inr above ↦ let same : length a ≡ n = omega (arith, ap (λ (y : List Node). length y) e, length-append a (x ∷ [])) in inr (inr (subst A same last))
  ];
}

pub none_lost : (a b c : List Node) (B M A : ℕ → Type 0) → Adds b c → NoneLost a b B M → NoneLost b c M A → NoneLost a c B A
none_lost a b c B M A k f g = record {
  held = λ n h. elim (f.held n h) [ inl p ↦ inl (parent_stays b c n k p) | inr m ↦ g.held n m ];
  added = λ n lt. elim (g.added n lt) [
    | inl old ↦ elim (f.added n old) [
      | inl older ↦ inl older
      | inr r ↦ elim r [ inl p ↦ inr (inl (parent_stays b c n k p)) | inr m ↦ inr (g.held n m) ]
    ]
    | inr r ↦ inr r
  ];
}

-- what is held, said otherwise
pub held_as : (a b : List Node) (B A B' A' : ℕ → Type 0) → ((n : ℕ) → B' n → B n) → ((n : ℕ) → A n → A' n) → NoneLost a b B A → NoneLost a b B' A'
held_as a b B A B' A' f g h = record {
  held = λ n i. elim (h.held n (f n i)) [ inl p ↦ inl p | inr m ↦ inr (g n m) ];
  added = λ n lt. elim (h.added n lt) [ inl old ↦ inl old | inr r ↦ elim r [ inl p ↦ inr (inl p) | inr m ↦ inr (inr (g n m)) ] ];
}

-- what is held beside it stays
pub beside : (a b : List Node) (B A R B' A' : ℕ → Type 0) → ((n : ℕ) → B' n → B n ⊎ R n) → ((n : ℕ) → A n → A' n) → ((n : ℕ) → R n → A' n) → NoneLost a b B A → NoneLost a b B' A'
beside a b B A R B' A' f g r h = record {
  held = λ n i. elim (f n i) [ inl m ↦ elim (h.held n m) [ inl p ↦ inl p | inr m ↦ inr (g n m) ] | inr m ↦ inr (r n m) ];
  added = λ n lt. elim (h.added n lt) [ inl old ↦ inl old | inr q ↦ elim q [ inl p ↦ inr (inl p) | inr m ↦ inr (inr (g n m)) ] ];
}

-- ---- constructs

pub construct_under : (old new : List Construct) (f : Construct) → new ≡ old ++ f ∷ [] → (n : ℕ) → InConstructs old n → InConstructs new n
construct_under old new f e n h = (h.0, subst (λ (x : List Construct). IsAmong x h.0) (sym e) (among_left old (f ∷ []) h.0 h.1), h.2)

pub construct_on : (old new : List Construct) (f : Construct) → new ≡ old ++ f ∷ [] → (n : ℕ) → InConstruct f n → InConstructs new n
construct_on old new f e n h = (f, subst (λ (x : List Construct). IsAmong x f) (sym e) (among_right old (f ∷ []) f (inl refl)), h)

pub construct_taken : (old new : List Construct) (f : Construct) → old ≡ new ++ f ∷ [] → (n : ℕ) → InConstructs old n → InConstruct f n ⊎ InConstructs new n
construct_taken old new f e n h = elim (among-append new (f ∷ []) h.0 (subst (λ (x : List Construct). IsAmong x h.0) e h.1)) [
  | inl i ↦ inr (h.0, i, h.2)
  | inr i ↦ elim i [ inl same ↦ inl (subst (λ (g : Construct). InConstruct g n) (sym same) h.2) | inr none_left ↦ absurd none_left ]
]

pub constructs_same : (old new : List Construct) → new ≡ old → (n : ℕ) → InConstructs old n → InConstructs new n
constructs_same old new e n h = subst (λ (x : List Construct). InConstructs x n) (sym e) h

pub no_constructs : (fs : List Construct) → length fs ≡ 0 → (n : ℕ) → InConstructs fs n → ⊥
no_constructs [] e n h = h.1
no_constructs (f ∷ fs) e n h = absurd (omega (arith, e))

-- ---- steps

pub later : (r : Result Wait StepFault) (a b : List Node) (fs gs hs : List Construct) (v w : Wait) → ((n : ℕ) → IsHeld fs v n → IsHeld gs w n) → LosesNone a b gs w hs r → LosesNone a b fs v hs r
later (Ok next) a b fs gs hs v w f h = held_as a b _ _ _ _ f (λ n i. i) h
later (Err e) a b fs gs hs v w f h = tt

-- an item begins to take turns
pub turned_held : (a : List Node) (fs : List Construct) (item : Placed) (r : Repetition) (b : Bounds) → r ≡ record { item = item; bounds = b } → NoneLost a a (IsHeld fs (waits.After item)) (IsHeld fs (waits.Turned r))
turned_held a fs item r b e = subst (λ (x : Repetition). NoneLost a a (IsHeld fs (waits.After item)) (IsHeld fs (waits.Turned x))) (sym e) (none_added a _ _ (λ n h. h))

-- a piece is ended, and then the step is made
pub piece_then : (r : Result Wait StepFault) (a b c : List Node) (fs gs hs : List Construct) (w : Wait) → Adds b c → NoneLost a b (IsHeld fs w) (InConstructs gs) → LosesNone b c gs waits.Ready hs r → LosesNone a c fs w hs r
piece_then (Ok next) a b c fs gs hs w k f g = none_lost a b c _ (InConstructs gs) _ k f (held_as b c _ _ _ _ (λ n i. inl i) (λ n i. i) g)
piece_then (Err e) a b c fs gs hs w k f g = tt

pub waiting : (w v : Wait) (a b : List Node) (fs gs : List Construct) (r : Result Wait StepFault) → w ≡ v → LosesNone a b fs v gs r → LosesNone a b fs w gs r
waiting w v a b fs gs r e h = subst (λ (x : Wait). LosesNone a b fs x gs r) (sym e) h

pub ended_as : (r : Result ℕ StepFault) (a b : List Node) (fs gs : List Construct) (w : Wait) {v : Wait} → w ≡ v → ((n : ℕ) → IsHeld fs v n → InConstructs gs n) → IfOk r (λ m. NoneLost a b (InConstructs gs) (λ n. n ≡ m)) → IfOk r (λ m. NoneLost a b (IsHeld fs w) (λ n. n ≡ m))
ended_as (Ok m) a b fs gs w e f h = held_as a b _ _ _ _ (λ n i. f n (subst (λ (x : Wait). IsHeld fs x n) e i)) (λ n i. i) h
ended_as (Err z) a b fs gs w e f h = tt

pub ended_then : (r : Result ℕ StepFault) (a b c : List Node) (fs gs : List Construct) (w v : Wait) → w ≡ v → Adds b c → NoneLost a b (IsHeld fs v) (InConstructs gs) → IfOk r (λ m. NoneLost b c (InConstructs gs) (λ n. n ≡ m)) → IfOk r (λ m. NoneLost a c (IsHeld fs w) (λ n. n ≡ m))
ended_then (Ok m) a b c fs gs w v e k f g = subst (λ (x : Wait). NoneLost a c (IsHeld fs x) (λ n. n ≡ m)) (sym e) (none_lost a b c _ (InConstructs gs) _ k f g)
ended_then (Err z) a b c fs gs w v e k f g = tt

pub unless_lost : (r : Result ℕ RegexFault) (least : Option Break) (node : ℕ) (a b : List Node) (B : ℕ → Type 0) → IfOk r (λ n. (n ≡ node) × (least ≡ None)) → NoneLost a b B (λ n. n ≡ node) → IfOk r (λ m. NoneLost a b B (λ n. n ≡ m))
unless_lost (Ok m) least node a b B e h = subst (λ (x : ℕ). NoneLost a b B (λ n. n ≡ x)) (sym e.0) h
unless_lost (Err z) least node a b B e h = tt
