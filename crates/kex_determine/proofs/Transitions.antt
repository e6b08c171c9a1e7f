-- The transitions of a state, one class after another.
use Rattle.std.proofs.Common.{◌≡◌, ℕ, zero, suc, ◌+◌, ◌<◌, ◌≤◌, max, List, [], ◌∷◌, ◌++◌, inl, inr, ⊎_elim, Option, Some, None, length, get_or, Result, Ok, Err, refl, sym, ap, subst, ◌∙◌, append-nil, length-append, arith}
use Rattle.std.specs.Prelude.{slice_get}
use Rattle.std.specs.Global.{Vec}
use Rattle.std.proofs.Math.Nat.{max-eq_right, le-max_left, le-max_right}
use Rattle.std.specs.Result.{IsErrAnd, IfErr}
use Rattle.std.proofs.lemmas.Option.{slice_get_read}
use Rattle.std.proofs.lemmas.Bool.{cases_lt, cases_eq}
use Rattle.kex_byteset.specs.Classes.{class_at, class_count, IsNumbered}
use Rattle.kex_code.specs.Codes.{Begins}
use Rattle.kex_model.specs.Labelled.{Shape, shape_of, Grown}
use Rattle.kex_model.proofs.Orders.{begins_trans}
use Rattle.kex_model.proofs.Tables.{get_more, get_last, some_same}
use Rattle.kex_machine.specs.Nodes.{Graph, HasClasses}
use Rattle.kex_sst.specs.declared.parts.Part.{Part}
use Rattle.kex_sst.specs.declared.table.Transition.{Transition}
use Rattle.kex_sst.specs.Parts.{Change}
use Rattle.kex_sst.specs.Tables.{transition_if}
use Rattle.std.specs.Prelude.{IfSome, MatchOption}
use Rattle.kex_paths.specs.Nexts.{Outline, IsOfShape, IsNext, FollowsTree, HasClass}
use Rattle.kex_paths.specs.Alikes.{GoesOnAlike}
use Rattle.kex_determine.specs.Determined.{targets_of, MeetsInOrder}
use Rattle.kex_determine.specs.Rows.{DoesOn, IsFound, by_byte}
use Rattle.kex_determine.specs.Numbering.{NextIs, IsMet, IsMetIf, AreNumbered, HasTarget, IsFollowed, AreTransitionsTo, Refuses}
use Rattle.kex_determine.specs.declared.refusal.DetRefusal.{DetRefusal}
use Rattle.kex_determine.specs.declared.refusal.DetRefusal.TheVariants.{TooManyStates, Memory}
use Rattle.kex_determine.proofs.ShapeKeys.{get_within}

-- ---- each class has a byte

greatest : (classes : List ℕ) (k : ℕ) → k < class_count classes → (b : ℕ) × (b < length classes) × (k ≤ class_at classes b)
greatest [] k lt = absurd (omega arith)
greatest (c ∷ cs) k lt = ⊎_elim
    (λ h. let r = greatest cs k h in (suc r.0, omega (arith, r.1), r.2))
    (λ h. ⊎_elim
    (λ q. (0, omega arith, omega (arith, q)))
    (λ q. let e : max (suc c) (class_count cs) ≡ class_count cs = max-eq_right {n = suc c} {m = class_count cs} (omega (arith, q, h)) in absurd (omega (arith, lt, e, h)))
    (cases_lt k (suc c)))
    (cases_lt k (class_count cs))

pub class_met : (classes : List ℕ) → IsNumbered classes → (k : ℕ) → k < class_count classes → (b : ℕ) × (b < 256) × (class_at classes b ≡ k)
class_met classes n k lt =
    let r = greatest classes k lt in
    let within : r.0 < 256 = omega (arith, r.1, n.long) in
    elim (cases_eq k (class_at classes r.0)) [
      | inl e ↦ (r.0, within, sym e)
      | inr d ↦ (let l = n.least r.0 k within (below k (class_at classes r.0) r.2 d) in (l.0, omega (arith, l.1, within), l.2))
    ]
  where
    below : (a b : ℕ) → a ≤ b → (a ≡ b → ⊥) → a < b
    below a b le d = ⊎_elim (λ h. h) (λ h. absurd (d (omega (arith, le, h)))) (cases_lt a b)

below_count : (classes : List ℕ) (b : ℕ) → b < length classes → class_at classes b < class_count classes
below_count [] b lt = absurd (omega arith)
below_count (c ∷ cs) zero lt = omega (arith, le-max_left (suc c) (class_count cs))
below_count (c ∷ cs) (suc b) lt = omega (arith, below_count cs b (omega arith), le-max_right (suc c) (class_count cs))

-- each byte has one of the classes
pub class_below : (classes : List ℕ) → IsNumbered classes → (b : ℕ) → b < 256 → class_at classes b < class_count classes
class_below classes n b lt = below_count classes b (omega (arith, lt, n.long))

-- ---- the numbers that are met

pub meets_append : (n m k : ℕ) (xs ys : List ℕ) → MeetsInOrder n xs m → MeetsInOrder m ys k → MeetsInOrder n (xs ++ ys) k
meets_append n m k [] ys h d = subst (λ z. MeetsInOrder z ys k) (sym h) d
meets_append n m k (x ∷ xs) ys h d = ⊎_elim (λ r. inl (r.0, meets_append n m k xs ys r.1 d)) (λ r. inr (r.0, meets_append (suc n) m k xs ys r.1 d)) h

pub targets_append : (xs ys : List (Option Transition)) → targets_of (xs ++ ys) ≡ targets_of xs ++ targets_of ys
targets_append [] ys = refl
targets_append (None ∷ xs) ys = targets_append xs ys
targets_append (Some r ∷ xs) ys = ap (λ z. r.target ∷ z) (targets_append xs ys)

-- ---- one class more

module _ (g : Graph) where
  pub met_if : (b : ℕ) (s : Shape ℕ) (next : Option (Outline × Change)) → IsFound g s → NextIs g b s next → IsMetIf g next
  met_if b s None f h = tt
  met_if b s (Some r) f (same, (a, next, shape, change)) = (shape_of a.tree, record { machine = same; shape = shape; found = by_byte b a f (subst (λ z. IsNext z b s (Some a)) same next) })

  does_on : (b : ℕ) (s : Shape ℕ) (ys : List (Shape ℕ)) (next : Option (Outline × Change)) (r : Option Transition) → NextIs g b s next → HasTarget ys next r → DoesOn g ys s b r
  does_on b s ys None None h t = h
  does_on b s ys (Some n) (Some r) (same, (a, next, shape, change)) (update, at) = (a, subst (λ z. IsNext z b s (Some a)) same next, (ap (λ u. u.out) update ∙ change.0, ap (λ u. u.regs) update ∙ change.1), at (shape_of a.tree) shape)
  does_on b s ys None (Some r) h t = absurd t
  does_on b s ys (Some n) None h t = absurd t

  pub get_later : {A : Type 0} (xs ys : List A) (i : ℕ) (x : A) → Begins ys xs → slice_get xs i ≡ Some x → slice_get ys i ≡ Some x
  get_later xs ys i x (more, e) at = ap (λ z. slice_get z i) e ∙ get_more xs more i x at

  pub does_later : (xs ys : List (Shape ℕ)) (s : Shape ℕ) (b : ℕ) (r : Option Transition) → Begins ys xs → DoesOn g xs s b r → DoesOn g ys s b r
  does_later xs ys s b None p d = d
  does_later xs ys s b (Some r) p (a, next, change, at) = (a, next, change, get_later xs ys r.target (shape_of a.tree) p at)

  front_of : (go : List (Option Transition)) (r : Option Transition) (k : ℕ) → k < length go → slice_get (go ++ r ∷ []) k ≡ slice_get go k
  front_of [] r k lt = absurd (omega arith)
  front_of (x ∷ go) r zero lt = refl
  front_of (x ∷ go) r (suc k) lt = front_of go r k (omega arith)

  -- one class more, given what its transition does
  one_with : (classes : List ℕ) (keys keys' : List (Vec ℕ)) (trees trees' : List Outline) (xs ys zs : List (Shape ℕ)) (s : Shape ℕ) (n : ℕ) (go : List (Option Transition)) (r : Option Transition)
      → AreTransitionsTo n g classes keys trees xs ys s go → AreNumbered g keys' trees' zs → Begins zs ys → ((b : ℕ) → b < 256 → class_at classes b ≡ n → DoesOn g zs s b r) → MeetsInOrder (length ys) (targets_of (r ∷ [])) (length zs) → AreTransitionsTo (n + 1) g classes keys' trees' xs zs s (go ++ r ∷ [])
  one_with classes keys keys' trees trees' xs ys zs s n go r t numbered begins does order = record {
    numbered = numbered;
    begins = begins_trans xs ys zs begins t.begins;
    long = omega (arith, length-append go (r ∷ []), t.long);
    do_on = λ b lt below. ⊎_elim
        (λ h. subst (λ z. DoesOn g zs s b (transition_if z)) (sym (front_of go r (class_at classes b) (omega (arith, h, t.long)))) (does_later ys zs s b (transition_if (slice_get go (class_at classes b))) begins (t.do_on b lt h)))
        (λ h.
        let e : class_at classes b ≡ n = omega (arith, below, h) in
        let here : slice_get (go ++ r ∷ []) (class_at classes b) ≡ Some r = ap (λ z. slice_get (go ++ r ∷ []) z) (e ∙ sym t.long) ∙ get_last go r in
        subst (λ z. DoesOn g zs s b (transition_if z)) (sym here) (does b lt e))
        (cases_lt (class_at classes b) n);
    order = subst (λ z. MeetsInOrder (length xs) z (length zs)) (sym (targets_append go (r ∷ []))) (meets_append (length xs) (length ys) (length zs) (targets_of go) (targets_of (r ∷ [])) t.order order);
  }

  pub one_more : (classes : List ℕ) (keys keys' : List (Vec ℕ)) (trees trees' : List Outline) (xs ys zs : List (Shape ℕ)) (s : Shape ℕ) (n : ℕ) (next : Option (Outline × Change)) (go : List (Option Transition)) (r : Option Transition)
      → AreTransitionsTo n g classes keys trees xs ys s go → IsFollowed g keys' trees' ys next zs r → ((b : ℕ) → b < 256 → class_at classes b ≡ n → NextIs g b s next) → AreTransitionsTo (n + 1) g classes keys' trees' xs zs s (go ++ r ∷ [])
  one_more classes keys keys' trees trees' xs ys zs s n next go r t f is = one_with classes keys keys' trees trees' xs ys zs s n go r t f.numbered f.begins (λ b lt e. does_on b s zs next r (is b lt e) f.target) f.order

  does_alike : (ys : List (Shape ℕ)) (s : Shape ℕ) (b c : ℕ) (r : Option Transition) → ((a : Option (Grown Part ℕ)) → IsNext g b s a → IsNext g c s a) → DoesOn g ys s b r → DoesOn g ys s c r
  does_alike ys s b c None f d = f None d
  does_alike ys s b c (Some r) f (a, next, change, at) = (a, f (Some a) next, change, at)

  none_new : (ys : List (Shape ℕ)) (s : Shape ℕ) (b : ℕ) (r : Option Transition) → DoesOn g ys s b r → MeetsInOrder (length ys) (targets_of (r ∷ [])) (length ys)
  none_new ys s b None d = refl
  none_new ys s b (Some r) (a, next, change, at) = inl (get_within ys r.target (shape_of a.tree) at, refl)

  -- the transition of an earlier class with which the tree goes on alike
  pub one_again : (classes : List ℕ) → HasClasses g.nodes classes → (tree : Outline) (keys : List (Vec ℕ)) (trees : List Outline) (xs ys : List (Shape ℕ)) (s : Shape ℕ) → IsMet g tree s → (n : ℕ) → n < class_count classes → (go : List (Option Transition)) (k : ℕ) (r : Option Transition)
      → k < n → slice_get go k ≡ Some r → GoesOnAlike tree k n → AreTransitionsTo n g classes keys trees xs ys s go → AreTransitionsTo (n + 1) g classes keys trees xs ys s (go ++ r ∷ [])
  one_again classes classed tree keys trees xs ys s met n lt go k r before here alike t =
      one_with classes keys keys trees trees xs ys ys s n go r t t.numbered ([], sym (append-nil ys)) (λ b less e. does_alike ys s m.0 b r (over b less e) does) (none_new ys s m.0 r does)
    where
      m : (b : ℕ) × (b < 256) × (class_at classes b ≡ k)
      m = class_met classes classed.refined.numbered k (omega (arith, before, lt))

      does : DoesOn g ys s m.0 r
      does = subst (λ z. DoesOn g ys s m.0 (transition_if z)) (ap (λ z. slice_get go z) m.2 ∙ here) (t.do_on m.0 m.1 (omega (arith, m.2, before)))

      has : HasClasses tree.machine.nodes classes
      has = subst (λ z. HasClasses z.nodes classes) (sym met.machine) classed

      over : (b : ℕ) → b < 256 → class_at classes b ≡ n → (a : Option (Grown Part ℕ)) → IsNext g m.0 s a → IsNext g b s a
      over b less e a next = subst (λ z. IsNext z b s a) met.machine (alike s m.0 b a met.shape (classes, has, m.1, m.2) (classes, has, less, e) (subst (λ z. IsNext z m.0 s a) (sym met.machine) next))

  -- the tree with a state's number has its shape
  pub tree_at : (keys : List (Vec ℕ)) (trees : List Outline) (ys : List (Shape ℕ)) (i : ℕ) (s : Shape ℕ) (now : Outline) → AreNumbered g keys trees ys → slice_get ys i ≡ Some s → now ≡ get_or trees i now → IsMet g now s
  tree_at keys trees ys i s now n at is =
      let r = n.shaped i s at in
      let here : slice_get trees i ≡ Some now = slice_get_read trees (length trees) i now refl (get_within trees i r.0 r.1) is in
      subst (λ z. IsMet g z s) (some_same r.0 now (sym r.1 ∙ here)) r.2

  -- what comes next on each byte of a class
  pub next_on : (classes : List ℕ) → HasClasses g.nodes classes → (tree : Outline) (s : Shape ℕ) → IsMet g tree s → (class : ℕ) (next : Option (Outline × Change)) → IfSome next (λ n. n.0.machine ≡ tree.machine)
      → ((u : Shape ℕ) (b : ℕ) → IsOfShape tree u → HasClass tree.machine class b → MatchOption next (IsNext tree.machine b u None) (λ n. FollowsTree n.0 b u n.1)) → (b : ℕ) → b < 256 → class_at classes b ≡ class → NextIs g b s next
  next_on classes classed tree s met class next same h b lt e = by next same (h s b met.shape (classes, subst (λ z. HasClasses z.nodes classes) (sym met.machine) classed, lt, e))
    where
      by : (next : Option (Outline × Change)) → IfSome next (λ n. n.0.machine ≡ tree.machine) → MatchOption next (IsNext tree.machine b s None) (λ n. FollowsTree n.0 b s n.1) → NextIs g b s next
      by None same h = subst (λ z. IsNext z b s None) met.machine h
      by (Some n) same h = (same ∙ met.machine, h)

  -- and it is of a shape that is found
  pub next_met : (classes : List ℕ) → HasClasses g.nodes classes → (s : Shape ℕ) → IsFound g s → (class : ℕ) → class < class_count classes → (next : Option (Outline × Change)) → ((b : ℕ) → b < 256 → class_at classes b ≡ class → NextIs g b s next) → IsMetIf g next
  next_met classes classed s f class lt next h = let r = class_met classes classed.refined.numbered class lt in met_if r.0 s next f (h r.0 r.1 r.2)

pub transitions_as : (n : ℕ) (g g' : Graph) (classes : List ℕ) (keys keys' : List (Vec ℕ)) (trees trees' : List Outline) (xs ys : List (Shape ℕ)) (s : Shape ℕ) (go go' : List (Option Transition)) → g' ≡ g → keys' ≡ keys → trees' ≡ trees → go' ≡ go → AreTransitionsTo n g classes keys trees xs ys s go → AreTransitionsTo n g' classes keys' trees' xs ys s go'
transitions_as n g g' classes keys keys' trees trees' xs ys s go go' e f h k t =
    subst (λ z. AreTransitionsTo n z classes keys' trees' xs ys s go') (sym e)
    (subst (λ z. AreTransitionsTo n g classes z trees' xs ys s go') (sym f)
    (subst (λ z. AreTransitionsTo n g classes keys z xs ys s go') (sym h)
    (subst (λ z. AreTransitionsTo n g classes keys trees xs ys s z) (sym k) t)))

pub err_as : {A E : Type 0} (P : E → Type 0) (r : Result A E) (x : E) → IsErrAnd r (λ y. y ≡ x) → P x → IfErr r P
err_as P (Ok a) x h k = tt
err_as P (Err y) x h k = subst P (sym h) k

pub refuses_as : (most : ℕ) (P Q : Type 0) (e : DetRefusal) → (P → Q) → Refuses most P e → Refuses most Q e
refuses_as most P Q (TooManyStates seen) f h = (h.0, f h.1)
refuses_as most P Q Memory f h = tt
