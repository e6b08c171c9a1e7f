-- Each state of a determined table is met by a line before its own.
use Rattle.std.proofs.Common.{◌≡◌, ℕ, zero, suc, ◌<◌, ◌≤◌, List, [], ◌∷◌, ◌++◌, inl, inr, ⊎_elim, Option, Some, None, length, refl, sym, ap, subst, ◌∙◌, append_assoc, append-nil, length-append, arith}
use Rattle.std.specs.Prelude.{slice_get}
use Rattle.std.proofs.lemmas.Bool.{cases_lt}
use Rattle.std.proofs.lemmas.Option.{slice_get_within}
use Rattle.kex_code.specs.declared.symbol.Symbol.{Symbol}
use Rattle.kex_code.specs.Codes.{IsAmong}
use Rattle.kex_model.specs.Labelled.{Labelled, Shape, shape_of}
use Rattle.kex_model.specs.Survivors.{HasTree}
use Rattle.kex_model.specs.States.{AllDifferent}
use Rattle.kex_model.proofs.Shapes.{tree_agrees}
use Rattle.kex_model.proofs.Tables.{get_more, some_same}
use Rattle.kex_model.proofs.DistinctItems.{among_get, among-append}
use Rattle.kex_machine.specs.Nodes.{Graph, node_moves}
use Rattle.kex_machine.proofs.Unique.{tree_unique}
use Rattle.kex_sst.specs.declared.table.Transition.{Transition}
use Rattle.kex_sst.specs.Tables.{Row, Transducer, transition_if, transition_on, transition_of}
use Rattle.kex_sst.specs.Passes.{Pass, first_pass, pass_after, next_of, next_pass, transition_at, passes_if, passes}
use Rattle.kex_determine.specs.Determined.{IsDetermined, ShowsText, targets_of, targets_in, MeetsInOrder}
use Rattle.kex_determine.proofs.Transitions.{meets_append}

none_some : {A : Type 0} (x : A) → None ≡ Some x → ⊥
none_some x e = cc

-- ---- numbers that are met in their order

meets_up : (n all : ℕ) (xs : List ℕ) → MeetsInOrder n xs all → n ≤ all
meets_up n all [] e = omega (arith, e)
meets_up n all (x ∷ xs) (inl h) = meets_up n all xs h.1
meets_up n all (x ∷ xs) (inr h) = let u = meets_up (suc n) all xs h.1 in omega (arith, u)

all_below : (n all : ℕ) (xs : List ℕ) → MeetsInOrder n xs all → (i : ℕ) → IsAmong xs i → i < all
all_below n all [] m i h = absurd h
all_below n all (x ∷ xs) (inl m) i (inl e) = let u = meets_up n all xs m.1 in omega (arith, u, e, m.0)
all_below n all (x ∷ xs) (inl m) i (inr h) = all_below n all xs m.1 i h
all_below n all (x ∷ xs) (inr m) i (inl e) = let u = meets_up (suc n) all xs m.1 in omega (arith, u, e, m.0)
all_below n all (x ∷ xs) (inr m) i (inr h) = all_below (suc n) all xs m.1 i h

meets_split : (n all : ℕ) (xs ys : List ℕ) → MeetsInOrder n (xs ++ ys) all → (m : ℕ) × MeetsInOrder n xs m × MeetsInOrder m ys all
meets_split n all [] ys h = (n, refl, h)
meets_split n all (x ∷ xs) ys (inl h) = let r = meets_split n all xs ys h.1 in (r.0, inl (h.0, r.1), r.2)
meets_split n all (x ∷ xs) ys (inr h) = let r = meets_split (suc n) all xs ys h.1 in (r.0, inr (h.0, r.1), r.2)

targets_in-append : (xs ys : List Row) → targets_in (xs ++ ys) ≡ targets_in xs ++ targets_in ys
targets_in-append [] ys = refl
targets_in-append (x ∷ xs) ys = ap (λ z. targets_of x.go ++ z) (targets_in-append xs ys) ∙ sym (append_assoc (targets_of x.go) (targets_in xs) (targets_in ys))

among_targets : (go : List (Option Transition)) (class : ℕ) (r : Transition) → slice_get go class ≡ Some (Some r) → IsAmong (targets_of go) r.target
among_targets [] class r e = let lt : class < 0 = slice_get_within [] class (Some r) e in absurd (omega (arith, lt))
among_targets (None ∷ go) zero r e = absurd (none_some r (some_same None (Some r) e))
among_targets (Some x ∷ go) zero r e = inl (ap (λ z. z.target) (some_same x r (some_same (Some x) (Some r) e)))
among_targets (None ∷ go) (suc class) r e = among_targets go class r e
among_targets (Some x ∷ go) (suc class) r e = inr (among_targets go class r e)

among_in : (rows : List Row) (k : ℕ) (row : Row) (i : ℕ) → slice_get rows k ≡ Some row → IsAmong (targets_of row.go) i → IsAmong (targets_in rows) i
among_in [] k row i e h = let lt : k < 0 = slice_get_within [] k row e in absurd (omega (arith, lt))
among_in (x ∷ rows) zero row i e h = among-append (targets_of x.go) (targets_in rows) i (inl (subst (λ z. IsAmong (targets_of z.go) i) (sym (some_same x row e)) h))
among_in (x ∷ rows) (suc k) row i e h = among-append (targets_of x.go) (targets_in rows) i (inr (among_in rows k row i e h))

some_at : {A : Type 0} (xs : List A) (i : ℕ) → i < length xs → (x : A) × (slice_get xs i ≡ Some x)
some_at [] i lt = absurd (omega arith)
some_at (x ∷ xs) zero lt = (x, refl)
some_at (x ∷ xs) (suc i) lt = some_at xs i (omega arith)

one_index : {A : Type 0} (xs : List A) (x : A) (i j : ℕ) → AllDifferent xs → slice_get xs i ≡ Some x → slice_get xs j ≡ Some x → i ≡ j
one_index [] x i j d e f = let lt : i < 0 = slice_get_within [] i x e in absurd (omega (arith, lt))
one_index (y ∷ xs) x zero zero d e f = refl
one_index (y ∷ xs) x zero (suc j) d e f = absurd (d.0 (subst (λ z. IsAmong xs z) (sym (some_same y x e)) (among_get xs j x f)))
one_index (y ∷ xs) x (suc i) zero d e f = absurd (d.0 (subst (λ z. IsAmong xs z) (sym (some_same y x f)) (among_get xs i x e)))
one_index (y ∷ xs) x (suc i) (suc j) d e f = ap suc (one_index xs x i j d.1 e f)

module _ (g : Graph) (t : Transducer) where
  -- from the first states only these are reached
  abbrev IsClosed : ℕ → Type 0
  IsClosed n = (k class : ℕ) (r : Transition) → k < n → transition_of t k class ≡ Some r → r.target < n

  closed_by : (n k : ℕ) (r : Transition) (o : Option ℕ) → IsClosed n → k < n → transition_at t k o ≡ Some r → r.target < n
  closed_by n k r None closed lt e = absurd (none_some r e)
  closed_by n k r (Some class) closed lt e = closed k class r lt e

  stays_below : (n : ℕ) → IsClosed n → (w : List ℕ) (p q : Pass) → p.state < n → passes_if t (Some p) w ≡ Some q → q.state < n
  stays_below n closed [] p q lt e = subst (λ z. z.state < n) (some_same p q e) lt
  stays_below n closed (b ∷ w) p q lt e = by (λ r l f. stays_below n closed w (pass_after r.update b p r.target) q l f) (next_of t p.state b) refl e
    where
      by : ((r : Transition) → r.target < n → passes_if t (Some (pass_after r.update b p r.target)) w ≡ Some q → q.state < n) → (o : Option Transition) → next_of t p.state b ≡ o → passes_if t (next_pass o b p) w ≡ Some q → q.state < n
      by on None f h = absurd (none_some q h)
      by on (Some r) f h = on r (closed_by n p.state r (slice_get t.classes b) closed lt f) h

  module _ (d : IsDetermined g t) where
    -- the rows that are through, and those that are left; the numbers that were met by the first
    pub record IsAtRow (done left : List Row) (n : ℕ) : Type 0 where
      pub split : t.states ≡ done ++ left
      pub front : MeetsInOrder 1 (targets_in done) n
      pub back : MeetsInOrder n (targets_in left) (length t.states)

    pub at_first : IsAtRow [] t.states 1
    at_first = record { split = refl; front = refl; back = d.numbered }

    state_of : (w : List ℕ) (s : Shape ℕ) (i : ℕ) (c : List Symbol) (tree : Labelled Symbol ℕ) → HasTree (node_moves g.nodes) g.start w c tree → shape_of tree ≡ s → slice_get d.shapes i ≡ Some s → (p : Option Pass) → ShowsText g d.shapes w p → (q : Pass) × (p ≡ Some q) × (q.state ≡ i)
    state_of w s i c tree has is at None h = absurd (h (tree_agrees (node_moves g.nodes) g.start w c tree has).viable)
    state_of w s i c tree has is at (Some p) (tree', has', regs, there) =
        let same = tree_unique (node_moves g.nodes) g.start w c p.code tree tree' has has' in
        (p, refl, one_index d.shapes s p.state i d.different (there ∙ ap (λ z. Some z) (ap shape_of (sym same.0) ∙ is)) at)

    closed_front : (done left : List Row) (n : ℕ) → IsAtRow done left n → n ≤ length done → IsClosed n
    closed_front done left n at le k class r lt e =
        let row = some_at done k (omega (arith, le, lt)) in
        let there : slice_get t.states k ≡ Some row.0 = ap (λ z. slice_get z k) at.split ∙ get_more done left k row.0 row.1 in
        let goes : transition_if (slice_get row.0.go class) ≡ Some r = ap (λ z. transition_on z class) (sym there) ∙ e in
        all_below 1 n (targets_in done) at.front r.target (among_in done k row.0 r.target row.1 (among_targets row.0.go class r (inner (slice_get row.0.go class) goes)))
      where
        inner : (o : Option (Option Transition)) → transition_if o ≡ Some r → o ≡ Some (Some r)
        inner None f = absurd (none_some r f)
        inner (Some o) f = ap (λ z. Some z) f

    -- the state whose row is next was met
    pub met_before : (done left : List Row) (row : Row) (n : ℕ) → IsAtRow done (row ∷ left) n → length done < n
    met_before done left row n at = ⊎_elim (λ h. h) (λ h. absurd (not_met h)) (cases_lt (length done) n)
      where
        not_met : n ≤ length done → ⊥
        not_met le =
            let count = ap length at.split ∙ length-append done (row ∷ left) in
            let shape = some_at d.shapes (length done) (omega (arith, count, d.rows.count)) in
            let found = d.each shape.0 (among_get d.shapes (length done) shape.0 shape.1) in
            let q = state_of found.0 shape.0 (length done) found.1.0 found.1.1 found.1.2 found.1.3 shape.1 (passes t found.0) (d.shows found.0) in
            let lt = stays_below n (closed_front done (row ∷ left) n at le) found.0 (first_pass t.initial) q.0 (meets_up 1 n (targets_in done) at.front) q.1 in
            omega (arith, lt, q.2, le)

    -- the row's targets are met, and it is through
    pub row_through : (done left : List Row) (row : Row) (n : ℕ) → IsAtRow done (row ∷ left) n → (m : ℕ) × MeetsInOrder n (targets_of row.go) m × IsAtRow (done ++ row ∷ []) left m
    row_through done left row n at =
        let r = meets_split n (length t.states) (targets_of row.go) (targets_in left) at.back in (
          r.0,
          r.1,
          record {
            split = at.split ∙ sym (append_assoc done (row ∷ []) left);
            front = subst (λ z. MeetsInOrder 1 z r.0) (sym (targets_in-append done (row ∷ []))) (meets_append 1 n r.0 (targets_in done) (targets_of row.go ++ []) at.front (subst (λ z. MeetsInOrder n z r.0) (sym (append-nil (targets_of row.go))) r.1));
            back = r.2;
          },
        )
