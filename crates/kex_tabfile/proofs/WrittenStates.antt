-- What is written of a determined table are right lines.
use Rattle.std.proofs.Common.{◌≡◌, ℕ, zero, suc, ◌<◌, ◌≤◌, List, [], ◌∷◌, ◌++◌, ◌⊎◌, inl, inr, ⊎_elim, Option, Some, None, length, drop, refl, sym, ap, ap₂, subst, ◌∙◌, append_assoc, append-nil, length-append, arith}
use Rattle.std.specs.Prelude.{slice_get}
use Rattle.std.proofs.lemmas.Bool.{cases_lt}
use Rattle.std.proofs.lemmas.Option.{slice_get_within}
use Rattle.kex_byteset.specs.Classes.{class_at, class_count}
use Rattle.kex_code.specs.Codes.{IsAmong}
use Rattle.kex_model.specs.Labelled.{Shape, shape_of, Grown}
use Rattle.kex_model.proofs.Tables.{get_more, get_last, some_same}
use Rattle.kex_machine.specs.Nodes.{Graph}
use Rattle.kex_sst.specs.declared.parts.Part.{Part}
use Rattle.kex_sst.specs.declared.table.Transition.{Transition}
use Rattle.kex_sst.specs.Parts.{Change}
use Rattle.kex_sst.specs.Tables.{Row, Transducer, transition_if}
use Rattle.kex_paths.specs.Nexts.{Outline, HasClass, IsChange, FollowsTree, inner_of, places_of}
use Rattle.kex_paths.proofs.Sizes.{one_next}
use Rattle.kex_paths.proofs.Samples.{one_class}
use Rattle.kex_determine.specs.Determined.{IsDetermined, targets_of, MeetsInOrder}
use Rattle.kex_determine.specs.Rows.{DoesOn, IsRowOf}
use Rattle.kex_determine.proofs.Transitions.{class_met}
use Rattle.kex_tabfile.specs.Lines.{stage_line, state_line, go_line}
use Rattle.kex_tabfile.specs.PlaceNumbers.{ArePlaceNumbers}
use Rattle.kex_tabfile.specs.Walks.{Target, Told, Spot, at_stage, at_state, at_class, behind_state, MeetsTarget, GoesByClass, IsRightLine, right_stage, right_state, right_init, right_go, HasNoLine, class_over, state_over, WalksLines, stays, passes_by, reads_line, IsStageText, most_table_states}
use Rattle.kex_tabfile.specs.TableFiles.{goes_of}
use Rattle.kex_tabfile.specs.Checking.{NextBy}
use Rattle.kex_tabfile.specs.Writing.{goes_text, init_behind, state_text, states_text, EachGoesOn}
use Rattle.kex_tabfile.proofs.LineSteps.{walk_on}
use Rattle.kex_tabfile.proofs.ClassSteps.{next_by}
use Rattle.kex_tabfile.proofs.TableRows.{target, still_among, met_among}
use Rattle.kex_tabfile.proofs.MetStates.{IsAtRow, at_first, met_before, row_through}

some_at : {A : Type 0} (xs : List A) (i : ℕ) → i < length xs → (x : A) × (slice_get xs i ≡ Some x)
some_at [] i lt = absurd (omega arith)
some_at (x ∷ xs) zero lt = (x, refl)
some_at (x ∷ xs) (suc i) lt = some_at xs i (omega arith)

pub drop_at : {A : Type 0} (xs : List A) (i : ℕ) (x : A) → slice_get xs i ≡ Some x → drop i xs ≡ x ∷ drop (suc i) xs
drop_at [] i x e = let lt : i < 0 = slice_get_within [] i x e in absurd (omega (arith, lt))
drop_at (y ∷ xs) zero x e = ap (λ z. z ∷ xs) (some_same y x e)
drop_at (y ∷ xs) (suc i) x e = drop_at xs i x e

among_split : (xs : List Target) (x y : Target) → IsAmong (xs ++ x ∷ []) y → IsAmong xs y ⊎ (x ≡ y)
among_split [] x y (inl e) = inr e
among_split [] x y (inr h) = absurd h
among_split (z ∷ xs) x y (inl e) = inl (inl e)
among_split (z ∷ xs) x y (inr h) = ⊎_elim (λ i. inl (inr i)) (λ e. inr e) (among_split xs x y h)

goes_of-append : (xs : List Row) (x : Row) → goes_of (xs ++ x ∷ []) ≡ goes_of xs ++ x.go ∷ []
goes_of-append [] x = refl
goes_of-append (y ∷ xs) x = ap (λ z. y.go ∷ z) (goes_of-append xs x)

length-goes : (rows : List Row) → length (goes_of rows) ≡ length rows
length-goes [] = refl
length-goes (x ∷ rows) = let h = length-goes rows in omega (arith, h)

one_longer : {A : Type 0} (xs : List A) (x : A) → length (xs ++ x ∷ []) ≡ suc (length xs)
one_longer xs x = omega (arith, length-append xs (x ∷ []))

-- what comes after a front
next_at : {A : Type 0} (all done left : List A) (x : A) → all ≡ done ++ x ∷ left → (slice_get all (length done) ≡ Some x) × (length done < length all) × (all ≡ (done ++ x ∷ []) ++ left)
next_at all done left x e =
    let split = e ∙ sym (append_assoc done (x ∷ []) left) in
    let here = ap (λ z. slice_get z (length done)) split ∙ get_more (done ++ x ∷ []) left (length done) x (get_last done x) in
    (here, slice_get_within all (length done) x here, split)

no_states : (numbers : List ℕ) (u : Change) (i : ℕ) (ss : List (Shape ℕ)) → states_text numbers u i ss [] ≡ []
no_states numbers u i [] = refl
no_states numbers u i (s ∷ ss) = refl

module _ (g : Graph) (t : Transducer) (d : IsDetermined g t) where
  -- how a state goes on with a class, by its row
  abbrev RowGoes : Shape ℕ → ℕ → Option Transition → Type 0
  RowGoes s k None = GoesByClass g k s None
  RowGoes s k (Some r) = (a : Grown Part ℕ) × GoesByClass g k s (Some a) × IsChange r.update a × (slice_get d.shapes r.target ≡ Some (shape_of a.tree))

  row_goes : (s : Shape ℕ) (row : Row) → IsRowOf g t.classes d.shapes s row → (k : ℕ) → k < class_count t.classes → (o : Option Transition) → slice_get row.go k ≡ Some o → RowGoes s k o
  row_goes s row is k lt o e = by o does
    where
      does : (b : ℕ) → HasClass g k b → DoesOn g d.shapes s b o
      does b (classes, has, below, at) =
          let same : class_at t.classes b ≡ k = one_class g t.classes classes d.classes has b below ∙ at in
          subst (λ z. DoesOn g d.shapes s b (transition_if z)) (ap (λ z. slice_get row.go z) same ∙ e) (is.does b below)

      by : (o : Option Transition) → ((b : ℕ) → HasClass g k b → DoesOn g d.shapes s b o) → RowGoes s k o
      by None h = h
      by (Some r) h =
          let met = class_met t.classes d.classes.refined.numbered k lt in
          let has : HasClass g k met.0 = (t.classes, d.classes, met.1, met.2) in
          let f = h met.0 has in
          let tree : Outline = record { machine = g; shape = inner_of (shape_of f.0.tree); leaves = places_of (shape_of f.0.tree) } in
          let follows : (b : ℕ) → HasClass g k b → FollowsTree tree b s r.update = (λ b c.
          let x = h b c in
          let same : shape_of f.0.tree ≡ shape_of x.0.tree = some_same (shape_of f.0.tree) (shape_of x.0.tree) (sym f.3 ∙ x.3) in
          (x.0, x.1, (ap inner_of same, ap places_of same), x.2)) in
          let n : NextBy g k s (Some (tree, r.update)) = next_by g t.classes d.classes k lt s (Some (tree, r.update)) refl follows in
          let same : f.0 ≡ n.1 = some_same f.0 n.1 (one_next g met.0 s (Some f.0) (Some n.1) f.1 (n.2 met.0 has)) in
          (n.1, n.2, n.4, f.3 ∙ ap (λ z. Some (shape_of z.tree)) same)

  -- with each class that has a transition a byte leads to its target
  pub row_leads : (s : Shape ℕ) (row : Row) → IsRowOf g t.classes d.shapes s row → EachGoesOn g d.shapes s row.go
  row_leads s row is k r e =
      let lt : k < class_count t.classes = omega (arith, slice_get_within row.go k (Some r) e, is.long) in
      let x = row_goes s row is k lt (Some r) e in
      let met = class_met t.classes d.classes.refined.numbered k lt in
      let has : HasClass g k met.0 = (t.classes, d.classes, met.1, met.2) in
      (met.0, x.0, has, x.1 met.0 has, x.3)

  -- the targets are the first n states with their trees
  pub record AreMet (n : ℕ) (targets : List Target) : Type 0 where
    pub within : (k : ℕ) (s : Shape ℕ) → IsAmong targets (target k s) → k < n
    pub each : (k : ℕ) (s : Shape ℕ) → k < n → slice_get d.shapes k ≡ Some s → IsAmong targets (target k s)

  meets : (n m k : ℕ) (s : Shape ℕ) (more : List ℕ) (targets : List Target) → AreMet n targets → slice_get d.shapes k ≡ Some s → MeetsInOrder n (k ∷ more) m → (after : List Target) × MeetsTarget targets (target k s) after × (n' : ℕ) × AreMet n' after × MeetsInOrder n' more m
  meets n m k s more targets met at (inl h) = (targets, inl (met.each k s h.0 at, refl), n, met, h.1)
  meets n m k s more targets met at (inr h) =
      let after = targets ++ target k s ∷ [] in
      let new : MeetsTarget targets (target k s) after = inr ((λ x i. let lt = met.within k x i in omega (arith, lt, h.0)), refl) in (
        after,
        new,
        suc n,
        record {
          within = λ j x i. ⊎_elim (λ i. let lt = met.within j x i in omega (arith, lt)) (λ e. let f : k ≡ j = ap (λ z. z.state) e in omega (arith, f, h.0)) (among_split targets (target k s) (target j x) i);
          each = λ j x lt e. ⊎_elim
              (λ l. still_among g t.classes targets (target k s) after new (target j x) (met.each j x l e))
              (λ l. let same : k ≡ j = omega (arith, l, lt, h.0) in
              let shape : s ≡ x = some_same s x (sym at ∙ ap (λ z. slice_get d.shapes z) same ∙ e) in
              subst (λ z. IsAmong after z) (ap₂ target same shape) (met_among g t.classes targets (target k s) after new))
              (cases_lt j n);
        },
        h.1,
      )

  module _ (numbers : List ℕ) where
    abbrev Walk : Spot → List ℕ → Spot → Type 0
    Walk p bytes q = WalksLines g numbers t.classes p bytes q

    abbrev told : List Target → List (List (Option Transition)) → Told
    told targets rows = record { states = length t.states; targets = targets; rows = rows }

    -- the lines by which a state goes on
    walk_goes : (s : Shape ℕ) (row : Row) → IsRowOf g t.classes d.shapes s row → (rows : List (List (Option Transition))) (i : ℕ) → length rows ≡ i → (n m : ℕ) (done left : List (Option Transition)) (targets : List Target) → row.go ≡ done ++ left → AreMet n targets → MeetsInOrder n (targets_of left) m → (after : List Target) × AreMet m after × Walk (at_class (told targets rows) s done) (goes_text i (length done) left) (at_class (told after rows) s row.go)
    walk_goes s row is rows i long n m done [] targets split met order = (
      targets,
      subst (λ z. AreMet z targets) order met,
      subst (λ z. Walk (at_class (told targets rows) s done) [] (at_class (told targets rows) s z)) (sym (split ∙ append-nil done)) stays,
    )
    walk_goes s row is rows i long n m done (None ∷ left) targets e met order =
        let here = next_at row.go done left None e in
        let below : length done < class_count t.classes = omega (arith, here.1, is.long) in
        let r = walk_goes s row is rows i long n m (done ++ None ∷ []) left targets here.2 met order in
        let p : Spot = at_class (told targets rows) s done in
        let q : Spot = at_class (told targets rows) s (done ++ None ∷ []) in
        let passed : HasNoLine g numbers t.classes p q = class_over below (row_goes s row is (length done) below None here.0) in
        let z : Spot = at_class (told r.0 rows) s row.go in
        (r.0, r.1, walk_on g numbers t.classes p q z [] (goes_text i (suc (length done)) left) (passes_by stays passed) (subst (λ k. Walk q (goes_text i k left) z) (one_longer done None) r.2))
    walk_goes s row is rows i long n m done (Some x ∷ left) targets e met order =
        let here = next_at row.go done left (Some x) e in
        let below : length done < class_count t.classes = omega (arith, here.1, is.long) in
        let a = row_goes s row is (length done) below (Some x) here.0 in
        let m' = meets n m x.target (shape_of a.0.tree) (targets_of left) targets met a.3 order in
        let r = walk_goes s row is rows i long m'.2 m (done ++ Some x ∷ []) left m'.0 here.2 m'.3 m'.4 in
        let p : Spot = at_class (told targets rows) s done in
        let q : Spot = at_class (told m'.0 rows) s (done ++ Some x ∷ []) in
        let z : Spot = at_class (told r.0 rows) s row.go in
        let right : IsRightLine g numbers t.classes p (go_line (length rows) (length done) x.target x.update) q = right_go x a.0 m'.0 below a.1 a.2 (omega (arith, slice_get_within d.shapes x.target (shape_of a.0.tree) a.3, d.rows.count)) m'.1 in
        let line : Walk p (go_line i (length done) x.target x.update) q = subst (λ k. Walk p (go_line k (length done) x.target x.update) q) long (reads_line stays right) in
        (r.0, r.1, walk_on g numbers t.classes p q z (go_line i (length done) x.target x.update) (goes_text i (suc (length done)) left) line (subst (λ k. Walk q (goes_text i k left) z) (one_longer done (Some x)) r.2))

    walk_init : (targets : List Target) (all rows : List (List (Option Transition))) (s : Shape ℕ) (i : ℕ) → length rows ≡ i → Walk (behind_state (told targets all) s rows) (init_behind t.initial i) (at_class (told targets all) s [])
    walk_init targets all [] s zero e = let b = d.rows.begins in reads_line stays (right_init t.initial b.0 b.1 b.2)
    walk_init targets all [] s (suc i) e = absurd (omega arith)
    walk_init targets all (row ∷ rows) s zero e = absurd (omega arith)
    walk_init targets all (row ∷ rows) s (suc i) e = stays

    -- all lines of a state
    walk_state : (s : Shape ℕ) (row : Row) → IsRowOf g t.classes d.shapes s row → (rows : List (List (Option Transition))) (i n m : ℕ) (targets : List Target) → length rows ≡ i → i < n → i < length t.states → slice_get d.shapes i ≡ Some s → AreMet n targets → MeetsInOrder n (targets_of row.go) m → (after : List Target) × AreMet m after × Walk (at_state (told targets rows)) (state_text numbers t.initial i s row.go) (at_state (told after (rows ++ row.go ∷ [])))
    walk_state s row is rows i n m targets long lt below at met order =
        let r = walk_goes s row is rows i long n m [] row.go targets refl met order in
        let p : Spot = at_state (told targets rows) in
        let q : Spot = behind_state (told targets rows) s rows in
        let x : Spot = at_class (told targets rows) s [] in
        let y : Spot = at_class (told r.0 rows) s row.go in
        let z : Spot = at_state (told r.0 (rows ++ row.go ∷ [])) in
        let right : IsRightLine g numbers t.classes p (state_line numbers (length rows) s) q = right_state s (omega (arith, long, below)) (subst (λ k. IsAmong targets (target k s)) (sym long) (met.each i s lt at)) in
        let line : Walk p (state_line numbers i s) q = subst (λ k. Walk p (state_line numbers k s) q) long (reads_line stays right) in
        let over : HasNoLine g numbers t.classes y z = state_over is.long in
        let init = walk_init targets rows rows s i long in
        let goes : Walk q (init_behind t.initial i ++ goes_text i 0 row.go) y = walk_on g numbers t.classes q x y (init_behind t.initial i) (goes_text i 0 row.go) init r.2 in
        (r.0, r.1, passes_by (walk_on g numbers t.classes p q y (state_line numbers i s) (init_behind t.initial i ++ goes_text i 0 row.go) line goes) over)

    walk_states : (done left : List Row) (ss : List (Shape ℕ)) (n : ℕ) (targets : List Target) → IsAtRow g t d done left n → ss ≡ drop (length done) d.shapes → AreMet n targets → (after : List Target) × Walk (at_state (told targets (goes_of done))) (states_text numbers t.initial (length done) ss left) (at_state (told after (goes_of t.states)))
    walk_states done [] ss n targets at es met = (
      targets,
      subst (λ z. Walk (at_state (told targets (goes_of done))) z (at_state (told targets (goes_of t.states)))) (sym (no_states numbers t.initial (length done) ss))
          (subst (λ z. Walk (at_state (told targets (goes_of done))) [] (at_state (told targets (goes_of z)))) (sym (at.split ∙ append-nil done)) stays),
    )
    walk_states done (row ∷ left) ss n targets at es met =
        let i = length done in
        let long : length (done ++ row ∷ []) ≡ suc i = one_longer done row in
        let here = next_at t.states done left row at.split in
        let below : i < length t.states = here.1 in
        let s = some_at d.shapes i (omega (arith, below, d.rows.count)) in
        let x = d.rows.rows i s.0 s.1 in
        let is : IsRowOf g t.classes d.shapes s.0 row = subst (λ z. IsRowOf g t.classes d.shapes s.0 z) (some_same x.0 row (sym x.1 ∙ here.0)) x.2 in
        let next = row_through g t d done left row n at in
        let w = walk_state s.0 row is (goes_of done) i n next.0 targets (length-goes done) (met_before g t d done left row n at) below s.1 met next.1 in
        let r = walk_states (done ++ row ∷ []) left (drop (suc i) d.shapes) next.0 w.0 next.2 (ap (λ k. drop k d.shapes) (sym long)) w.1 in
        let p : Spot = at_state (told targets (goes_of done)) in
        let q : Spot = at_state (told w.0 (goes_of (done ++ row ∷ []))) in
        let z : Spot = at_state (told r.0 (goes_of t.states)) in
        let first : Walk p (state_text numbers t.initial i s.0 row.go) q = subst (λ y. Walk p (state_text numbers t.initial i s.0 row.go) (at_state (told w.0 y))) (sym (goes_of-append done row)) w.2 in
        let later : Walk q (states_text numbers t.initial (suc i) (drop (suc i) d.shapes) left) z = subst (λ k. Walk q (states_text numbers t.initial k (drop (suc i) d.shapes) left) z) long r.1 in
        let all : Walk p (states_text numbers t.initial i (s.0 ∷ drop (suc i) d.shapes) (row ∷ left)) z = walk_on g numbers t.classes p q z (state_text numbers t.initial i s.0 row.go) (states_text numbers t.initial (suc i) (drop (suc i) d.shapes) left) first later in
        (r.0, subst (λ y. Walk p (states_text numbers t.initial i y (row ∷ left)) z) (sym (es ∙ drop_at d.shapes i s.0 s.1)) all)

    -- what is written of the stage
    pub stage_text : (stage : ℕ) → ArePlaceNumbers g numbers → length t.states ≤ most_table_states → IsStageText stage g (goes_of t.states) (stage_line stage (class_count t.classes) (length t.states) ++ states_text numbers t.initial 0 d.shapes t.states)
    stage_text stage numbered few =
        let b = d.rows.begins in
        let s = shape_of b.0.tree in
        let some : 0 < length t.states = omega (arith, slice_get_within d.shapes 0 s b.3, d.rows.count) in
        let met : AreMet 1 (target 0 s ∷ []) = record { within = λ k x i. one k x i; each = λ k x lt e. first k x lt e } in
        let w = walk_states [] t.states d.shapes 1 (target 0 s ∷ []) (at_first g t d) refl met in
        let q : Spot = at_state (told (target 0 s ∷ []) []) in
        let z : Spot = at_state (told w.0 (goes_of t.states)) in
        let right : IsRightLine g numbers t.classes (at_stage stage) (stage_line stage (class_count t.classes) (length t.states)) q = right_stage (length t.states) b.0 some few b.1 in
        record {
          numbers = numbers;
          classes = t.classes;
          numbers_of = record { numbered = numbered; classed = d.classes };
          told = told w.0 (goes_of t.states);
          walked = walk_on g numbers t.classes (at_stage stage) q z (stage_line stage (class_count t.classes) (length t.states)) (states_text numbers t.initial 0 d.shapes t.states) (reads_line stays right) w.1;
          through = length-goes t.states;
          rows_are = refl;
        }
      where
        one : (k : ℕ) (x : Shape ℕ) → IsAmong (target 0 (shape_of d.rows.begins.0.tree) ∷ []) (target k x) → k < 1
        one k x (inl e) = let f : 0 ≡ k = ap (λ z. z.state) e in omega (arith, f)
        one k x (inr h) = absurd h

        first : (k : ℕ) (x : Shape ℕ) → k < 1 → slice_get d.shapes k ≡ Some x → IsAmong (target 0 (shape_of d.rows.begins.0.tree) ∷ []) (target k x)
        first zero x lt e = inl (ap (λ z. target 0 z) (some_same (shape_of d.rows.begins.0.tree) x (sym d.rows.begins.3 ∙ e)))
        first (suc k) x lt e = absurd (omega arith)
