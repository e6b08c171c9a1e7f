-- The rows that right lines tell make the table of the machine.
use Rattle.std.proofs.Common.{◌≡◌, ℕ, zero, suc, ◌<◌, List, [], ◌∷◌, ◌++◌, ◌⊎◌, inl, inr, ⊎_elim, Option, Some, None, length, refl, sym, ap, subst, ◌∙◌, length-append, arith}
use Rattle.std.specs.Prelude.{slice_get}
use Rattle.std.proofs.lemmas.Option.{slice_get_within}
use Rattle.kex_byteset.specs.Classes.{class_at, class_count}
use Rattle.kex_code.specs.Codes.{IsAmong}
use Rattle.kex_model.specs.Labelled.{Shape, shape_of, Grown}
use Rattle.kex_model.proofs.Tables.{get_pushed, some_same}
use Rattle.kex_machine.specs.Nodes.{Graph, node_moves, HasClasses}
use Rattle.kex_machine.proofs.Nexts.{IsTrim}
use Rattle.kex_sst.specs.declared.parts.Part.{Part}
use Rattle.kex_sst.specs.declared.table.Transition.{Transition}
use Rattle.kex_sst.specs.Parts.{Change}
use Rattle.kex_sst.specs.Tables.{Row, Transducer, transition_if, IsTable}
use Rattle.kex_sst.specs.Machines.{IsTableOf}
use Rattle.kex_paths.specs.Nexts.{HasClass, IsFirstTree, IsChange}
use Rattle.kex_paths.proofs.Sizes.{one_first}
use Rattle.kex_determine.specs.Rows.{DoesOn, IsRowOf, AreRows}
use Rattle.kex_determine.proofs.MachineTables.{is_table}
use Rattle.kex_determine.proofs.TableForms.{well_formed}
use Rattle.kex_determine.proofs.Transitions.{class_below}
use Rattle.kex_tabfile.specs.Walks.{Target, Told, Spot, at_stage, at_state, at_init, at_class, behind_state, MeetsTarget, GoesByClass, IsRightLine, right_stage, right_state, right_init, right_go, HasNoLine, class_over, state_over, WalksLines, stays, passes_by, reads_line, IsThrough}
use Rattle.kex_tabfile.specs.TableFiles.{goes_of}
use Rattle.kex_tabfile.specs.Checking.{BeginsWith, HasEnds, EachHasEnds}

abbrev pub target : ℕ → Shape ℕ → Target
target k s = record { state = k; tree = s }

module _ (g : Graph) (classes : List ℕ) where
  -- what a line says that a state of shape s does with class k
  abbrev pub Goes : List Target → ℕ → ℕ → Shape ℕ → Option Transition → Type 0
  Goes targets n k s None = GoesByClass g k s None
  Goes targets n k s (Some r) = (a : Grown Part ℕ) × GoesByClass g k s (Some a) × IsChange r.update a × IsAmong targets (target r.target (shape_of a.tree)) × (r.target < n)

  abbrev pub EachGoes : List Target → ℕ → Shape ℕ → List (Option Transition) → Type 0
  EachGoes targets n s go = (k : ℕ) (o : Option Transition) → slice_get go k ≡ Some o → Goes targets n k s o

  pub record IsToldRow (targets : List Target) (n i : ℕ) (row : List (Option Transition)) : Type 0 where
    pub tree : Shape ℕ
    pub is : IsAmong targets (target i tree)
    pub long : length row ≡ class_count classes
    pub goes : EachGoes targets n tree row

  pub record IsTold (told : Told) : Type 0 where
    pub some : 0 < told.states
    pub first : (a : Grown Part ℕ) × IsFirstTree g (Some a) × IsAmong told.targets (target 0 (shape_of a.tree))
    pub one : (k : ℕ) (s t : Shape ℕ) → IsAmong told.targets (target k s) → IsAmong told.targets (target k t) → s ≡ t
    pub rows : (i : ℕ) (row : List (Option Transition)) → slice_get told.rows i ≡ Some row → IsToldRow told.targets told.states i row

  abbrev pub IsToldAt : Spot → Type 0
  IsToldAt (at_stage stage) = Unit {0}
  IsToldAt (at_state told) = IsTold told
  IsToldAt (at_init told s) = IsTold told × IsAmong told.targets (target (length told.rows) s)
  IsToldAt (at_class told s go) = IsTold told × IsAmong told.targets (target (length told.rows) s) × EachGoes told.targets told.states s go

  among-append : (xs ys : List Target) (x : Target) → IsAmong xs x → IsAmong (xs ++ ys) x
  among-append [] ys x h = absurd h
  among-append (y ∷ xs) ys x (inl e) = inl e
  among-append (y ∷ xs) ys x (inr h) = inr (among-append xs ys x h)

  among_last : (xs : List Target) (x : Target) → IsAmong (xs ++ x ∷ []) x
  among_last [] x = inl refl
  among_last (y ∷ xs) x = inr (among_last xs x)

  among_split : (xs : List Target) (x y : Target) → IsAmong (xs ++ x ∷ []) y → IsAmong xs y ⊎ (x ≡ y)
  among_split [] x y (inl e) = inr e
  among_split [] x y (inr h) = absurd h
  among_split (z ∷ xs) x y (inl e) = inl (inl e)
  among_split (z ∷ xs) x y (inr h) = ⊎_elim (λ i. inl (inr i)) (λ e. inr e) (among_split xs x y h)

  pub still_among : (xs : List Target) (x : Target) (ys : List Target) → MeetsTarget xs x ys → (y : Target) → IsAmong xs y → IsAmong ys y
  still_among xs x ys (inl h) y i = subst (λ z. IsAmong z y) (sym h.1) i
  still_among xs x ys (inr h) y i = subst (λ z. IsAmong z y) (sym h.1) (among-append xs (x ∷ []) y i)

  pub met_among : (xs : List Target) (x : Target) (ys : List Target) → MeetsTarget xs x ys → IsAmong ys x
  met_among xs x ys (inl h) = subst (λ z. IsAmong z x) (sym h.1) h.0
  met_among xs x ys (inr h) = subst (λ z. IsAmong z x) (sym h.1) (among_last xs x)

  abbrev One : List Target → Type 0
  One xs = (k : ℕ) (s t : Shape ℕ) → IsAmong xs (target k s) → IsAmong xs (target k t) → s ≡ t

  pub still_one : (xs : List Target) (x : Target) (ys : List Target) → MeetsTarget xs x ys → One xs → One ys
  still_one xs x ys (inl h) one = subst (λ z. One z) (sym h.1) one
  still_one xs x ys (inr h) one = subst (λ z. One z) (sym h.1) (λ k s t i j. ⊎_elim
      (λ a. ⊎_elim (λ b. one k s t a b) (λ e. absurd (h.0 s (new k s t e a))) (among_split xs x (target k t) j))
      (λ e. ⊎_elim (λ b. absurd (h.0 t (new k t s e b))) (λ f. let u : target k s ≡ target k t = sym e ∙ f in ap (λ z. z.tree) u) (among_split xs x (target k t) j))
      (among_split xs x (target k s) i))
    where
      new : (k : ℕ) (s t : Shape ℕ) → x ≡ target k t → IsAmong xs (target k s) → IsAmong xs (target x.state s)
      new k s t e a = subst (λ z. IsAmong xs (target z s)) (sym (ap (λ z. z.state) e)) a

  goes_later : (xs : List Target) (x : Target) (ys : List Target) → MeetsTarget xs x ys → (n k : ℕ) (s : Shape ℕ) (o : Option Transition) → Goes xs n k s o → Goes ys n k s o
  goes_later xs x ys m n k s None h = h
  goes_later xs x ys m n k s (Some r) (a, by, change, is, below) = (a, by, change, still_among xs x ys m (target r.target (shape_of a.tree)) is, below)

  told_later : (told : Told) (x : Target) (ys : List Target) → MeetsTarget told.targets x ys → IsTold told → IsTold (record told { targets = ys })
  told_later told x ys m h = record {
    some = h.some;
    first = (h.first.0, h.first.1, still_among told.targets x ys m (target 0 (shape_of h.first.0.tree)) h.first.2);
    one = still_one told.targets x ys m h.one;
    rows = λ i row e. let r = h.rows i row e in record { tree = r.tree; is = still_among told.targets x ys m (target i r.tree) r.is; long = r.long; goes = λ k o f. goes_later told.targets x ys m told.states k r.tree o (r.goes k o f) };
  }

  more_goes : (xs : List Target) (n : ℕ) (s : Shape ℕ) (go : List (Option Transition)) (o : Option Transition) → EachGoes xs n s go → Goes xs n (length go) s o → EachGoes xs n s (go ++ o ∷ [])
  more_goes xs n s go o each last k p e = ⊎_elim
      (λ h. each k p h)
      (λ h. subst (λ z. Goes xs n k s z) h.1 (subst (λ z. Goes xs n z s o) (sym h.0) last))
      (get_pushed go o k p e)

  none_goes : (xs : List Target) (n : ℕ) (s : Shape ℕ) → EachGoes xs n s []
  none_goes xs n s k o e = let lt : k < 0 = slice_get_within [] k o e in absurd (omega (arith, lt))

  told_behind : (told : Told) (s : Shape ℕ) (rows : List (List (Option Transition))) → IsTold told → IsAmong told.targets (target (length told.rows) s) → IsToldAt (behind_state told s rows)
  told_behind told s [] h i = (h, i)
  told_behind told s (row ∷ rows) h i = (h, i, none_goes told.targets told.states s)

  module _ (numbers : List ℕ) where
    told_right : (p : Spot) (line : List ℕ) (q : Spot) → IsRightLine g numbers classes p line q → IsToldAt p → IsToldAt q
    told_right p line q (right_stage n a some few f) h = record {
      some = some;
      first = (a, f, inl refl);
      one = λ k s t i j. ap (λ z. z.tree) (sym (only (shape_of a.tree) k s i) ∙ only (shape_of a.tree) k t j);
      rows = λ i row e. let lt : i < 0 = slice_get_within [] i row e in absurd (omega (arith, lt));
    }
      where
        only : (x : Shape ℕ) (k : ℕ) (s : Shape ℕ) → IsAmong (target 0 x ∷ []) (target k s) → target 0 x ≡ target k s
        only x k s (inl e) = e
        only x k s (inr i) = absurd i
    told_right p line q (right_state {told = told} s lt i) h = told_behind told s told.rows h i
    told_right p line q (right_init {told = told} {s = s} u a f c) h = (h.0, h.1, none_goes told.targets told.states s)
    told_right p line q (right_go {told = told} {s = s} {go = go} r a after lt by change below m) h = (
      told_later told (target r.target (shape_of a.tree)) after m h.0,
      still_among told.targets (target r.target (shape_of a.tree)) after m (target (length told.rows) s) h.1,
      more_goes after told.states s go (Some r) (λ k o e. goes_later told.targets (target r.target (shape_of a.tree)) after m told.states k s o (h.2 k o e)) (a, by, change, met_among told.targets (target r.target (shape_of a.tree)) after m, below),
    )

    told_passed : (p q : Spot) → HasNoLine g numbers classes p q → IsToldAt p → IsToldAt q
    told_passed p q (class_over {told = told} {s = s} {go = go} lt by) h = (h.0, h.1, more_goes told.targets told.states s go None h.2 by)
    told_passed p q (state_over {told = told} {s = s} {go = go} e) h = record {
      some = h.0.some;
      first = h.0.first;
      one = h.0.one;
      rows = λ i row f. ⊎_elim
          (λ k. h.0.rows i row k)
          (λ k. record {
            tree = s;
            is = subst (λ z. IsAmong told.targets (target z s)) (sym k.0) h.1;
            long = ap length (sym k.1) ∙ e;
            goes = subst (λ z. EachGoes told.targets told.states s z) k.1 h.2;
          })
          (get_pushed told.rows go i row f);
    }

    -- what right lines tell is so
    pub told_by : (p q : Spot) (bytes : List ℕ) → WalksLines g numbers classes p bytes q → IsToldAt p → IsToldAt q
    told_by p q bytes stays h = h
    told_by p q bytes (passes_by {bytes = bs} {p = m} w n) h = told_passed m q n (told_by p m bs w h)
    told_by p q bs (reads_line {bytes = bytes} {line = line} {p = m} w n) h = told_right m line q n (told_by p m bytes w h)

  -- ---- the table

  -- the shapes of the first n states
  record AreShapes (targets : List Target) (n : ℕ) : Type 0 where
    shapes : List (Shape ℕ)
    count : length shapes ≡ n
    each : (i : ℕ) (s : Shape ℕ) → slice_get shapes i ≡ Some s → IsAmong targets (target i s)

  shapes_of : (targets : List Target) (n : ℕ) → ((i : ℕ) → i < n → (s : Shape ℕ) × IsAmong targets (target i s)) → AreShapes targets n
  shapes_of targets zero h = record { shapes = []; count = refl; each = λ i s e. let lt : i < 0 = slice_get_within [] i s e in absurd (omega (arith, lt)) }
  shapes_of targets (suc n) h =
      let r = shapes_of targets n (λ i lt. h i (omega (arith, lt))) in
      let x = h n (omega arith) in
      record {
        shapes = r.shapes ++ x.0 ∷ [];
        count = omega (arith, length-append r.shapes (x.0 ∷ []), r.count);
        each = λ i s e. ⊎_elim (λ k. r.each i s k) (λ k. subst (λ z. IsAmong targets (target i z)) k.1 (subst (λ z. IsAmong targets (target z x.0)) (sym (k.0 ∙ r.count)) x.1)) (get_pushed r.shapes x.0 i s e);
      }

  some_at : {A : Type 0} (xs : List A) (i : ℕ) → i < length xs → (x : A) × (slice_get xs i ≡ Some x)
  some_at [] i lt = absurd (omega arith)
  some_at (x ∷ xs) zero lt = (x, refl)
  some_at (x ∷ xs) (suc i) lt = some_at xs i (omega arith)

  get_map : (rows : List Row) (i : ℕ) (r : Row) → slice_get rows i ≡ Some r → slice_get (goes_of rows) i ≡ Some r.go
  get_map (x ∷ rows) zero r e = ap (λ z. Some z) (ap (λ z. z.go) (some_same x r e))
  get_map (x ∷ rows) (suc i) r e = get_map rows i r e
  get_map [] i r e = let lt : i < 0 = slice_get_within [] i r e in absurd (omega (arith, lt))

  length-goes : (rows : List Row) → length (goes_of rows) ≡ length rows
  length-goes [] = refl
  length-goes (x ∷ rows) = let h = length-goes rows in omega (arith, h)

  module _ (classed : HasClasses g.nodes classes) (told : Told) (h : IsTold told) (through : IsThrough told) (u : Change) (begins : BeginsWith g u) (rows : List Row) (same : goes_of rows ≡ told.rows) (ends : EachHasEnds g told.targets rows) where
    abbrev table : Transducer
    table = record { classes = classes; initial = u; states = rows }

    count : length rows ≡ told.states
    count = sym (length-goes rows) ∙ ap length same ∙ through

    shapes_are : AreShapes told.targets (length rows)
    shapes_are = shapes_of told.targets (length rows) (λ i lt. let r = some_at rows i lt in let e = ends i r.0 r.1 in (e.0, e.1))

    at_target : (k : ℕ) (s : Shape ℕ) → k < length rows → IsAmong told.targets (target k s) → slice_get shapes_are.shapes k ≡ Some s
    at_target k s lt i =
        let x = some_at shapes_are.shapes k (omega (arith, lt, shapes_are.count)) in
        x.1 ∙ ap (λ z. Some z) (h.one k x.0 s (shapes_are.each k x.0 x.1) i)

    does_on : (k : ℕ) (s : Shape ℕ) (o : Option Transition) (b : ℕ) → HasClass g k b → Goes told.targets told.states k s o → DoesOn g shapes_are.shapes s b o
    does_on k s None b c goes = goes b c
    does_on k s (Some r) b c (a, by, change, is, below) = (a, by b c, change, at_target r.target (shape_of a.tree) (omega (arith, below, count)) is)

    row_of : (i : ℕ) (s : Shape ℕ) → slice_get shapes_are.shapes i ≡ Some s → (r : Row) × (slice_get rows i ≡ Some r) × IsRowOf g classes shapes_are.shapes s r
    row_of i s e =
        let lt : i < length rows = omega (arith, slice_get_within shapes_are.shapes i s e, shapes_are.count) in
        let r = some_at rows i lt in
        let d = ends i r.0 r.1 in
        let is = shapes_are.each i s e in
        let t = h.rows i r.0.go (ap (λ z. slice_get z i) (sym same) ∙ get_map rows i r.0 r.1) in
        let ended = subst (λ z. HasEnds g z r.0.registers r.0.accepting) (h.one i d.0 s d.1 is) d.2 in
        let goes = subst (λ z. EachGoes told.targets told.states z r.0.go) (h.one i t.tree s t.is is) t.goes in (
          r.0,
          r.1,
          record {
            registers = ended.count;
            long = t.long;
            ends = ended.way;
            does = λ b below.
                let k = class_at classes b in
                let o = some_at r.0.go k (omega (arith, class_below classes classed.refined.numbered b below, t.long)) in
                subst (λ z. DoesOn g shapes_are.shapes s b (transition_if z)) (sym o.1) (does_on k s o.0 b (classes, classed, below, refl) (goes k o.0 o.1));
          },
        )

    first_same : shape_of h.first.0.tree ≡ shape_of begins.0.tree
    first_same = ap (λ z. shape_of z.tree) (some_same h.first.0 begins.0 (one_first g (Some h.first.0) (Some begins.0) h.first.1 begins.1))

    are_rows : AreRows g table shapes_are.shapes
    are_rows = record {
      count = sym shapes_are.count;
      begins = (begins.0, begins.1, begins.2, at_target 0 (shape_of begins.0.tree) (omega (arith, h.some, count)) (subst (λ z. IsAmong told.targets (target 0 z)) first_same h.first.2));
      rows = row_of;
    }

    pub is_table_of : IsTrim (node_moves g.nodes) g.start → IsTableOf g table
    is_table_of trim = is_table g trim table shapes_are.shapes classed are_rows

    pub is_well_formed : length rows < 4294967296 → IsTable table
    is_well_formed few = well_formed g table shapes_are.shapes classed are_rows few
