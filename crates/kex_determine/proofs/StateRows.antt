-- Rows, state by state.
use Rattle.std.proofs.Common.{◌≡◌, ℕ, zero, suc, ◌<◌, ◌≤◌, List, [], ◌∷◌, ◌++◌, ⊎_elim, Some, length, refl, sym, ap, subst, ◌∙◌, append-nil, append_assoc, length-append, arith}
use Rattle.std.specs.Prelude.{slice_get}
use Rattle.std.specs.Global.{Vec}
use Rattle.std.proofs.lemmas.Bool.{cases_lt}
use Rattle.kex_byteset.specs.Classes.{class_at}
use Rattle.kex_code.specs.Codes.{IsAmong, Begins}
use Rattle.kex_model.specs.Labelled.{Shape, shape_of, Grown}
use Rattle.kex_model.specs.States.{IsState, HasStates, HasMoreStates}
use Rattle.kex_model.proofs.Tables.{get_more, get_last, some_same}
use Rattle.kex_machine.specs.Nodes.{Graph, node_moves, HasClasses}
use Rattle.kex_machine.proofs.Nexts.{IsTrim}
use Rattle.kex_sst.specs.declared.parts.Part.{Part}
use Rattle.kex_sst.specs.Parts.{Change}
use Rattle.kex_sst.specs.Tables.{Row, Transducer, transition_if}
use Rattle.kex_sst.specs.Machines.{IsTableOf}
use Rattle.kex_paths.specs.Nexts.{Outline, IsFirstTree, IsChange, BeginsTree as BeginsWith}
use Rattle.kex_paths.proofs.Sizes.{one_first}
use Rattle.kex_determine.specs.Determined.{AreStateTrees, targets_of, targets_in, MeetsInOrder, IsDetermined}
use Rattle.kex_determine.specs.Rows.{IsRowOf, AreRows, IsFound, at_first}
use Rattle.kex_determine.specs.Numbering.{texts, IsMet, AreNumbered, IsWith, IsStateWith, HasMoreFound}
use Rattle.kex_determine.specs.Filling.{IsFilled}
use Rattle.kex_determine.proofs.MachineTables.{shows, all_states, is_table, found_state}
use Rattle.kex_determine.proofs.Transitions.{meets_append, does_later, get_later}
use Rattle.kex_determine.proofs.ShapeKeys.{get_within}

pub some_at : {A : Type 0} (xs : List A) (i : ℕ) → i < length xs → (s : A) × (slice_get xs i ≡ Some s)
some_at [] i lt = absurd (omega arith)
some_at (x ∷ xs) zero lt = (x, refl)
some_at (x ∷ xs) (suc i) lt = some_at xs i (omega arith)

targets_in-append : (rows more : List Row) → targets_in (rows ++ more) ≡ targets_in rows ++ targets_in more
targets_in-append [] more = refl
targets_in-append (r ∷ rows) more = ap (λ z. targets_of r.go ++ z) (targets_in-append rows more) ∙ sym (append_assoc (targets_of r.go) (targets_in rows) (targets_in more))

module _ (g : Graph) where
  pub none_yet : (keys : List (Vec ℕ)) (trees : List Outline) → keys ≡ [] → trees ≡ [] → AreNumbered g keys trees []
  none_yet keys trees e f = record {
    keyed = ap texts e;
    count = ap length f;
    shaped = λ i s at. nothing i s at;
    different = tt;
  }
    where
      nothing : {B : Type 0} (i : ℕ) (s : Shape ℕ) → slice_get [] i ≡ Some s → B
      nothing i s at = let bad : ⊥ = cc in absurd bad

  -- the tree of the empty text is met first
  pub first_met : (tree : Outline) (u : Change) → tree.machine ≡ g → (b : BeginsWith tree u) → IsMet g tree (shape_of b.0.tree)
  first_met tree u same (a, first, shape, change) = record { machine = same; shape = shape; found = at_first a (subst (λ z. IsFirstTree z (Some a)) same first) }

  pub first_filled : (classes : List ℕ) (keys : List (Vec ℕ)) (trees : List Outline) (tree : Outline) (u : Change) (i : ℕ) (ys : List (Shape ℕ)) → tree.machine ≡ g → (b : BeginsWith tree u) → IsWith g keys trees [] (shape_of b.0.tree) i ys → IsFilled g classes keys trees []
  first_filled classes keys trees tree u i ys same (a, first, shape, change) w = ⊎_elim
      (λ e. absurd (none_below i e.1))
      (λ e. record {
        shapes = ys;
        numbered = w.numbered;
        first = (a, subst (λ z. IsFirstTree z (Some a)) same first, ap (λ z. slice_get z 0) e.0);
        within = omega arith;
        each = λ j s lt at. absurd (none_below j lt);
        order = sym (ap length e.0);
      })
      w.grown
    where
      none_below : (j : ℕ) → j < 0 → ⊥
      none_below j lt = omega arith

  row_later : (classes : List ℕ) (xs ys : List (Shape ℕ)) (s : Shape ℕ) (r : Row) → Begins ys xs → IsRowOf g classes xs s r → IsRowOf g classes ys s r
  row_later classes xs ys s r p h = record {
    registers = h.registers;
    long = h.long;
    ends = h.ends;
    does = λ b lt. does_later g xs ys s b (transition_if (slice_get r.go (class_at classes b))) p (h.does b lt);
  }

  begins_length : {A : Type 0} (xs ys : List A) → Begins ys xs → length xs ≤ length ys
  begins_length xs ys (more, e) = omega (arith, ap length e, length-append xs more)

  -- one row more
  pub fill_more : (classes : List ℕ) (keys keys' : List (Vec ℕ)) (trees trees' : List Outline) (rows : List Row) (row : Row) (f : IsFilled g classes keys trees rows) (s : Shape ℕ) (ys : List (Shape ℕ)) → slice_get f.shapes (length rows) ≡ Some s → IsStateWith g classes keys' trees' f.shapes ys s row → IsFilled g classes keys' trees' (rows ++ row ∷ [])
  fill_more classes keys keys' trees trees' rows row f s ys at w = record {
    shapes = ys;
    numbered = w.numbered;
    first = let a = f.first in (a.0, a.1, get_later g f.shapes ys 0 (shape_of a.0.tree) w.begins a.2);
    within = omega (arith, length-append rows (row ∷ []), get_within f.shapes (length rows) s at, begins_length f.shapes ys w.begins);
    each = λ i x lt here. ⊎_elim
        (λ h.
        let old = some_at f.shapes i (omega (arith, h, f.within)) in
        let same = some_same old.0 x (sym (get_later g f.shapes ys i old.0 w.begins old.1) ∙ here) in
        let r = f.each i old.0 h old.1 in
        (r.0, get_more rows (row ∷ []) i r.0 r.1, subst (λ z. IsRowOf g classes ys z r.0) same (row_later classes f.shapes ys old.0 r.0 w.begins r.2)))
        (λ h.
        let e : i ≡ length rows = omega (arith, h, lt, length-append rows (row ∷ [])) in
        let same = some_same s x (sym (get_later g f.shapes ys (length rows) s w.begins at) ∙ ap (λ z. slice_get ys z) (sym e) ∙ here) in
        (row, ap (λ z. slice_get (rows ++ row ∷ []) z) e ∙ get_last rows row, subst (λ z. IsRowOf g classes ys z row) same w.row_of))
        (cases_lt i (length rows));
    order = subst (λ z. MeetsInOrder 1 z (length ys)) (sym (targets_in-append rows (row ∷ []) ∙ ap (λ z. targets_in rows ++ z) (append-nil (targets_of row.go)))) (meets_append 1 (length f.shapes) (length ys) (targets_in rows) (targets_of row.go) f.order w.order);
  }

  -- the state whose row is next
  pub next_state : (classes : List ℕ) (keys : List (Vec ℕ)) (trees : List Outline) (rows : List Row) (f : IsFilled g classes keys trees rows) → length rows < length trees → (s : Shape ℕ) × (slice_get f.shapes (length rows) ≡ Some s)
  next_state classes keys trees rows f lt = some_at f.shapes (length rows) (omega (arith, lt, f.numbered.count))

  -- all rows
  pub all_rows : (classes : List ℕ) (u : Change) (keys : List (Vec ℕ)) (trees : List Outline) (rows : List Row) (f : IsFilled g classes keys trees rows) → length trees ≤ length rows → (a : Grown Part ℕ) → IsFirstTree g (Some a) → IsChange u a → AreRows g (record { classes = classes; initial = u; states = rows }) f.shapes
  all_rows classes u keys trees rows f le a first change = record {
    count = omega (arith, le, f.within, f.numbered.count);
    begins = let b = f.first in let same = some_same b.0 a (one_first g (Some b.0) (Some a) b.1 first) in (a, first, change, subst (λ z. slice_get f.shapes 0 ≡ Some (shape_of z.tree)) same b.2);
    rows = λ i s at. f.each i s (omega (arith, get_within f.shapes i s at, le, f.numbered.count)) at;
  }

  module _ (trim : IsTrim (node_moves g.nodes) g.start) where
    each_state : (keys : List (Vec ℕ)) (trees : List Outline) (xs : List (Shape ℕ)) → AreNumbered g keys trees xs → (s : Shape ℕ) → IsAmong xs s → IsState (node_moves g.nodes) g.start s
    each_state keys trees xs n s i = found_state g trim s (found_in xs s i (λ j x e. (n.shaped j x e).2.found))
      where
        found_in : (ys : List (Shape ℕ)) (x : Shape ℕ) → IsAmong ys x → ((j : ℕ) (y : Shape ℕ) → slice_get ys j ≡ Some y → IsFound g y) → IsFound g x
        found_in [] x i h = absurd i
        found_in (y ∷ ys) x i h = ⊎_elim (λ e. subst (λ z. IsFound g z) e (h 0 y refl)) (λ k. found_in ys x k (λ j z e. h (suc j) z e)) i

    -- what the filled table is
    module _ (classes : List ℕ) (classed : HasClasses g.nodes classes) (u : Change) (keys : List (Vec ℕ)) (trees : List Outline) (rows : List Row) (f : IsFilled g classes keys trees rows) (le : length trees ≤ length rows) (a : Grown Part ℕ) (first : IsFirstTree g (Some a)) (change : IsChange u a) where
      abbrev table : Transducer
      table = record { classes = classes; initial = u; states = rows }

      count : length rows ≡ length f.shapes
      count = (all_rows classes u keys trees rows f le a first change).count

      pub determined : IsDetermined g table
      determined = record {
        shapes = f.shapes;
        rows = all_rows classes u keys trees rows f le a first change;
        different = f.numbered.different;
        each = each_state keys trees f.shapes f.numbered;
        all = all_states g trim table f.shapes classed (all_rows classes u keys trees rows f le a first change);
        shows = shows g trim table f.shapes classed (all_rows classes u keys trees rows f le a first change);
        numbered = subst (λ n. MeetsInOrder 1 (targets_in rows) n) (sym count) f.order;
        classes = classed;
      }

      -- with the trees of the states
      pub with_trees : AreStateTrees g f.shapes trees → (d : IsDetermined g table) × AreStateTrees g d.shapes trees
      unfolding determined
      with_trees h = (determined, h)

      pub tabled : IsTableOf g table
      tabled = is_table g trim table f.shapes classed (all_rows classes u keys trees rows f le a first change)

      pub has_states : HasStates (node_moves g.nodes) g.start (length rows)
      has_states = record { states = f.shapes; count = count; different = f.numbered.different; each = each_state keys trees f.shapes f.numbered; all = all_states g trim table f.shapes classed (all_rows classes u keys trees rows f le a first change) }

    -- there are more states than were allowed
    pub more_states : (most : ℕ) → HasMoreFound g most → HasMoreStates (node_moves g.nodes) g.start most
    more_states most h = (h.shapes, h.more, h.different, (λ s i. found_state g trim s (h.each s i)))
