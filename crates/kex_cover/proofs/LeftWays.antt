-- How what is left of a table's states goes on.
use Rattle.std.proofs.Common.{◌≡◌, ℕ, ◌<◌, Bool, List, Option, Some, None, length, sym, ap, subst, ◌∙◌, arith}
use Rattle.std.specs.Prelude.{slice_get, IfSome, MatchOption}
use Rattle.std.specs.Option.{option_map}
use Rattle.std.proofs.lemmas.List.{length-map}
use Rattle.std.proofs.lemmas.Option.{slice_get-map, slice_get_within}
use Rattle.kex_byteset.specs.Classes.{class_at, class_count}
use Rattle.kex_model.specs.Labelled.{Shape, shape_of, Grown}
use Rattle.kex_model.proofs.Tables.{some_same}
use Rattle.kex_machine.specs.Nodes.{Graph}
use Rattle.kex_machine.specs.Covering.{restrict_if}
use Rattle.kex_sst.specs.declared.parts.Part.{Part}
use Rattle.kex_sst.specs.declared.table.Transition.{Transition}
use Rattle.kex_sst.specs.Parts.{Change}
use Rattle.kex_sst.specs.Tables.{Transducer, transition_if, transition_on, transition_of}
use Rattle.kex_paths.specs.Nexts.{Outline, HasClass, IsFirstTree, IsNext, IsChange, IsOfShape, FollowsTree, places_of}
use Rattle.kex_paths.specs.KeptLeaves.{IsRestricted, restrict_shape}
use Rattle.kex_paths.proofs.LeftTrees.{shape_if, left_shape_if}
use Rattle.kex_determine.specs.Determined.{AreStateTrees}
use Rattle.kex_determine.specs.Rows.{DoesOn}
use Rattle.kex_determine.proofs.MachineTables.{among_get}
use Rattle.kex_determine.proofs.Transitions.{class_met}
use Rattle.kex_cover.specs.Keeping.{AreStatesLeft, IsBestStart, IsUpdateTo, KeepsSome}
use Rattle.kex_cover.specs.Optimal.{DoesBest, IsBestTransition, IsLeftState, LeftState, has_number, has_place, wholes}
use Rattle.kex_cover.proofs.BestTables.{goes_left}
use Rattle.kex_cover.proofs.LeftLeaves.{some_at, same_left_if}

-- ---- an update and what is left of it

-- what comes with a class
abbrev pub ComesNext : Graph → Outline → ℕ → Option (Outline × Change) → Type 0
ComesNext g from class next = (s : Shape ℕ) (b : ℕ) → IsOfShape from s → HasClass g class b → MatchOption next (IsNext g b s None) (λ n. (a : Grown Part ℕ) × IsNext g b s (Some a) × IsOfShape n.0 (shape_of a.tree) × IsChange n.1 a)

pub comes_next : (g : Graph) (from : Outline) (class : ℕ) → from.machine ≡ g → (next : Option (Outline × Change)) → IfSome next (λ n. n.0.machine ≡ from.machine) → ((s : Shape ℕ) (b : ℕ) → IsOfShape from s → HasClass from.machine class b → MatchOption next (IsNext from.machine b s None) (λ n. FollowsTree n.0 b s n.1)) → ComesNext g from class next
comes_next g from class same None m h s b is has = subst (λ z. IsNext z b s None) same (h s b is (subst (λ z. HasClass z class b) (sym same) has))
comes_next g from class same (Some n) m h s b is has = let f = h s b is (subst (λ z. HasClass z class b) (sym same) has) in (f.0, subst (λ z. IsNext z b s (Some f.0)) (m ∙ same) f.1, f.2, f.3)

-- what an update is for, and what its tree is left with
module _ (g : Graph) (from : Outline) (class : ℕ) (places : List ℕ) (keep : ℕ → Bool) (same : (p : ℕ) → keep p ≡ has_number places p) (k : KeepsSome g from class places) where
  pub some_next : (next : Option (Outline × Change)) → ComesNext g from class next → next ≡ None → ⊥
  some_next None h e = let (rest, is) = k.4 None (h k.0 k.1 k.2 k.3) in cc
  some_next (Some n) h e = cc

  pub next_tree : (next : Option (Outline × Change)) (tree : Outline) (u : Change) → ComesNext g from class next → next ≡ Some (tree, u) → (a : Grown Part ℕ) × IsOfShape tree (shape_of a.tree) × IsChange u a
  next_tree None tree u h e = let bad : ⊥ = cc in absurd bad
  next_tree (Some n) tree u h e = let a = h k.0 k.1 k.2 k.3 in subst (λ z. (a : Grown Part ℕ) × IsOfShape z.0 (shape_of a.tree) × IsChange z.1 a) (some_same n (tree, u) e) (a.0, a.2, a.3)

  module _ (next : Option (Outline × Change)) (tree : Outline) (u : Change) (h : ComesNext g from class next) (e : next ≡ Some (tree, u)) where
    at_next : (s : Shape ℕ) (b : ℕ) → IsOfShape from s → HasClass g class b → (a : Grown Part ℕ) × IsNext g b s (Some a) × IsOfShape tree (shape_of a.tree) × IsChange u a
    at_next s b is has = subst (λ z. MatchOption z (IsNext g b s None) (λ n. (a : Grown Part ℕ) × IsNext g b s (Some a) × IsOfShape n.0 (shape_of a.tree) × IsChange n.1 a)) e (h s b is has)

    pub some_rest : (r : Option (Outline × Change)) → IsRestricted keep tree u r → r ≡ None → ⊥
    some_rest None h e =
        let a = at_next k.0 k.1 k.2 k.3 in
        let (rest, is) = k.4 (Some a.0) a.1 in
        let none : restrict_if keep (Some a.0) ≡ None = h a.0 a.2 a.3 in
        let bad : None ≡ Some rest = sym none ∙ same_left_if keep (has_number places) same (Some a.0) ∙ is in
        cc
    some_rest (Some n) h e = cc

    pub updated : (r : Option (Outline × Change)) (left : Outline) (v : Change) → IsRestricted keep tree u r → r ≡ Some (left, v) → (s : Shape ℕ) (b : ℕ) → IsOfShape from s → HasClass g class b → IsUpdateTo g b s places v
    updated r left v restricted is s b of has =
        let a = at_next s b of has in
        let m = subst (λ z. MatchOption z (restrict_if keep (Some a.0) ≡ None) (λ n. (x : Grown Part ℕ) × (restrict_if keep (Some a.0) ≡ Some x) × IsOfShape n.0 (shape_of x.tree) × IsChange n.1 x)) is (restricted a.0 a.2 a.3) in
        record { next = a.0; is_next = a.1; rest = m.0; is_rest = sym (same_left_if keep (has_number places) same (Some a.0)) ∙ m.1; change = m.3 }

-- ---- the states of a table

whole_at : (states : List LeftState) (shapes : List (Shape ℕ)) (i : ℕ) (s : LeftState) → wholes states ≡ shapes → slice_get states i ≡ Some s → slice_get shapes i ≡ Some s.whole
whole_at states shapes i s e at = ap (λ z. slice_get z i) (sym e) ∙ slice_get-map (λ x. x.whole) states i ∙ ap (λ z. option_map (λ x. x.whole) z) at

module _ (g : Graph) (t : Transducer) (lefts : List Outline) (k : AreStatesLeft g t lefts) where
  abbrev states : List LeftState
  states = k.left.states

  count : length states ≡ length t.states
  count = sym (length-map states (λ x. x.whole)) ∙ ap length k.left.wholes_are ∙ sym k.determined.rows.count

  pub state_at : (i : ℕ) → i < length t.states → (s : LeftState) × (slice_get states i ≡ Some s)
  state_at i lt = some_at states i (omega (arith, lt, count))

  pub many_lefts : length lefts ≡ length t.states
  many_lefts = k.left.count ∙ count

  pub left_at : (i : ℕ) (s : LeftState) (left : Outline) → slice_get states i ≡ Some s → slice_get lefts i ≡ Some left → (left.machine ≡ g) × IsOfShape left s.left × IsLeftState g s
  left_at i s left at here =
      let r = k.left.each i s at in
      let same : r.0 ≡ left = some_same r.0 left (sym r.1 ∙ here) in
      (subst (λ z. z.machine ≡ g) same r.2, subst (λ z. IsOfShape z s.left) same r.3, r.4)

  pub machine_of : (i : ℕ) (left : Outline) → slice_get lefts i ≡ Some left → left.machine ≡ g
  machine_of i left here = let (s, at) = state_at i (omega (arith, slice_get_within lefts i left here, many_lefts)) in (left_at i s left at here).0

  -- what the whole tree does
  whole_does : (i : ℕ) (s : LeftState) → slice_get states i ≡ Some s → (class b : ℕ) → b < 256 → class_at t.classes b ≡ class → DoesOn g k.determined.shapes s.whole b (transition_of t i class)
  whole_does i s at class b lt of =
      let r = k.determined.rows.rows i s.whole (whole_at states k.determined.shapes i s k.left.wholes_are at) in
      let is : transition_of t i class ≡ transition_if (slice_get r.0.go (class_at t.classes b)) = ap (λ z. transition_on z class) r.1 ∙ ap (λ z. transition_if (slice_get r.0.go z)) (sym of) in
      subst (λ z. DoesOn g k.determined.shapes s.whole b z) (sym is) (r.2.does b lt)

  pub dies_best : (i : ℕ) (s : LeftState) → slice_get states i ≡ Some s → (class b : ℕ) → b < 256 → class_at t.classes b ≡ class → transition_of t i class ≡ None → IsNext g b s.whole None
  dies_best i s at class b lt of none = subst (λ z. DoesOn g k.determined.shapes s.whole b z) none (whole_does i s at class b lt of)

  module _ (i class : ℕ) (s : LeftState) (at : slice_get states i ≡ Some s) (r : Transition) (on : transition_of t i class ≡ Some r) where
    whole_goes : (b : ℕ) → b < 256 → class_at t.classes b ≡ class → (a : Grown Part ℕ) × IsNext g b s.whole (Some a) × IsChange r.update a × (slice_get k.determined.shapes r.target ≡ Some (shape_of a.tree))
    whole_goes b lt of = subst (λ z. DoesOn g k.determined.shapes s.whole b z) on (whole_does i s at class b lt of)

    module _ (b : ℕ) (lt : b < 256) (of : class_at t.classes b ≡ class) where
      abbrev goes : (a : Grown Part ℕ) × IsNext g b s.whole (Some a) × IsChange r.update a × (slice_get k.determined.shapes r.target ≡ Some (shape_of a.tree))
      goes = whole_goes b lt of

      pub target_in : r.target < length t.states
      target_in = omega (arith, slice_get_within k.determined.shapes r.target (shape_of goes.0.tree) goes.3, k.determined.rows.count)

      module _ (to : LeftState) (there : slice_get states r.target ≡ Some to) where
        whole_is : shape_of goes.0.tree ≡ to.whole
        whole_is = some_same (shape_of goes.0.tree) to.whole (sym goes.3 ∙ whole_at states k.determined.shapes r.target to k.left.wholes_are there)

        pub keeps : (a : Option (Grown Part ℕ)) → IsNext g b s.left a → (rest : Grown Part ℕ) × (restrict_if (has_place to.left) a ≡ Some rest) × (shape_of rest.tree ≡ to.left)
        keeps a next = goes_left g k.in_range k.trimmed s to (k.left.each i s at).4 (k.left.each r.target to there).4 (k.determined.each s.whole (among_get k.determined.shapes i s.whole (whole_at states k.determined.shapes i s k.left.wholes_are at))) b goes.0 goes.1 whole_is a next

        -- the transition with what is left of the update
        pub best_on : (u : Transition) → u.target ≡ r.target → IsUpdateTo g b s.left (places_of to.left) u.update → IsBestTransition g states s b u
        best_on u same h =
            let x = keeps (Some h.next) h.is_next in
            let one : x.0 ≡ h.rest = some_same x.0 h.rest (sym x.1 ∙ h.is_rest) in record {
              whole = goes.0;
              is_whole = goes.1;
              next = h.next;
              is_next = h.is_next;
              to = to;
              at = ap (slice_get states) same ∙ there;
              whole_is = whole_is;
              rest = h.rest;
              is_rest = h.is_rest;
              left_is = ap (λ z. shape_of z.tree) (sym one) ∙ x.2;
              change = h.change;
            }

  -- a byte of the class
  pub byte_of : (class : ℕ) → class < class_count t.classes → (b : ℕ) × (b < 256) × (class_at t.classes b ≡ class)
  byte_of class lt = class_met t.classes k.determined.classes.refined.numbered class lt

  pub keeps_some : (i class : ℕ) → i < length t.states → class < class_count t.classes → (r : Transition) → transition_of t i class ≡ Some r → (from to : Outline) → slice_get lefts i ≡ Some from → slice_get lefts r.target ≡ Some to → KeepsSome g from class to.leaves
  keeps_some i class lt below r on from to here there =
      let (s, at) = state_at i lt in
      let (b, small, of) = byte_of class below in
      let (x, at_x) = state_at r.target (omega (arith, slice_get_within lefts r.target to there, many_lefts)) in
      let f = left_at i s from at here in
      let l = left_at r.target x to at_x there in
      (s.left, b, f.1, (t.classes, k.determined.classes, small, of), (λ a next. let y = keeps i class s at r on b small of x at_x a next in (y.0, subst (λ z. restrict_if (has_number z) a ≡ Some y.0) (sym l.1.1) y.1)))

  -- the transition with what is left of the update
  pub does_some : (i class : ℕ) (s : LeftState) → slice_get states i ≡ Some s → (r : Transition) → transition_of t i class ≡ Some r → (from to : Outline) → slice_get lefts i ≡ Some from → slice_get lefts r.target ≡ Some to → (u : Transition) → u.target ≡ r.target → ((x : Shape ℕ) (b : ℕ) → IsOfShape from x → HasClass g class b → IsUpdateTo g b x to.leaves u.update) → (b : ℕ) → b < 256 → class_at t.classes b ≡ class → DoesBest g states s b (Some u)
  does_some i class s at r on from to here there u same h b lt of =
      let (x, at_x) = state_at r.target (omega (arith, slice_get_within lefts r.target to there, many_lefts)) in
      let f = left_at i s from at here in
      let l = left_at r.target x to at_x there in
      best_on i class s at r on b lt of x at_x u same (subst (λ z. IsUpdateTo g b s.left z u.update) l.1.1 (h s.left b f.1 (t.classes, k.determined.classes, lt, of)))

  pub target_within : (i class : ℕ) → i < length t.states → class < class_count t.classes → (r : Transition) → transition_of t i class ≡ Some r → r.target < length lefts
  target_within i class lt below r on =
      let (s, at) = state_at i lt in
      let (b, small, of) = byte_of class below in
      let d = subst (λ z. DoesOn g k.determined.shapes s.whole b z) on (whole_does i s at class b small of) in
      omega (arith, slice_get_within k.determined.shapes r.target (shape_of d.0.tree) d.3, k.determined.rows.count, many_lefts)

  -- ---- before the first byte

  -- the tree of the empty text, its state, and what is left of it
  pub record Begun (first left : Outline) : Type 0 where
    pub tree : Grown Part ℕ
    pub is_first : IsFirstTree g (Some tree)
    pub of_shape : IsOfShape first (shape_of tree.tree)
    pub change : IsChange t.initial tree
    pub state : LeftState
    pub at : slice_get k.left.states 0 ≡ Some state
    pub whole_is : shape_of tree.tree ≡ state.whole
    pub leaves_are : left.leaves ≡ places_of state.left
    pub is_left : IsLeftState g state

  pub some_states : 0 < length t.states
  some_states = let b = k.determined.rows.begins in omega (arith, slice_get_within k.determined.shapes 0 (shape_of b.0.tree) b.3, k.determined.rows.count)

  pub begins : (trees : List Outline) → AreStateTrees g k.determined.shapes trees → (first left : Outline) → slice_get trees 0 ≡ Some first → slice_get lefts 0 ≡ Some left → Begun first left
  begins trees are first left here there =
      let b = k.determined.rows.begins in
      let x = are.each 0 (shape_of b.0.tree) b.3 in
      let same : x.0 ≡ first = some_same x.0 first (sym x.1 ∙ here) in
      let s = state_at 0 some_states in
      let l = left_at 0 s.0 left s.1 there in record {
        tree = b.0;
        is_first = b.1;
        of_shape = subst (λ z. IsOfShape z (shape_of b.0.tree)) same x.3;
        change = b.2;
        state = s.0;
        at = s.1;
        whole_is = some_same (shape_of b.0.tree) s.0.whole (sym b.3 ∙ whole_at k.left.states k.determined.shapes 0 s.0 k.left.wholes_are s.1);
        leaves_are = l.1.1;
        is_left = l.2;
      }

  module _ (first left : Outline) (b : Begun first left) (keep : ℕ → Bool) (same : (p : ℕ) → keep p ≡ has_number left.leaves p) where
    alike : restrict_if keep (Some b.tree) ≡ restrict_if (has_place b.state.left) (Some b.tree)
    alike = same_left_if keep (has_place b.state.left) (λ p. same p ∙ ap (λ z. has_number z p) b.leaves_are) (Some b.tree)

    shape : shape_if (restrict_if (has_place b.state.left) (Some b.tree)) ≡ Some b.state.left
    shape = left_shape_if (has_place b.state.left) b.tree ∙ ap (restrict_shape (has_place b.state.left)) b.whole_is ∙ b.is_left.left_is

    pub some_start : (r : Option (Outline × Change)) → IsRestricted keep first t.initial r → r ≡ None → ⊥
    some_start None h e =
        let none : restrict_if keep (Some b.tree) ≡ None = h b.tree b.of_shape b.change in
        let bad : None ≡ Some b.state.left = ap shape_if (sym none ∙ alike) ∙ shape in
        cc
    some_start (Some n) h e = cc

    pub is_start : (r : Option (Outline × Change)) (n : Outline) (u : Change) → IsRestricted keep first t.initial r → r ≡ Some (n, u) → IsBestStart g t k.left.states u
    is_start r n u h is =
        let m = subst (λ z. MatchOption z (restrict_if keep (Some b.tree) ≡ None) (λ n. (x : Grown Part ℕ) × (restrict_if keep (Some b.tree) ≡ Some x) × IsOfShape n.0 (shape_of x.tree) × IsChange n.1 x)) is (h b.tree b.of_shape b.change) in
        let rest : restrict_if (has_place b.state.left) (Some b.tree) ≡ Some m.0 = sym alike ∙ m.1 in record {
          first = b.tree;
          is_first = b.is_first;
          state = b.state;
          at = b.at;
          whole_is = b.whole_is;
          rest = m.0;
          is_rest = rest;
          left_is = some_same (shape_of m.0.tree) b.state.left (ap shape_if (sym rest) ∙ shape);
          change = m.3;
        }
