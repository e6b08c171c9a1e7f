-- The rows of the shapes make a table: copyless, and with all numbers in range.
use Rattle.std.proofs.Common.{◌≡◌, ℕ, suc, ◌+◌, ◌<◌, ◌≤◌, Bool, List, [], ◌∷◌, ⊎_elim, Option, Some, None, length, refl, sym, ap, subst, ◌∙◌, arith}
use Rattle.std.specs.Prelude.{slice_get}
use Rattle.kex_byteset.specs.Classes.{class_at}
use Rattle.kex_code.specs.declared.symbol.Symbol.TheVariants.{L, R}
use Rattle.kex_code.specs.Codes.{IsAmong, Different}
use Rattle.kex_model.specs.Moves.{Move, accept, read, choose, forced, go, Side, to_left, to_right, symbol_of}
use Rattle.kex_model.specs.Labelled.{Labelled, tip, fork, labels_of, Shape, place, parts, shape_of, size_of, Grown, with_prefix, fork_of}
use Rattle.kex_model.proofs.Shapes.{among-append}
use Rattle.kex_model.proofs.Tables.{some_same}
use Rattle.kex_machine.specs.Nodes.{Graph, node_moves, HasClasses}
use Rattle.kex_machine.specs.Advancing.{Visits, known, stops, parts_off, is_forced, passes_on, Advances, dies, reads_on, both, first_accepting, at_end, left_or_right}
use Rattle.kex_sst.specs.declared.parts.Part.{Part}
use Rattle.kex_sst.specs.declared.parts.Part.TheVariants.{Put, Old, Input}
use Rattle.kex_sst.specs.declared.table.Transition.{Transition}
use Rattle.kex_sst.specs.Parts.{Change, numbered_tree, olds, reads_of, PutsChoice, IsPut, IsKept, EachPart}
use Rattle.kex_sst.specs.Tables.{Row, Transducer, transition_if, IsWayIf, LeadsTo, IsTableState, IsTable}
use Rattle.kex_paths.specs.Nexts.{IsChange, RiseWithin}
use Rattle.kex_paths.proofs.Copyless.{next_reads, first_reads}
use Rattle.kex_paths.proofs.Meanings.{labels_and_size}
use Rattle.kex_determine.specs.Rows.{way_to, DoesOn, IsRowOf, AreRows}
use Rattle.kex_determine.proofs.DifferentShapes.{size_above}
use Rattle.kex_determine.proofs.Transitions.{class_met}
use Rattle.kex_determine.proofs.ShapeKeys.{get_within}
use Rattle.kex_determine.proofs.StateRows.{some_at}

-- ---- numbers that rise

pub rise_within : (lo hi : ℕ) (xs : List ℕ) → RiseWithin lo hi xs → (i : ℕ) → IsAmong xs i → (lo ≤ i) × (i < hi)
rise_within lo hi [] h i j = absurd j
rise_within lo hi (x ∷ xs) h i j = ⊎_elim (λ e. (omega (arith, h.0, e), omega (arith, h.1, e))) (λ k. let r = rise_within (suc x) hi xs h.2 i k in (omega (arith, h.0, r.0), r.1)) j

pub rise_different : (lo hi : ℕ) (xs : List ℕ) → RiseWithin lo hi xs → Different xs
rise_different lo hi [] h = tt
rise_different lo hi (x ∷ xs) h = ((λ i. let r = rise_within (suc x) hi xs h.2 x i in omega (arith, r.0)), rise_different (suc x) hi xs h.2)

rise_wider : (lo hi more : ℕ) (xs : List ℕ) → hi ≤ more → RiseWithin lo hi xs → RiseWithin lo more xs
rise_wider lo hi more [] le h = tt
rise_wider lo hi more (x ∷ xs) le h = (h.0, omega (arith, h.1, le), rise_wider (suc x) hi more xs le h.2)

-- ---- what is in labels

abbrev pub EachIn : (Part → Type 0) → List Part → Type 0
EachIn P xs = (x : Part) → IsAmong xs x → P x

abbrev pub EachLabel : (Part → Type 0) → Labelled Part ℕ → Type 0
EachLabel P (tip p) = Unit {0}
EachLabel P (fork x l y r) = EachIn P x × EachLabel P l × EachIn P y × EachLabel P r

abbrev pub EachIf : (Part → Type 0) → Option (Grown Part ℕ) → Type 0
EachIf P None = Unit {0}
EachIf P (Some a) = EachIn P a.label × EachLabel P a.tree

module _ (P : Part → Type 0) where
  one_in : (x : Part) → P x → EachIn P (x ∷ [])
  one_in x h y i = ⊎_elim (λ e. subst P e h) (λ k. absurd k) i

  pub behind_each : (x : List Part) (a : Option (Grown Part ℕ)) → EachIn P x → EachIf P a → EachIf P (with_prefix x a)
  behind_each x None h k = tt
  behind_each x (Some a) h k = ((λ y i. ⊎_elim (λ j. h y j) (λ j. k.0 y j) (among-append x a.label y i)), k.1)

  pub joined_each : (a b : Option (Grown Part ℕ)) → EachIf P a → EachIf P b → EachIf P (fork_of a b)
  joined_each None None h k = tt
  joined_each (Some l) None h k = h
  joined_each None (Some r) h k = k
  joined_each (Some l) (Some r) h k = ((λ y i. absurd i), (h.0, h.1, k.0, k.1))

  in_labels : (t : Labelled Part ℕ) → EachLabel P t → (xs : List Part) → IsAmong (labels_of t) xs → EachIn P xs
  in_labels (tip p) h xs i = absurd i
  in_labels (fork x l y r) h xs i = ⊎_elim
      (λ e. subst (EachIn P) e h.0)
      (λ j. ⊎_elim (λ k. in_labels l h.1 xs k) (λ k. ⊎_elim (λ e. subst (EachIn P) e h.2) (λ m. in_labels r h.3 xs m) k) (among-append (labels_of l) (y ∷ labels_of r) xs j))
      i

  pub each_part : (u : Change) (a : Grown Part ℕ) → IsChange u a → EachIf P (Some a) → EachPart P u
  each_part u a change h = record {
    out = λ x i. h.0 x (subst (λ z. IsAmong z x) change.0 i);
    regs = λ xs i x j. in_labels a.tree h.1 xs (subst (λ z. IsAmong z xs) change.1 i) x j;
  }

  pub numbered_each : ((i : ℕ) → P (Old i)) → (k : ℕ) (s : Shape ℕ) → EachLabel P (numbered_tree k s)
  numbered_each old k (place p) = tt
  numbered_each old k (parts l r) = (one_in (Old k) (old k), numbered_each old (suc k) l, one_in (Old (k + size_of l)) (old (k + size_of l)), numbered_each old (suc (k + size_of l)) r)

  pub visits_each : ((x : Side) → P (Put (symbol_of x))) → {moves : ℕ → Move ℕ} {f g : List Bool} {n : ℕ} {a : Option (Grown Part ℕ)} → Visits (λ s. Put s) moves f n a g → EachIf P a
  visits_each side (known e) = tt
  visits_each side (stops lt e w) = ((λ y i. absurd i), tt)
  visits_each side (parts_off {a = a} {b = b} lt e m va vb) =
      joined_each (with_prefix (Put L ∷ []) a) (with_prefix (Put R ∷ []) b) (behind_each (Put L ∷ []) a (one_in (Put L) (side to_left)) (visits_each side va)) (behind_each (Put R ∷ []) b (one_in (Put R) (side to_right)) (visits_each side vb))
  visits_each side (is_forced {x = x} {a = a} lt e m v) = behind_each (Put (symbol_of x) ∷ []) a (one_in (Put (symbol_of x)) (side x)) (visits_each side v)
  visits_each side (passes_on lt e m v) = visits_each side v

  pub advances_each : ((x : Side) → P (Put (symbol_of x))) → P Input → {moves : ℕ → Move ℕ} {b : ℕ} {f g : List Bool} {t : Labelled Part ℕ} {a : Option (Grown Part ℕ)} → Advances (λ s. Put s) Input moves b f t a g → EachLabel P t → EachIf P a
  advances_each side input (dies h) k = tt
  advances_each side input (reads_on {a = a} h v) k = behind_each (Input ∷ []) a (one_in Input input) (visits_each side v)
  advances_each side input (both {u = u} {v = v} {x = x} {y = y} va vb) k =
      joined_each (with_prefix u x) (with_prefix v y) (behind_each u x k.0 (advances_each side input va k.1)) (behind_each v y k.2 (advances_each side input vb k.3))

pub choice_side : (x : Side) → PutsChoice (Put (symbol_of x))
choice_side to_left = tt
choice_side to_right = tt

pub put_side : (x : Side) → IsPut (Put (symbol_of x))
put_side to_left = tt
put_side to_right = tt

-- ---- the way to the end

end_label : (m : Move ℕ) (p : ℕ) (a : Grown Part ℕ) → at_end m p ≡ Some a → a.label ≡ []
end_label accept p a e = sym (ap (λ x. x.label) (some_same (record { label = []; tree = tip p }) a e))
end_label (read s t) p a e = let bad : ⊥ = cc in absurd bad
end_label (choose l r) p a e = let bad : ⊥ = cc in absurd bad
end_label (forced x t) p a e = let bad : ⊥ = cc in absurd bad
end_label (go f t) p a e = let bad : ⊥ = cc in absurd bad

-- the registers on it rise, and there is nothing else
abbrev IsRisingWay : ℕ → ℕ → List Part → Type 0
IsRisingWay k hi way = RiseWithin k hi (olds way) × EachIn IsKept way

kept_more : (i : ℕ) (way : List Part) → EachIn IsKept way → EachIn IsKept (Old i ∷ way)
kept_more i way h x j = ⊎_elim (λ e. subst IsKept e tt) (λ k. h x k) j

way_rises : (moves : ℕ → Move ℕ) (k hi : ℕ) (s : Shape ℕ) (a : Grown Part ℕ) → suc hi ≡ k + size_of s → first_accepting moves (numbered_tree k s) ≡ Some a → IsRisingWay k hi a.label
way_rises moves k hi (place p) a size e = subst (IsRisingWay k hi) (sym (end_label (moves p) p a e)) (tt, (λ x i. absurd i))
way_rises moves k hi (parts l r) a size e = by (first_accepting moves (numbered_tree (suc k) l)) (first_accepting moves (numbered_tree (suc (k + size_of l)) r)) e (λ x h. way_rises moves (suc k) (k + size_of l) l x (omega arith) h) (λ x h. way_rises moves (suc (k + size_of l)) (k + size_of l + size_of r) r x (omega arith) h)
  where
    by : (la ra : Option (Grown Part ℕ)) → left_or_right (with_prefix (Old k ∷ []) la) (with_prefix (Old (k + size_of l) ∷ []) ra) ≡ Some a
        → ((x : Grown Part ℕ) → la ≡ Some x → IsRisingWay (suc k) (k + size_of l) x.label) → ((x : Grown Part ℕ) → ra ≡ Some x → IsRisingWay (suc (k + size_of l)) (k + size_of l + size_of r) x.label) → IsRisingWay k hi a.label
    by None None e hl hr = let bad : ⊥ = cc in absurd bad
    by (Some x) ra e hl hr =
        let h = hl x refl in
        let label : Old k ∷ x.label ≡ a.label = ap (λ z. z.label) (some_same (record { label = Old k ∷ x.label; tree = x.tree }) a e) in
        subst (IsRisingWay k hi) label ((omega arith, omega (arith, size, size_above r, size_above l), rise_wider (suc k) (k + size_of l) hi (olds x.label) (omega (arith, size)) h.0), kept_more k x.label h.1)
    by None (Some x) e hl hr =
        let h = hr x refl in
        let label : Old (k + size_of l) ∷ x.label ≡ a.label = ap (λ z. z.label) (some_same (record { label = Old (k + size_of l) ∷ x.label; tree = x.tree }) a e) in
        subst (IsRisingWay k hi) label ((omega arith, omega (arith, size, size_above r), rise_wider (suc (k + size_of l)) (k + size_of l + size_of r) hi (olds x.label) (omega (arith, size)) h.0), kept_more (k + size_of l) x.label h.1)

pub way_if : (moves : ℕ → Move ℕ) (s : Shape ℕ) (count : ℕ) → suc count ≡ size_of s → IsWayIf count (way_to (first_accepting moves (numbered_tree 0 s)))
way_if moves s count size = by (first_accepting moves (numbered_tree 0 s)) refl
  where
    by : (a : Option (Grown Part ℕ)) → first_accepting moves (numbered_tree 0 s) ≡ a → IsWayIf count (way_to a)
    by None e = tt
    by (Some a) e =
        let h = way_rises moves 0 count s a (omega (arith, size)) e in
        record { once = rise_different 0 count (olds a.label) h.0; within = λ i j. (rise_within 0 count (olds a.label) h.0 i j).1; kept = h.1 }

-- ---- the table

module _ (g : Graph) (t : Transducer) (shapes : List (Shape ℕ)) (classed : HasClasses g.nodes t.classes) (table : AreRows g t shapes) where
  -- an update to the tree of a state
  leads : (from target : ℕ) (u : Change) (a : Grown Part ℕ) → IsChange u a → slice_get shapes target ≡ Some (shape_of a.tree) → RiseWithin 0 from (reads_of u) → EachPart PutsChoice u → LeadsTo t.states from target u
  leads from target u a change at rises choices =
      let r = table.rows target (shape_of a.tree) at in record {
        row = r.0;
        at = r.1;
        update = record {
          count = omega (arith, ap length change.1, labels_and_size a.tree, r.2.registers);
          once = rise_different 0 from (reads_of u) rises;
          within = λ i j. (rise_within 0 from (reads_of u) rises i j).1;
          choices = choices;
        };
      }

  begins : LeadsTo t.states 0 0 t.initial
  begins =
      let b = table.begins in
      let v = b.1.1 in
      leads 0 0 t.initial b.0 b.2 b.3 (subst (RiseWithin 0 0) (sym (first_reads g t.initial b.0 b.1 b.2)) tt) (each_part PutsChoice t.initial b.0 b.2 (visits_each PutsChoice choice_side v))

  puts : EachPart IsPut t.initial
  puts = let b = table.begins in each_part IsPut t.initial b.0 b.2 (visits_each IsPut put_side b.1.1)

  goes : (s : Shape ℕ) (row : Row) → IsRowOf g t.classes shapes s row → (class : ℕ) (r : Transition) → slice_get row.go class ≡ Some (Some r) → LeadsTo t.states row.registers r.target r.update
  goes s row h class r e =
      let b = class_met t.classes classed.refined.numbered class (omega (arith, get_within row.go class (Some r) e, h.long)) in
      let here : transition_if (slice_get row.go (class_at t.classes b.0)) ≡ Some r = ap (λ k. transition_if (slice_get row.go k)) b.2 ∙ ap transition_if e in
      let d = subst (λ z. DoesOn g shapes s b.0 z) here (h.does b.0 b.1) in
      leads row.registers r.target r.update d.0 d.2 d.3 (next_reads g b.0 s r.update d.0 d.1 d.2 row.registers h.registers) (each_part PutsChoice r.update d.0 d.2 (advances_each PutsChoice choice_side tt d.1.1 (numbered_each PutsChoice (λ i. tt) 0 s)))

  state : (i : ℕ) (row : Row) → slice_get t.states i ≡ Some row → IsTableState t.classes t.states row
  state i row at =
      let s = some_at shapes i (omega (arith, get_within t.states i row at, table.count)) in
      let r = table.rows i s.0 s.1 in
      let same = some_same r.0 row (sym r.1 ∙ at) in
      subst (λ z. IsTableState t.classes t.states z) same (record {
        long = r.2.long;
        ends = subst (IsWayIf r.0.registers) (sym r.2.ends) (way_if (node_moves g.nodes) s.0 r.0.registers r.2.registers);
        goes = goes s.0 r.0 r.2;
      })

  pub well_formed : length t.states < 4294967296 → IsTable t
  well_formed few = record { numbered = classed.refined.numbered; begins = begins; puts = puts; states = state; few = few }
