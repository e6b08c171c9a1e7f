-- The rows of what is left make a table: copyless, and with all numbers in range.
use Rattle.std.proofs.Common.{◌≡◌, ℕ, suc, ◌<◌, ◌≤◌, Bool, true, false, List, [], ◌∷◌, ◌++◌, Option, Some, None, length, refl, sym, ap, subst, ◌∙◌, append_assoc, arith, if◌then◌else◌}
use Rattle.std.specs.Prelude.{slice_get}
use Rattle.std.proofs.lemmas.Option.{slice_get_within}
use Rattle.kex_byteset.specs.Classes.{class_at}
use Rattle.kex_model.specs.Labelled.{Labelled, tip, fork, labels_of, shape_of, size_of, Grown, with_prefix, fork_of}
use Rattle.kex_model.proofs.Tables.{some_same}
use Rattle.kex_machine.specs.Nodes.{Graph, node_moves, HasClasses}
use Rattle.kex_machine.specs.Covering.{restrict, restrict_if}
use Rattle.kex_sst.specs.declared.parts.Part.{Part}
use Rattle.kex_sst.specs.declared.table.Transition.{Transition}
use Rattle.kex_sst.specs.Parts.{Change, EachPart, IsPut, PutsChoice, olds, olds_in, reads_of}
use Rattle.kex_sst.specs.Tables.{Row, Transducer, transition_if, IsWayIf, LeadsTo, IsTableState, IsTable}
use Rattle.kex_paths.specs.Nexts.{IsChange, RiseWithin}
use Rattle.kex_paths.proofs.Copyless.{reads_in, olds-append, next_reads, first_reads}
use Rattle.kex_paths.proofs.Meanings.{labels_and_size}
use Rattle.kex_determine.proofs.TableForms.{EachIf, EachLabel, behind_each, joined_each, each_part, numbered_each, visits_each, advances_each, choice_side, put_side, rise_within, rise_different, way_if}
use Rattle.kex_determine.proofs.Transitions.{class_met}
use Rattle.kex_cover.specs.Optimal.{LeftState, DoesBest, IsBestRow, AreBestRows, has_place}
use Rattle.kex_cover.proofs.LeftLeaves.{some_at}

-- ---- what is left out of a list

-- some of the numbers of another list, in its order
data IsPartOf : List ℕ → List ℕ → Type 0 where
  no_more : {ys : List ℕ} → IsPartOf [] ys
  without : {x : ℕ} {xs ys : List ℕ} → IsPartOf xs ys → IsPartOf xs (x ∷ ys)
  with_it : {x : ℕ} {xs ys : List ℕ} → IsPartOf xs ys → IsPartOf (x ∷ xs) (x ∷ ys)

whole_part : (xs : List ℕ) → IsPartOf xs xs
whole_part [] = no_more
whole_part (x ∷ xs) = with_it (whole_part xs)

behind_part : (front xs ys : List ℕ) → IsPartOf xs ys → IsPartOf xs (front ++ ys)
behind_part [] xs ys h = h
behind_part (x ∷ front) xs ys h = without (behind_part front xs ys h)

joined_part : {xs ys : List ℕ} (us vs : List ℕ) → IsPartOf xs ys → IsPartOf us vs → IsPartOf (xs ++ us) (ys ++ vs)
joined_part {ys = ys} us vs no_more k = behind_part ys us vs k
joined_part us vs (without h) k = without (joined_part us vs h k)
joined_part us vs (with_it h) k = with_it (joined_part us vs h k)

rise_later : (lo more hi : ℕ) (xs : List ℕ) → lo ≤ more → RiseWithin more hi xs → RiseWithin lo hi xs
rise_later lo more hi [] le h = tt
rise_later lo more hi (x ∷ xs) le h = (omega (arith, le, h.0), h.1, h.2)

part_rises : (lo hi : ℕ) {xs ys : List ℕ} → IsPartOf xs ys → RiseWithin lo hi ys → RiseWithin lo hi xs
part_rises lo hi no_more h = tt
part_rises lo hi (without {x = x} {xs = xs} p) h = rise_later lo (suc x) hi xs (omega (arith, h.0)) (part_rises (suc x) hi p h.2)
part_rises lo hi (with_it {x = x} p) h = (h.0, h.1, part_rises (suc x) hi p h.2)

-- ---- what is left of a tree reads some of what the tree does

olds_in-append : (xs ys : List (List Part)) → olds_in (xs ++ ys) ≡ olds_in xs ++ olds_in ys
olds_in-append [] ys = refl
olds_in-append (x ∷ xs) ys = ap (λ z. olds x ++ z) (olds_in-append xs ys) ∙ sym (append_assoc (olds x) (olds_in xs) (olds_in ys))

-- what is read after a label
abbrev reads_behind : List Part → Option (Grown Part ℕ) → List ℕ
reads_behind x None = []
reads_behind x (Some a) = olds x ++ reads_in (Some a)

behind_reads : (x : List Part) (a : Option (Grown Part ℕ)) → reads_in (with_prefix x a) ≡ reads_behind x a
behind_reads x None = refl
behind_reads x (Some a) = ap (λ z. z ++ olds_in (labels_of a.tree)) (olds-append x a.label) ∙ append_assoc (olds x) (olds a.label) (olds_in (labels_of a.tree))

joined_reads : (a b : Option (Grown Part ℕ)) → reads_in (fork_of a b) ≡ reads_in a ++ reads_in b
joined_reads None None = refl
joined_reads (Some l) None = sym (empty (reads_in (Some l)))
  where
    empty : (xs : List ℕ) → xs ++ [] ≡ xs
    empty [] = refl
    empty (x ∷ xs) = ap (λ z. x ∷ z) (empty xs)
joined_reads None (Some r) = refl
joined_reads (Some l) (Some r) = ap (λ z. olds l.label ++ z) (olds_in-append (labels_of l.tree) (r.label ∷ labels_of r.tree)) ∙ sym (append_assoc (olds l.label) (olds_in (labels_of l.tree)) (olds r.label ++ olds_in (labels_of r.tree)))

module _ (keep : ℕ → Bool) where
  behind_left : (x : List Part) (a : Option (Grown Part ℕ)) (ys : List ℕ) → IsPartOf (reads_in a) ys → IsPartOf (reads_in (with_prefix x a)) (olds x ++ ys)
  behind_left x None ys h = no_more
  behind_left x (Some a) ys h = subst (λ z. IsPartOf z (olds x ++ ys)) (sym (behind_reads x (Some a))) (joined_part (reads_in (Some a)) ys (whole_part (olds x)) h)

  tip_part : (b : Bool) (p : ℕ) → IsPartOf (reads_in (if b then Some (record { label = []; tree = tip p }) else None)) []
  tip_part true p = no_more
  tip_part false p = no_more

  left_reads : (t : Labelled Part ℕ) → IsPartOf (reads_in (restrict keep t)) (olds_in (labels_of t))
  left_reads (tip p) = tip_part (keep p) p
  left_reads (fork x l y r) =
      let a = with_prefix x (restrict keep l) in
      let b = with_prefix y (restrict keep r) in
      let all : (olds x ++ olds_in (labels_of l)) ++ (olds y ++ olds_in (labels_of r)) ≡ olds_in (labels_of (fork x l y r)) = append_assoc (olds x) (olds_in (labels_of l)) (olds y ++ olds_in (labels_of r)) ∙ ap (λ z. olds x ++ z) (sym (olds_in-append (labels_of l) (y ∷ labels_of r))) in
      subst (λ z. IsPartOf z (olds_in (labels_of (fork x l y r)))) (sym (joined_reads a b))
      (subst (λ z. IsPartOf (reads_in a ++ reads_in b) z) all
      (joined_part (reads_in b) (olds y ++ olds_in (labels_of r)) (behind_left x (restrict keep l) (olds_in (labels_of l)) (left_reads l)) (behind_left y (restrict keep r) (olds_in (labels_of r)) (left_reads r))))

  left_reads_if : (a k : Grown Part ℕ) → restrict_if keep (Some a) ≡ Some k → IsPartOf (reads_in (Some k)) (reads_in (Some a))
  left_reads_if a k e = subst (λ z. IsPartOf (reads_in z) (reads_in (Some a))) e (behind_left a.label (restrict keep a.tree) (olds_in (labels_of a.tree)) (left_reads a.tree))

  module _ (P : Part → Type 0) where
    tip_each : (b : Bool) (p : ℕ) → EachIf P (if b then Some (record { label = []; tree = tip p }) else None)
    tip_each true p = ((λ y i. absurd i), tt)
    tip_each false p = tt

    left_each : (t : Labelled Part ℕ) → EachLabel P t → EachIf P (restrict keep t)
    left_each (tip p) h = tip_each (keep p) p
    left_each (fork x l y r) h = joined_each P (with_prefix x (restrict keep l)) (with_prefix y (restrict keep r)) (behind_each P x (restrict keep l) h.0 (left_each l h.1)) (behind_each P y (restrict keep r) h.2 (left_each r h.3))

    left_each_if : (a k : Grown Part ℕ) → restrict_if keep (Some a) ≡ Some k → EachIf P (Some a) → EachIf P (Some k)
    left_each_if a k e h = subst (EachIf P) e (behind_each P a.label (restrict keep a.tree) h.0 (left_each a.tree h.1))

-- what an update reads is what its tree does
update_reads : (u : Change) (a : Grown Part ℕ) → IsChange u a → reads_of u ≡ reads_in (Some a)
update_reads u a h = ap (λ z. olds z ++ olds_in u.regs) h.0 ∙ ap (λ z. olds a.label ++ olds_in z) h.1

-- the update that is the tree's own
own_change : (a : Grown Part ℕ) → IsChange (record { out = a.label; regs = labels_of a.tree }) a
own_change a = (refl, refl)

-- ---- the table

module _ (g : Graph) (t : Transducer) (states : List LeftState) (classed : HasClasses g.nodes t.classes) (table : AreBestRows g t states) where
  -- an update to the tree of a state
  leads : (from target : ℕ) (u : Change) (to : LeftState) (k : Grown Part ℕ) → slice_get states target ≡ Some to → shape_of k.tree ≡ to.left → IsChange u k → RiseWithin 0 from (reads_in (Some k)) → EachIf PutsChoice (Some k) → LeadsTo t.states from target u
  leads from target u to k at shape change rises choices =
      let r = table.rows target to at in
      let rise : RiseWithin 0 from (reads_of u) = subst (RiseWithin 0 from) (sym (update_reads u k change)) rises in record {
        row = r.0;
        at = r.1;
        update = record {
          count = omega (arith, ap length change.1, labels_and_size k.tree, ap size_of shape, r.2.registers);
          once = rise_different 0 from (reads_of u) rise;
          within = λ i j. (rise_within 0 from (reads_of u) rise i j).1;
          choices = each_part PutsChoice u k change choices;
        };
      }

  begins : LeadsTo t.states 0 0 t.initial
  begins =
      let b = table.begins in
      let keep = has_place b.state.left in
      let none : reads_in (Some b.first) ≡ [] = sym (update_reads _ b.first (own_change b.first)) ∙ first_reads g _ b.first b.is_first (own_change b.first) in
      leads 0 0 t.initial b.state b.rest b.at b.left_is b.change (part_rises 0 0 (left_reads_if keep b.first b.rest b.is_rest) (subst (RiseWithin 0 0) (sym none) tt)) (left_each_if keep PutsChoice b.first b.rest b.is_rest (visits_each PutsChoice choice_side b.is_first.1))

  puts : EachPart IsPut t.initial
  puts = let b = table.begins in each_part IsPut t.initial b.rest b.change (left_each_if (has_place b.state.left) IsPut b.first b.rest b.is_rest (visits_each IsPut put_side b.is_first.1))

  goes : (s : LeftState) (row : Row) → IsBestRow g t.classes states s row → (class : ℕ) (r : Transition) → slice_get row.go class ≡ Some (Some r) → LeadsTo t.states row.registers r.target r.update
  goes s row h class r e =
      let b = class_met t.classes classed.refined.numbered class (omega (arith, slice_get_within row.go class (Some r) e, h.long)) in
      let here : transition_if (slice_get row.go (class_at t.classes b.0)) ≡ Some r = ap (λ k. transition_if (slice_get row.go k)) b.2 ∙ ap transition_if e in
      let d = subst (λ z. DoesBest g states s b.0 z) here (h.does b.0 b.1) in
      let keep = has_place d.to.left in
      let all : RiseWithin 0 row.registers (reads_in (Some d.next)) = subst (RiseWithin 0 row.registers) (update_reads _ d.next (own_change d.next)) (next_reads g b.0 s.left _ d.next d.is_next (own_change d.next) row.registers h.registers) in
      leads row.registers r.target r.update d.to d.rest d.at d.left_is d.change (part_rises 0 row.registers (left_reads_if keep d.next d.rest d.is_rest) all) (left_each_if keep PutsChoice d.next d.rest d.is_rest (advances_each PutsChoice choice_side tt d.is_next.1 (numbered_each PutsChoice (λ i. tt) 0 s.left)))

  state : (i : ℕ) (row : Row) → slice_get t.states i ≡ Some row → IsTableState t.classes t.states row
  state i row at =
      let s = some_at states i (omega (arith, slice_get_within t.states i row at, table.count)) in
      let r = table.rows i s.0 s.1 in
      let same = some_same r.0 row (sym r.1 ∙ at) in
      subst (λ z. IsTableState t.classes t.states z) same (record {
        long = r.2.long;
        ends = subst (IsWayIf r.0.registers) (sym r.2.ends) (way_if (node_moves g.nodes) s.0.left r.0.registers r.2.registers);
        goes = goes s.0 r.0 r.2;
      })

  pub best_formed : length t.states < 4294967296 → IsTable t
  best_formed few = record { numbered = classed.refined.numbered; begins = begins; puts = puts; states = state; few = few }
