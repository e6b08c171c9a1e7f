-- A list of copies of a table's states is a table's too.
use Rattle.std.proofs.Common.{◌≡◌, ℕ, zero, suc, ◌<◌, List, [], ◌∷◌, Option, Some, None, length, get_or, refl, sym, ap, subst, ◌∙◌, arith}
use Rattle.std.specs.Prelude.{slice_get}
use Rattle.kex_sst.specs.declared.table.Transition.{Transition}
use Rattle.kex_byteset.specs.Classes.{IsNumbered, class_count}
use Rattle.kex_sst.specs.Parts.{Change, EachPart, IsPut, IsUpdate}
use Rattle.kex_sst.specs.Tables.{Row, Transducer, IsTable, IsTableState, IsWayIf, LeadsTo}
use Rattle.kex_constants.specs.Copies.{GoesAlike, HasCopy, IsCopy, IsCopyOf, HasCopiedStates}
use Rattle.kex_constants.proofs.CopiedLists.{some_same, there}

within : {A : Type 0} (xs : List A) (i : ℕ) (x : A) → slice_get xs i ≡ Some x → i < length xs
within [] i x e = let no : None ≡ Some x = e in cc
within (y ∷ xs) zero x e = omega arith
within (y ∷ xs) (suc i) x e = let h = within xs i x e in omega (arith, h)

get_there : (go : List (Option Transition)) (k : ℕ) (r : Option Transition) → slice_get go k ≡ Some r → get_or go k None ≡ r
get_there go k r e = some_same (get_or go k None) r (sym (there go k None (within go k r e)) ∙ e)

module _ (t u : Transducer) (s : HasCopiedStates t u) (is : IsTable t) where
  leads : (from target copy : ℕ) (c d : Change) → d ≡ c → IsCopyOf s.of copy target → LeadsTo t.states from target c → LeadsTo u.states from copy d
  leads from target copy c d same (lt, e) h =
      let k = s.copies.each copy lt in
      let row : h.row ≡ k.row = some_same h.row k.row (sym h.at ∙ subst (λ z. slice_get t.states z ≡ Some k.row) e k.at) in
      record {
        row = k.copy;
        at = k.copied;
        update = subst (λ z. IsUpdate from k.copy.registers z) (sym same) (subst (λ z. IsUpdate from z c) (ap (λ r. r.registers) row ∙ sym k.is.registers) h.update);
      }

  module _ (i : ℕ) (copy : Row) (at : slice_get u.states i ≡ Some copy) where
    within_of : i < length s.of
    within_of = let lt = within u.states i copy at in omega (arith, lt, s.copies.count)

    here : HasCopy s.of t.states u.states i
    here = s.copies.each i within_of

    is_copy : IsCopy s.of here.row copy
    is_copy = subst (λ z. IsCopy s.of here.row z) (some_same here.copy copy (sym here.copied ∙ at)) here.is

    old : IsTableState t.classes t.states here.row
    old = is.states (get_or s.of i 0) here.row here.at

    goes : (class : ℕ) (r : Transition) → slice_get copy.go class ≡ Some (Some r) → LeadsTo u.states copy.registers r.target r.update
    goes class r e = by (get_or here.row.go class None) refl
      where
        less : class < length here.row.go
        less = let lt = within copy.go class (Some r) e in omega (arith, lt, is_copy.goes.long)

        alike : GoesAlike s.of (get_or here.row.go class None) (Some r)
        alike = subst (λ z. GoesAlike s.of (get_or here.row.go class None) z) (get_there copy.go class (Some r) e) (is_copy.goes.each class less)

        by : (q : Option Transition) → get_or here.row.go class None ≡ q → LeadsTo u.states copy.registers r.target r.update
        by None f = absurd (subst (λ z. GoesAlike s.of z (Some r)) f alike)
        by (Some q) f =
            let g : GoesAlike s.of (Some q) (Some r) = subst (λ z. GoesAlike s.of z (Some r)) f alike in
            let h = old.goes class q (there here.row.go class None less ∙ ap Some f) in
            subst (λ z. LeadsTo u.states z r.target r.update) (sym is_copy.registers) (leads here.row.registers q.target r.target q.update r.update g.0 g.1 h)

    state : IsTableState u.classes u.states copy
    state = record {
      long = is_copy.goes.long ∙ old.long ∙ ap (λ z. class_count z) (sym s.classes);
      ends = subst (λ z. IsWayIf z copy.accepting) (sym is_copy.registers) (subst (λ z. IsWayIf here.row.registers z) (sym is_copy.accepting) old.ends);
      goes = goes;
    }

  pub split_is_table : length u.states < 4294967296 → IsTable u
  split_is_table few = record {
    numbered = subst (λ z. IsNumbered z) (sym s.classes) is.numbered;
    begins = leads 0 0 0 t.initial u.initial s.initial s.first is.begins;
    puts = subst (λ z. EachPart IsPut z) (sym s.initial) is.puts;
    states = state;
    few = few;
  }
