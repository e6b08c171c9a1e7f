-- A text is passed on byte by byte.
use Rattle.std.proofs.Common.{◌≡◌, ℕ, List, [], ◌∷◌, ◌++◌, Option, Some, None, map, length, refl, sym, ap, ◌∙◌, subst}
use Rattle.std.specs.Prelude.{slice_get}
use Rattle.std.proofs.lemmas.List.{length-map}
use Rattle.std.proofs.lemmas.Option.{slice_get-get_or, slice_get_past}
use Rattle.kex_sst.specs.declared.table.Transition.{Transition}
use Rattle.kex_sst.specs.Parts.{Change, parts_code}
use Rattle.kex_sst.specs.Tables.{Row, Transducer, IsTable, LeadsTo, transition_of, transition_on, transition_if}
use Rattle.kex_sst.specs.Passes.{Pass, pass_after, first_pass, transition_at, next_of, next_pass, passes_if, passes}
use Rattle.kex_sst.specs.Laws.{step_if, IsPassOf, ByClass, PassesOn}

pub passes_none : (t : Transducer) (w : List ℕ) → passes_if t None w ≡ None
passes_none t [] = refl
passes_none t (b ∷ w) = refl

pub passes_more : (t : Transducer) (p : Option Pass) (w v : List ℕ) → passes_if t p (w ++ v) ≡ passes_if t (passes_if t p w) v
passes_more t None [] v = refl
passes_more t None (b ∷ w) v = sym (passes_none t v)
passes_more t (Some p) [] v = refl
passes_more t (Some p) (b ∷ w) v = passes_more t (next_pass (next_of t p.state b) b p) w v

pub passes_one : (t : Transducer) (p : Option Pass) (b : ℕ) → passes_if t p (b ∷ []) ≡ step_if t p b
passes_one t None b = refl
passes_one t (Some p) b = by (next_pass (next_of t p.state b) b p)
  where
    by : (q : Option Pass) → passes_if t q [] ≡ q
    by None = refl
    by (Some q) = refl

-- an update leaves as many registers as it has lists
changed_count : (states : List Row) (from b target : ℕ) (u : Change) (p : Pass) → LeadsTo states from target u → (row : Row) × (slice_get states target ≡ Some row) × (length (map (λ xs. parts_code p.registers b xs) u.regs) ≡ row.registers)
changed_count states from b target u p h = (h.row, h.at, length-map u.regs (λ xs. parts_code p.registers b xs) ∙ h.update.count)

module _ (t : Transducer) (table : IsTable t) where
  pass_begun : IsPassOf t (first_pass t.initial)
  pass_begun = let r = changed_count t.states 0 0 0 t.initial (record { state = 0; code = []; registers = [] }) table.begins in record { row = r.0; at = r.1; count = r.2 }

  at_class : (o : Option Row) (class : ℕ) (r : Transition) → transition_on o class ≡ Some r → (s : Row) × (o ≡ Some s) × (slice_get s.go class ≡ Some (Some r))
  at_class None class r e = let bad : ⊥ = cc in absurd bad
  at_class (Some s) class r e = (s, refl, by (slice_get s.go class) e)
    where
      by : (x : Option (Option Transition)) → transition_if x ≡ Some r → x ≡ Some (Some r)
      by None e = let bad : ⊥ = cc in absurd bad
      by (Some y) e = ap (λ z. Some z) e

  -- a transition of the table leads to one of its states, from as many registers as its own has
  pub leads_to : (state class : ℕ) (r : Transition) → transition_of t state class ≡ Some r → (s : Row) × (slice_get t.states state ≡ Some s) × LeadsTo t.states s.registers r.target r.update
  leads_to state class r e = let s = at_class (slice_get t.states state) class r e in (s.0, s.1, (table.states state s.0 s.1).goes class r s.2)

  pub leads_on : (state b : ℕ) (r : Transition) → next_of t state b ≡ Some r → (s : Row) × (slice_get t.states state ≡ Some s) × LeadsTo t.states s.registers r.target r.update
  leads_on state b r e = by (slice_get t.classes b) e
    where
      by : (c : Option ℕ) → transition_at t state c ≡ Some r → (s : Row) × (slice_get t.states state ≡ Some s) × LeadsTo t.states s.registers r.target r.update
      by None e = let bad : ⊥ = cc in absurd bad
      by (Some class) e = leads_to state class r e

  pass_if : (w : List ℕ) (p : Option Pass) (q : Pass) → ((x : Pass) → p ≡ Some x → IsPassOf t x) → passes_if t p w ≡ Some q → IsPassOf t q
  pass_if [] None q h e = let bad : ⊥ = cc in absurd bad
  pass_if (b ∷ w) None q h e = let bad : ⊥ = cc in absurd bad
  pass_if [] (Some p) q h e = h q e
  pass_if (b ∷ w) (Some p) q h e = pass_if w (next_pass (next_of t p.state b) b p) q (λ x f. by (next_of t p.state b) refl x f) e
    where
      by : (n : Option Transition) → next_of t p.state b ≡ n → (x : Pass) → next_pass n b p ≡ Some x → IsPassOf t x
      by None is x f = let bad : ⊥ = cc in absurd bad
      by (Some r) is x f =
          let s = leads_on p.state b r is in
          let c = changed_count t.states s.0.registers b r.target r.update p s.2 in
          let same : pass_after r.update b p r.target ≡ x = cc in
          subst (λ z. IsPassOf t z) same (record { row = c.0; at = c.1; count = c.2 })

  pub pass_of : (w : List ℕ) (p : Pass) → passes t w ≡ Some p → IsPassOf t p
  pass_of w p e = pass_if w (Some (first_pass t.initial)) p (λ x f. let same : first_pass t.initial ≡ x = cc in subst (λ z. IsPassOf t z) same pass_begun) e

  pub leads_from : (w : List ℕ) (p : Pass) (b : ℕ) (r : Transition) → passes t w ≡ Some p → next_of t p.state b ≡ Some r → LeadsTo t.states (length p.registers) r.target r.update
  leads_from w p b r e is =
      let q = pass_of w p e in
      let s = leads_on p.state b r is in
      let both : Some q.row ≡ Some s.0 = sym q.at ∙ s.1 in
      let same : q.row ≡ s.0 = cc in
      subst (λ n. LeadsTo t.states n r.target r.update) (sym (q.count ∙ ap (λ x. x.registers) same)) s.2

pub on : (t : Transducer) (w v : List ℕ) → PassesOn t w v
on t w v = record {
  more = passes_more t (Some (first_pass t.initial)) w v;
  byte = λ b. passes_more t (Some (first_pass t.initial)) w (b ∷ []) ∙ passes_one t (passes t w) b;
  leads = λ table p b r e is. leads_from t table w p b r e is;
  registers = λ table p e. pass_of t table w p e;
}

pub by_class : (t : Transducer) (state : ℕ) → ByClass t state
by_class t state = record {
  byte = λ b lt. ap (transition_at t state) (slice_get-get_or t.classes b 0 lt);
  no_byte = λ b le. ap (transition_at t state) (slice_get_past t.classes b le);
}
