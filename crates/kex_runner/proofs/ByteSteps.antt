-- A table that goes on byte by byte.
use Rattle.std.proofs.Common.{◌≡◌, ℕ, zero, suc, ◌+◌, ◌<◌, ◌≤◌, List, [], ◌∷◌, ◌++◌, Some, None, length, get_or, map, take, drop, refl, sym, ap, ap₂, ◌∙◌, append_assoc, append-nil, arith}
use Rattle.std.specs.Prelude.{slice_get}
use Rattle.std.proofs.lemmas.List.{drop_more, length-map, length-take-le, take-take, take_more}
use Rattle.kex_byteset.specs.Classes.{class_at}
use Rattle.kex_code.specs.declared.symbol.Symbol.{Symbol}
use Rattle.kex_sst.specs.declared.parts.Part.{Part}
use Rattle.kex_sst.specs.declared.table.Transition.{Transition}
use Rattle.kex_sst.specs.Parts.{parts_code, item_count}
use Rattle.kex_sst.specs.Tables.{Row, Transducer, IsTable, transition_of}
use Rattle.kex_sst.specs.Passes.{Pass, next_of, next_pass, first_pass, passes_if, whole_code, ended_by, way_of}
use Rattle.kex_sst.proofs.Passes.{passes_more, leads_to, by_class}
use Rattle.kex_runner.specs.Items.{items_from, items_along}
use Rattle.kex_runner.specs.Following.{Follows, IsTablePlace, pass_at}

-- from one place the table has gone on along the first bytes to another
pub record Goes (t : Transducer) (state : ℕ) (registers : List (List Symbol)) (piece : List ℕ) (i state' : ℕ) (registers' : List (List Symbol)) (before after : List Symbol) : Type 0 where
  pub more : List Symbol
  pub code : after ≡ before ++ more
  pub goes : (c : List Symbol) → passes_if t (Some (pass_at state c registers)) (take i piece) ≡ Some (pass_at state' (c ++ more) registers')

pub goes_none : (t : Transducer) (state : ℕ) (registers : List (List Symbol)) (piece : List ℕ) (code : List Symbol) → Goes t state registers piece 0 state registers code code
goes_none t state registers piece code = record { more = []; code = sym (append-nil code); goes = λ c. ap (λ z. Some (pass_at state z registers)) (sym (append-nil c)) }

module _ (t : Transducer) (state : ℕ) (registers : List (List Symbol)) (piece : List ℕ) (i : ℕ) (state' : ℕ) (registers' : List (List Symbol)) (before after : List Symbol) (b : ℕ) (lt : i < length piece) (is : b ≡ get_or piece i 0) where
  -- along one byte more
  one_more : (h : Goes t state registers piece i state' registers' before after) (c : List Symbol) → passes_if t (Some (pass_at state c registers)) (take (i + 1) piece) ≡ passes_if t (next_pass (next_of t state' b) b (pass_at state' (c ++ h.more) registers')) []
  one_more h c =
      ap (λ z. passes_if t (Some (pass_at state c registers)) z) (take_more piece i 0 lt ∙ ap (λ z. take i piece ++ z ∷ []) (sym is))
      ∙ passes_more t (Some (pass_at state c registers)) (take i piece) (b ∷ [])
      ∙ ap (λ z. passes_if t z (b ∷ [])) (h.goes c)

  pub goes_next : (r : Transition) (registers'' : List (List Symbol)) (after' : List Symbol) → next_of t state' b ≡ Some r → registers'' ≡ map (λ x. parts_code registers' b x) r.update.regs → after' ≡ after ++ parts_code registers' b r.update.out → Goes t state registers piece i state' registers' before after → Goes t state registers piece (i + 1) r.target registers'' before after'
  goes_next r registers'' after' n e f h = record {
    more = h.more ++ parts_code registers' b r.update.out;
    code = f ∙ ap (λ z. z ++ parts_code registers' b r.update.out) h.code ∙ append_assoc before h.more (parts_code registers' b r.update.out);
    goes = λ c.
        one_more h c
        ∙ ap (λ z. passes_if t (next_pass z b (pass_at state' (c ++ h.more) registers')) []) n
        ∙ ap₂ (λ u v. Some (pass_at r.target u v)) (append_assoc c h.more (parts_code registers' b r.update.out)) (sym e);
  }

  pub goes_nowhere : next_of t state' b ≡ None → Goes t state registers piece i state' registers' before after → (c : List Symbol) → passes_if t (Some (pass_at state c registers)) (take (i + 1) piece) ≡ None
  goes_nowhere n h c = one_more h c ∙ ap (λ z. passes_if t (next_pass z b (pass_at state' (c ++ h.more) registers')) []) n

pub next_by_class : (t : Transducer) (state b class : ℕ) → IsTable t → b < 256 → class ≡ class_at t.classes b → next_of t state b ≡ transition_of t state class
next_by_class t state b class table lt e = (by_class t state).byte b (omega (arith, table.numbered.long, lt)) ∙ ap (λ z. transition_of t state z) (sym e)

pub items_more : (t : Transducer) (r : Transition) (w : List ℕ) → items_from t (Some r) w ≡ item_count r.update + items_along t r.target w
items_more t r [] = omega arith
items_more t r (b ∷ w) = refl

pub items_next : (t : Transducer) (state : ℕ) (piece : List ℕ) (i b : ℕ) (r : Transition) → i < length piece → b ≡ get_or piece i 0 → next_of t state b ≡ Some r → items_along t state (drop i piece) ≡ item_count r.update + items_along t r.target (drop (i + 1) piece)
items_next t state piece i b r lt is n = ap (λ z. items_along t state z) (drop_more piece i 0 lt) ∙ ap (λ z. items_from t z (drop (i + 1) piece)) (ap (λ z. next_of t state z) (sym is) ∙ n) ∙ items_more t r (drop (i + 1) piece)

pub items_stop : (t : Transducer) (state : ℕ) (piece : List ℕ) (i b : ℕ) → i < length piece → b ≡ get_or piece i 0 → next_of t state b ≡ None → items_along t state (drop i piece) ≡ 0
items_stop t state piece i b lt is n = ap (λ z. items_along t state z) (drop_more piece i 0 lt) ∙ ap (λ z. items_from t z (drop (i + 1) piece)) (ap (λ z. next_of t state z) (sym is) ∙ n)

-- a place's state is one of the table's
pub place_in_range : {t : Transducer} {state : ℕ} {registers : List (List Symbol)} → IsTablePlace t state registers → state < length t.states
place_in_range {t} {state} h = below t.states state h.at
  where
    below : {A : Type 0} {x : A} (xs : List A) (i : ℕ) → slice_get xs i ≡ Some x → i < length xs
    below [] i e = let bad : ⊥ = cc in absurd bad
    below (x ∷ xs) zero e = omega arith
    below (x ∷ xs) (suc i) e = let h = below xs i e in omega (arith, h)

pub place_next : (t : Transducer) (state class : ℕ) (registers : List (List Symbol)) (r : Transition) (registers' : List (List Symbol)) (b : ℕ) → IsTable t → transition_of t state class ≡ Some r → registers' ≡ map (λ x. parts_code registers b x) r.update.regs → IsTablePlace t r.target registers'
place_next t state class registers r registers' b table e f =
    let s = leads_to t table state class r e in
    record { row = s.2.row; at = s.2.at; count = ap length f ∙ length-map r.update.regs (λ x. parts_code registers b x) ∙ s.2.update.count }

pub ending_none : (t : Transducer) (state : ℕ) (s : Row) → slice_get t.states state ≡ Some s → s.accepting ≡ None → (p : Pass) → p.state ≡ state → whole_code t p ≡ None
ending_none t state s at none p e = ap (λ z. ended_by (way_of (slice_get t.states z)) p) e ∙ ap (λ z. ended_by (way_of z) p) at ∙ ap (λ z. ended_by z p) none

pub ending_some : (t : Transducer) (state : ℕ) (s : Row) (way : List Part) → slice_get t.states state ≡ Some s → s.accepting ≡ Some way → (p : Pass) → p.state ≡ state → whole_code t p ≡ Some (p.code ++ parts_code p.registers 0 way)
ending_some t state s way at some p e = ap (λ z. ended_by (way_of (slice_get t.states z)) p) e ∙ ap (λ z. ended_by (way_of z) p) at ∙ ap (λ z. ended_by z p) some

-- the place before the first byte
pub place_begun : (t : Transducer) → IsTable t → IsTablePlace t 0 (first_pass t.initial).registers
place_begun t table = let h = table.begins in record { row = h.row; at = h.at; count = length-map t.initial.regs (λ x. parts_code [] 0 x) ∙ h.update.count }

-- what was gone along is a front of a piece, and then comes nothing or a byte where the table stops
pub follows_front : (t : Transducer) (state : ℕ) (registers : List (List Symbol)) (piece : List ℕ) (good taken state' : ℕ) (registers' : List (List Symbol)) (before after : List Symbol) → taken ≤ length piece → good ≤ taken → (good < taken → (taken ≡ good + 1) × ((c : List Symbol) → passes_if t (Some (pass_at state c registers)) (take (good + 1) piece) ≡ None)) → Goes t state registers piece good state' registers' before after → Follows t state registers (take taken piece) good state' registers' before after
follows_front t state registers piece good taken state' registers' before after le ge stop h = record {
  within = omega (arith, length-take-le taken piece le);
  more = h.more;
  code = h.code;
  goes = λ c. ap (λ z. passes_if t (Some (pass_at state c registers)) z) (take-take good taken piece ge) ∙ h.goes c;
  stops = λ c lt.
      let s = stop (omega (arith, length-take-le taken piece le, lt)) in
      let here : good + 1 ≤ taken = omega (arith, s.0) in
      ap (λ z. passes_if t (Some (pass_at state c registers)) z) (take-take (good + 1) taken piece here) ∙ s.1 c;
}

-- along no bytes a table stays where it is
pub follows_none : (t : Transducer) (state : ℕ) (registers : List (List Symbol)) (piece : List ℕ) (n state' : ℕ) (registers' : List (List Symbol)) → n ≡ 0 → Follows t state registers (take n piece) n state' registers' [] [] → (state' ≡ state) × (registers' ≡ registers)
follows_none t state registers piece n state' registers' none f =
    let here : Some (pass_at state [] registers) ≡ Some (pass_at state' ([] ++ f.more) registers') = sym (ap (λ z. passes_if t (Some (pass_at state [] registers)) (take z (take n piece))) none) ∙ f.goes [] in
    let same : pass_at state [] registers ≡ pass_at state' ([] ++ f.more) registers' = some_same here in
    (ap (λ (p : Pass). p.state) (sym same), ap (λ (p : Pass). p.registers) (sym same))
  where
    some_same : {x y : Pass} → Some x ≡ Some y → x ≡ y
    some_same e = cc
