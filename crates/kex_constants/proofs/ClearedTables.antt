-- The table without constants is a table: each old register is still there at most once, within the number of those that are left, and what is put are choices.
use Rattle.std.proofs.Common.{◌≡◌, ℕ, zero, suc, ◌<◌, List, [], ◌∷◌, ◌++◌, inl, inr, ⊎_elim, Option, Some, None, map, length, get_or, refl, sym, ap, ap₂, subst, ◌∙◌, append_assoc, arith}
use Rattle.std.specs.Prelude.{slice_get}
use Rattle.std.proofs.lemmas.Bool.{cases_lt}
use Rattle.std.proofs.lemmas.List.{length-map}
use Rattle.std.proofs.lemmas.Option.{same_Some}
use Rattle.kex_code.specs.Codes.{IsAmong, Different}
use Rattle.kex_machine.specs.declared.Bit.{Bit}
use Rattle.kex_machine.specs.declared.Bit.TheVariants.{L, R}
use Rattle.kex_machine.specs.Nodes.{side_of}
use Rattle.kex_model.specs.Moves.{symbol_of}
use Rattle.kex_sst.specs.declared.parts.Part.{Part}
use Rattle.kex_sst.specs.declared.parts.Part.TheVariants.{Put, Old, Input}
use Rattle.kex_sst.specs.declared.table.Transition.{Transition}
use Rattle.kex_sst.specs.Parts.{Change, olds, olds_in, reads_of, IsChoice, PutsChoice, IsKept, IsPut, EachPart, IsUpdate}
use Rattle.kex_sst.specs.Tables.{Row, Transducer, IsWayIf, LeadsTo, IsTableState, IsTable}
use Rattle.kex_constants.specs.Known.{Constants, kept_items, kept_number}
use Rattle.kex_constants.specs.Clearing.{puts_bits, constant_or_register, parts_for, cleared_parts, cleared_change, cleared_transition, cleared_way, cleared_state, cleared_states, cleared_table}
use Rattle.kex_model.proofs.Shapes.{among-append}
use Rattle.kex_constants.proofs.ClearedRuns.{cleared_state_if, state_at}

-- some of a list, in its order
data IsOf : List ℕ → List ℕ → Type 0 where
  done : IsOf [] []
  left_out : {xs ys : List ℕ} (y : ℕ) → IsOf xs ys → IsOf xs (y ∷ ys)
  taken : {xs ys : List ℕ} (y : ℕ) → IsOf xs ys → IsOf (y ∷ xs) (y ∷ ys)

of_self : (xs : List ℕ) → IsOf xs xs
of_self [] = done
of_self (x ∷ xs) = taken x (of_self xs)

of_both : {xs ys : List ℕ} (us vs : List ℕ) → IsOf xs ys → IsOf us vs → IsOf (xs ++ us) (ys ++ vs)
of_both us vs done o = o
of_both us vs (left_out y p) o = left_out y (of_both us vs p o)
of_both us vs (taken y p) o = taken y (of_both us vs p o)

of_none : (ys : List ℕ) → IsOf [] ys
of_none [] = done
of_none (y ∷ ys) = left_out y (of_none ys)

of_among : {xs ys : List ℕ} → IsOf xs ys → (z : ℕ) → IsAmong xs z → IsAmong ys z
of_among done z i = i
of_among (left_out y p) z i = inr (of_among p z i)
of_among (taken y p) z i = ⊎_elim (λ e. inl e) (λ j. inr (of_among p z j)) i

of_different : {xs ys : List ℕ} → IsOf xs ys → Different ys → Different xs
of_different done d = d
of_different (left_out y p) d = of_different p d.1
of_different (taken y p) d = ((λ i. d.0 (of_among p y i)), of_different p d.1)

kept_reads : (cs : Constants) (xs : List (List Part)) → IsOf (olds_in (kept_items cs xs)) (olds_in xs)
kept_reads [] xs = of_self (olds_in xs)
kept_reads (c ∷ cs) [] = done
kept_reads (Some v ∷ cs) (x ∷ xs) = of_both (olds_in (kept_items cs xs)) (olds_in xs) (of_none (olds x)) (kept_reads cs xs)
kept_reads (None ∷ cs) (x ∷ xs) = of_both (olds_in (kept_items cs xs)) (olds_in xs) (of_self (olds x)) (kept_reads cs xs)

-- the new number of a register that is kept, alone
abbrev renumbered : Constants → ℕ → Option (List Bit) → List ℕ
renumbered cs i None = kept_number cs i ∷ []
renumbered cs i (Some v) = []

abbrev all_renumbered : Constants → List ℕ → List ℕ
all_renumbered cs [] = []
all_renumbered cs (i ∷ is) = renumbered cs i (get_or cs i None) ++ all_renumbered cs is

olds-append : (xs ys : List Part) → olds (xs ++ ys) ≡ olds xs ++ olds ys
olds-append [] ys = refl
olds-append (Old i ∷ xs) ys = ap (λ z. i ∷ z) (olds-append xs ys)
olds-append (Put s ∷ xs) ys = olds-append xs ys
olds-append (Input ∷ xs) ys = olds-append xs ys

olds-puts : (c : List Bit) → olds (puts_bits c) ≡ []
olds-puts [] = refl
olds-puts (x ∷ c) = olds-puts c

module _ (cs : Constants) where
  all_renumbered-append : (xs ys : List ℕ) → all_renumbered cs (xs ++ ys) ≡ all_renumbered cs xs ++ all_renumbered cs ys
  all_renumbered-append [] ys = refl
  all_renumbered-append (x ∷ xs) ys = ap (λ z. renumbered cs x (get_or cs x None) ++ z) (all_renumbered-append xs ys) ∙ sym (append_assoc (renumbered cs x (get_or cs x None)) (all_renumbered cs xs) (all_renumbered cs ys))

  replaced_olds : (xs : List Part) → olds (cleared_parts cs xs) ≡ all_renumbered cs (olds xs)
  replaced_olds [] = refl
  replaced_olds (Put s ∷ xs) = replaced_olds xs
  replaced_olds (Input ∷ xs) = replaced_olds xs
  replaced_olds (Old i ∷ xs) = olds-append (constant_or_register cs i (get_or cs i None)) (cleared_parts cs xs) ∙ ap₂ (λ u v. u ++ v) (by (get_or cs i None)) (replaced_olds xs)
    where
      by : (c : Option (List Bit)) → olds (constant_or_register cs i c) ≡ renumbered cs i c
      by None = refl
      by (Some v) = olds-puts v

  replaced_reads : (xs : List (List Part)) → olds_in (map (λ x. cleared_parts cs x) xs) ≡ all_renumbered cs (olds_in xs)
  replaced_reads [] = refl
  replaced_reads (x ∷ xs) = ap₂ (λ u v. u ++ v) (replaced_olds x) (replaced_reads xs) ∙ sym (all_renumbered-append (olds x) (olds_in xs))

-- a register that is kept has a smaller number than those after it
number_rises : (cs : Constants) (i j : ℕ) → get_or cs i None ≡ None → i < j → kept_number cs i < kept_number cs j
number_rises [] i j e lt = lt
number_rises (c ∷ cs) i zero e lt = absurd (omega arith)
number_rises (Some v ∷ cs) zero (suc j) e lt = cc
number_rises (None ∷ cs) zero (suc j) e lt = omega arith
number_rises (Some v ∷ cs) (suc i) (suc j) e lt = number_rises cs i j e (omega arith)
number_rises (None ∷ cs) (suc i) (suc j) e lt = let h = number_rises cs i j e (omega arith) in omega (arith, h)

number_one : (cs : Constants) (i j : ℕ) → get_or cs i None ≡ None → get_or cs j None ≡ None → kept_number cs i ≡ kept_number cs j → i ≡ j
number_one cs i j e f same = ⊎_elim (λ lt. let up = number_rises cs i j e lt in absurd (omega (arith, up))) (λ le. ⊎_elim (λ lt. let up = number_rises cs j i f lt in absurd (omega (arith, up))) (λ ge. omega arith) (cases_lt j i)) (cases_lt i j)

renumbered_among : (cs : Constants) (is : List ℕ) (j : ℕ) → IsAmong (all_renumbered cs is) j → (i : ℕ) × IsAmong is i × (get_or cs i None ≡ None) × (kept_number cs i ≡ j)
renumbered_among cs [] j k = absurd k
renumbered_among cs (i ∷ is) j k = by (get_or cs i None) refl k (λ l. let r = renumbered_among cs is j l in (r.0, inr r.1, r.2, r.3))
  where
    Found : Type 0
    Found = (n : ℕ) × IsAmong (i ∷ is) n × (get_or cs n None ≡ None) × (kept_number cs n ≡ j)

    by : (c : Option (List Bit)) → get_or cs i None ≡ c → IsAmong (renumbered cs i c ++ all_renumbered cs is) j → (IsAmong (all_renumbered cs is) j → Found) → Found
    by None e k rest = ⊎_elim (λ f. (i, inl refl, e, f)) (λ l. rest l) k
    by (Some v) e k rest = rest k

different_kept : (cs : Constants) (is : List ℕ) → Different is → Different (all_renumbered cs is)
different_kept cs [] d = tt
different_kept cs (i ∷ is) d = by (get_or cs i None) refl (different_kept cs is d.1)
  where
    by : (c : Option (List Bit)) → get_or cs i None ≡ c → Different (all_renumbered cs is) → Different (renumbered cs i c ++ all_renumbered cs is)
    by None e rest = ((λ k. let r = renumbered_among cs is (kept_number cs i) k in d.0 (subst (λ z. IsAmong is z) (number_one cs r.0 i r.2 e r.3) r.1)), rest)
    by (Some v) e rest = rest

within_kept : (cs : Constants) (is : List ℕ) (n : ℕ) → ((i : ℕ) → IsAmong is i → i < n) → (j : ℕ) → IsAmong (all_renumbered cs is) j → j < kept_number cs n
within_kept cs is n below j k =
    let r = renumbered_among cs is j k in
    let lt = number_rises cs r.0 n r.2 (below r.0 r.1) in
    omega (arith, lt, r.3)

-- how many registers are left
kept_length : {A : Type 0} (cs : Constants) (xs : List A) → length (kept_items cs xs) ≡ kept_number cs (length xs)
kept_length [] xs = refl
kept_length (c ∷ cs) [] = refl
kept_length (Some v ∷ cs) (x ∷ xs) = kept_length cs xs
kept_length (None ∷ cs) (x ∷ xs) = ap suc (kept_length cs xs)

-- what is true of the sides of choices, and of one register if of another, is true of all parts still
module _ (P : Part → Type 0) (sides : (x : Bit) → P (Put (symbol_of (side_of x)))) (old : (i j : ℕ) → P (Old i) → P (Old j)) where
  puts_each : (c : List Bit) (x : Part) → IsAmong (puts_bits c) x → P x
  puts_each [] x i = absurd i
  puts_each (y ∷ c) x i = ⊎_elim (λ e. subst (λ z. P z) e (sides y)) (λ j. puts_each c x j) i

  one_each : (y x : Part) → P y → IsAmong (y ∷ []) x → P x
  one_each y x h i = ⊎_elim (λ e. subst (λ z. P z) e h) (λ j. absurd j) i

  instead_each : (cs : Constants) (y : Part) → P y → (x : Part) → IsAmong (parts_for cs y) x → P x
  instead_each cs (Put s) h x i = one_each (Put s) x h i
  instead_each cs Input h x i = one_each Input x h i
  instead_each cs (Old n) h x i = by (get_or cs n None) i
    where
      by : (c : Option (List Bit)) → IsAmong (constant_or_register cs n c) x → P x
      by None i = one_each (Old (kept_number cs n)) x (old n (kept_number cs n) h) i
      by (Some c) i = puts_each c x i

  replaced_each : (cs : Constants) (ys : List Part) → ((y : Part) → IsAmong ys y → P y) → (x : Part) → IsAmong (cleared_parts cs ys) x → P x
  replaced_each cs [] h x i = absurd i
  replaced_each cs (y ∷ ys) h x i = ⊎_elim (λ j. instead_each cs y (h y (inl refl)) x j) (λ j. replaced_each cs ys (λ z k. h z (inr k)) x j) (among-append (parts_for cs y) (cleared_parts cs ys) x i)

  lists_each : (cs ds : Constants) (lists : List (List Part)) → ((ys : List Part) → IsAmong lists ys → (y : Part) → IsAmong ys y → P y) → (xs : List Part) → IsAmong (map (λ ys. cleared_parts cs ys) (kept_items ds lists)) xs → (x : Part) → IsAmong xs x → P x
  lists_each cs [] [] h xs i = absurd i
  lists_each cs (d ∷ ds) [] h xs i = absurd i
  lists_each cs [] (ys ∷ lists) h xs i = ⊎_elim (λ e. subst (λ z. (x : Part) → IsAmong z x → P x) e (replaced_each cs ys (h ys (inl refl)))) (λ j. lists_each cs [] lists (λ zs k. h zs (inr k)) xs j) i
  lists_each cs (Some c ∷ ds) (ys ∷ lists) h xs i = lists_each cs ds lists (λ zs k. h zs (inr k)) xs i
  lists_each cs (None ∷ ds) (ys ∷ lists) h xs i = ⊎_elim (λ e. subst (λ z. (x : Part) → IsAmong z x → P x) e (replaced_each cs ys (h ys (inl refl)))) (λ j. lists_each cs ds lists (λ zs k. h zs (inr k)) xs j) i

  cleared_each : (cs ds : Constants) (u : Change) → EachPart P u → EachPart P (cleared_change cs u ds)
  cleared_each cs ds u h = record { out = replaced_each cs u.out h.out; regs = lists_each cs ds u.regs h.regs }

cleared_reads : (cs ds : Constants) (u : Change) → all_renumbered cs (olds u.out ++ olds_in (kept_items ds u.regs)) ≡ reads_of (cleared_change cs u ds)
cleared_reads cs ds u = all_renumbered-append cs (olds u.out) (olds_in (kept_items ds u.regs)) ∙ ap₂ (λ x y. x ++ y) (sym (replaced_olds cs u.out)) (sym (replaced_reads cs (kept_items ds u.regs)))

some_reads : (ds : Constants) (u : Change) → IsOf (olds u.out ++ olds_in (kept_items ds u.regs)) (reads_of u)
some_reads ds u = of_both (olds_in (kept_items ds u.regs)) (olds_in u.regs) (of_self (olds u.out)) (kept_reads ds u.regs)

side_choice : (x : Bit) → IsChoice (symbol_of (side_of x))
side_choice L = tt
side_choice R = tt

cleared_update : (cs ds : Constants) (u : Change) (n m : ℕ) → IsUpdate n m u → IsUpdate (kept_number cs n) (kept_number ds m) (cleared_change cs u ds)
cleared_update cs ds u n m h = record {
  count = length-map (kept_items ds u.regs) (λ x. cleared_parts cs x) ∙ kept_length ds u.regs ∙ ap (λ z. kept_number ds z) h.count;
  once = subst (λ z. Different z) (cleared_reads cs ds u) (different_kept cs (olds u.out ++ olds_in (kept_items ds u.regs)) (of_different (some_reads ds u) h.once));
  within = λ j k. within_kept cs (olds u.out ++ olds_in (kept_items ds u.regs)) n (λ i l. h.within i (of_among (some_reads ds u) i l)) j (subst (λ z. IsAmong z j) (sym (cleared_reads cs ds u)) k);
  choices = cleared_each PutsChoice side_choice (λ i j h. tt) cs ds u h.choices;
}

cleared_ends : (cs : Constants) (way : Option (List Part)) (n : ℕ) → IsWayIf n way → IsWayIf (kept_number cs n) (cleared_way cs way)
cleared_ends cs None n h = tt
cleared_ends cs (Some way) n h = record {
  once = subst (λ z. Different z) (sym (replaced_olds cs way)) (different_kept cs (olds way) h.once);
  within = λ j k. within_kept cs (olds way) n h.within j (subst (λ z. IsAmong z j) (replaced_olds cs way) k);
  kept = replaced_each IsKept side_choice (λ i j h. tt) cs way h.kept;
}

leads_cleared : (css : List Constants) (ss : List Row) (cs : Constants) (from target : ℕ) (u : Change) → LeadsTo ss from target u → LeadsTo (cleared_states css 0 ss) (kept_number cs from) target (cleared_change cs u (get_or css target []))
leads_cleared css ss cs from target u h = record {
  row = cleared_state css (get_or css target []) h.row;
  at = state_at css ss target ∙ ap (λ z. cleared_state_if css (get_or css target []) z) h.at;
  update = cleared_update cs (get_or css target []) u from h.row.registers h.update;
}

-- the transition that a cleared one is made of
of_transition : (css : List Constants) (cs : Constants) (go : List (Option Transition)) (k : ℕ) (r : Transition) → slice_get (map (λ r. cleared_transition css cs r) go) k ≡ Some (Some r) → (q : Transition) × (slice_get go k ≡ Some (Some q)) × (cleared_transition css cs (Some q) ≡ Some r)
of_transition css cs [] k r e = absurd cc
of_transition css cs (None ∷ go) zero r e = absurd cc
of_transition css cs (Some q ∷ go) zero r e = (q, refl, same_Some (cleared_transition css cs (Some q)) (Some r) e)
of_transition css cs (q ∷ go) (suc k) r e = of_transition css cs go k r e

cleared_state_is : (css : List Constants) (cs : Constants) (classes : List ℕ) (ss : List Row) (s : Row) → IsTableState classes ss s → IsTableState classes (cleared_states css 0 ss) (cleared_state css cs s)
cleared_state_is css cs classes ss s h = record {
  long = length-map s.go (λ r. cleared_transition css cs r) ∙ h.long;
  ends = cleared_ends cs s.accepting s.registers h.ends;
  goes = λ k r e.
      let q = of_transition css cs s.go k r e in
      let same = same_Some (record { target = q.0.target; update = cleared_change cs q.0.update (get_or css q.0.target []) }) r q.2 in
      subst (λ (z : Transition). LeadsTo (cleared_states css 0 ss) (kept_number cs s.registers) z.target z.update) same (leads_cleared css ss cs s.registers q.0.target q.0.update (h.goes k q.0 q.1));
}

states_count : (css : List Constants) (i : ℕ) (ss : List Row) → length (cleared_states css i ss) ≡ length ss
states_count css i [] = refl
states_count css i (s ∷ ss) = ap suc (states_count css (suc i) ss)

-- the table without constants is a table
pub cleared_is_table : (css : List Constants) (t : Transducer) → IsTable t → IsTable (cleared_table css t)
cleared_is_table css t h = record {
  numbered = h.numbered;
  begins = leads_cleared css t.states [] 0 0 t.initial h.begins;
  puts = cleared_each IsPut side_choice (λ i j h. h) [] (get_or css 0 []) t.initial h.puts;
  states = λ i s e. by i (slice_get t.states i) s refl (sym (state_at css t.states i) ∙ e);
  few = subst (λ z. z < 4294967296) (sym (states_count css 0 t.states)) h.few;
}
  where
    by : (i : ℕ) (o : Option Row) (s : Row) → slice_get t.states i ≡ o → cleared_state_if css (get_or css i []) o ≡ Some s → IsTableState t.classes (cleared_states css 0 t.states) s
    by i None s f e = absurd cc
    by i (Some r) s f e = subst (λ z. IsTableState t.classes (cleared_states css 0 t.states) z) (same_Some (cleared_state css (get_or css i []) r) s e) (cleared_state_is css (get_or css i []) t.classes t.states r (h.states i r f))
