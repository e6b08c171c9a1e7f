-- What is read of a script.
use Rattle.std.proofs.Common.{◌≡◌, ℕ, zero, suc, ◌+◌, ◌<◌, ◌≤◌, List, [], ◌∷◌, ⊎_elim, Option, Some, None, length, get_or, refl, sym, ap, ap₂, subst, ◌∙◌, arith}
use Rattle.std.specs.Prelude.{slice_get}
use Rattle.std.proofs.lemmas.Option.{get_or_from_slice_get, slice_get_past}
use Rattle.std.proofs.lemmas.List.{get_or_past}
use Rattle.std.proofs.lemmas.Bool.{cases_lt}
use Rattle.kex_sst.specs.declared.parts.Part.{Part}
use Rattle.kex_sst.specs.declared.table.Transition.{Transition}
use Rattle.kex_sst.specs.Parts.{Change}
use Rattle.kex_sst.specs.Tables.{Row, transition_if, transition_on}
use Rattle.kex_script.specs.declared.script.Entry.{Entry}
use Rattle.kex_script.specs.declared.entries.EntryPlace.{EntryPlace}
use Rattle.kex_script.specs.declared.entries.StateEntries.{StateEntries}
use Rattle.kex_script.specs.Scripts.{Sheet, list_at, lists_from, change_at, AreTails, HasUpdate, IsEntryOf, entry_at, entry_in, no_entry}
use Rattle.kex_script.specs.Pages.{Pages, IsListAt, AreListsAt, IsRow, HasRow, HasRowIf, IsClassAt, AreStatesWritten}

pub given_at : (s : Sheet) (k n i : ℕ) → i < n → get_or (lists_from s k n) i [] ≡ list_at s (get_or s.rows (k + i) 0)
given_at s k zero i lt = absurd (omega arith)
given_at s k (suc n) zero lt = ap (λ z. list_at s (get_or s.rows z 0)) (omega arith)
given_at s k (suc n) (suc i) lt = let e : suc k + i ≡ k + suc i = omega arith in given_at s (suc k) n i (omega arith) ∙ ap (λ z. list_at s (get_or s.rows z 0)) e

pub given_past : (s : Sheet) (k n i : ℕ) → n ≤ i → get_or (lists_from s k n) i [] ≡ []
given_past s k zero i le = get_or_past [] i [] (omega arith)
given_past s k (suc n) zero le = absurd (omega arith)
given_past s k (suc n) (suc i) le = given_past s (suc k) n i (omega arith)

pub empty_list : (s : Sheet) → AreTails s.words s.lists s.tails → list_at s 0 ≡ []
empty_list s h = get_or_from_slice_get s.lists 0 [] [] h.empty

if_at : (go : List (Option Transition)) (class : ℕ) → transition_if (slice_get go class) ≡ get_or go class None
if_at [] class = refl
if_at (x ∷ xs) zero = refl
if_at (x ∷ xs) (suc class) = if_at xs class

item_at : {A : Type 0} (xs : List A) (k : ℕ) → k < length xs → (x : A) × (slice_get xs k ≡ Some x)
item_at [] k lt = absurd (omega (arith, lt))
item_at (x ∷ xs) zero lt = (x, refl)
item_at (x ∷ xs) (suc k) lt = item_at xs k (omega (arith, lt))

module _ (s : Sheet) (p : Pages) (lists : s.lists ≡ p.lists) (rows : s.rows ≡ p.rows) where
  read_list : (k : ℕ) (parts : List Part) → IsListAt p k parts → list_at s (get_or s.rows k 0) ≡ parts
  read_list k parts h =
      ap₂ (λ u v. get_or u (get_or v k 0) []) lists rows
      ∙ ap (λ z. get_or p.lists z []) (get_or_from_slice_get p.rows k h.number 0 h.row)
      ∙ get_or_from_slice_get p.lists h.number parts [] h.list

  read_lists : (k : ℕ) (all : List (List Part)) → AreListsAt p k (length all) all → lists_from s k (length all) ≡ all
  read_lists k [] h = refl
  read_lists k (x ∷ xs) h =
      let here : k + 0 ≡ k = omega arith in
      ap₂ (λ u v. u ∷ v) (ap (λ z. list_at s (get_or s.rows z 0)) (sym here) ∙ read_list (k + 0) x (h 0 (omega arith)))
      (read_lists (suc k) xs (λ i lt. let e : k + suc i ≡ suc k + i = omega arith in subst (λ z. IsListAt p z (get_or xs i [])) e (h (suc i) (omega (arith, lt)))))

  read_row : (at : ℕ) (u : Change) → IsRow p at u → change_at s at ≡ u
  read_row at u h =
      let one : suc at ≡ at + 1 = omega arith in
      let two : suc (suc at) ≡ at + 2 = omega arith in
      let count : get_or s.rows at 0 ≡ length u.regs = ap (λ z. get_or z at 0) rows ∙ get_or_from_slice_get p.rows at (length u.regs) 0 h.count in
      let out : list_at s (get_or s.rows (suc at) 0) ≡ u.out = ap (λ z. list_at s (get_or s.rows z 0)) one ∙ read_list (at + 1) u.out h.out in
      let regs : lists_from s (suc (suc at)) (get_or s.rows at 0) ≡ u.regs = ap₂ (λ y z. lists_from s y z) two count ∙ read_lists (at + 2) u.regs h.regs in
      ap₂ (λ y z. record { out = y; regs = z }) out regs

  pub has_update : (e : Entry) (to : ℕ) (u : Change) → HasRow p e to u → HasUpdate s e to u
  has_update e to u h = record { goes = h.goes; target = h.target; update = read_row e.update u h.row; registers = h.registers; silent = h.silent; fresh = h.fresh }

  is_entry : (e : Entry) (r : Option Transition) → HasRowIf p e r → IsEntryOf s e r
  is_entry e None h = h
  is_entry e (Some r) h = has_update e r.target r.update h

  -- the entry of a class, by its number
  entry_told : (x : EntryPlace) (class : ℕ) (r : Option Transition) → IsClassAt p s.numbers s.entries x class r → IsEntryOf s (entry_in s (Some x) class) r
  entry_told x class r h =
      let e = h.entry in
      let number : get_or s.numbers (x.numbers + class) 0 ≡ h.number = get_or_from_slice_get s.numbers (x.numbers + class) h.number 0 h.told in
      let there : entry_in s (Some x) class ≡ e.entry =
      ap (λ z. get_or s.entries (x.first + z) no_entry) number ∙ get_or_from_slice_get s.entries (x.first + h.number) e.entry no_entry e.there in
      subst (λ z. IsEntryOf s z r) (sym there) (is_entry e.entry r e.has)

  -- what the states do that were written
  module _ (all : StateEntries) (states : List Row) (h : AreStatesWritten p all states) (places : s.places ≡ all.places.items) (numbers : s.numbers ≡ all.numbers.items) (entries : s.entries ≡ all.entries.items) (n : ℕ) (wide : (i : ℕ) (r : Row) → slice_get states i ≡ Some r → length r.go ≡ n) where
    some_state : (state class : ℕ) (r : Row) (x : EntryPlace) → slice_get states state ≡ Some r → slice_get all.places.items state ≡ Some x → class < n → IsEntryOf s (entry_in s (Some x) class) (transition_if (slice_get r.go class))
    some_state state class r x at there lt =
        let here = h.each state r x at there class (omega (arith, lt, wide state r at)) in
        subst (λ z. IsEntryOf s (entry_in s (Some x) class) z) (sym (if_at r.go class))
        (entry_told x class (get_or r.go class None) (subst (λ z. IsClassAt p z s.entries x class (get_or r.go class None)) (sym numbers) (subst (λ z. IsClassAt p all.numbers.items z x class (get_or r.go class None)) (sym entries) here)))

    pub state_does : (state class : ℕ) → class < n → IsEntryOf s (entry_at s state class) (transition_on (slice_get states state) class)
    state_does state class lt =
        ⊎_elim
        (λ less.
        let row = item_at states state less in
        let place = item_at all.places.items state (omega (arith, less, h.as_many)) in
        subst (λ z. IsEntryOf s (entry_at s state class) (transition_on z class)) (sym row.1)
        (subst (λ z. IsEntryOf s (entry_in s z class) (transition_if (slice_get row.0.go class))) (sym (ap (λ z. slice_get z state) places ∙ place.1))
        (some_state state class row.0 place.0 row.1 place.1 lt)))
        (λ le.
        let none : slice_get s.places state ≡ None = ap (λ z. slice_get z state) places ∙ slice_get_past all.places.items state (omega (arith, le, h.as_many)) in
        subst (λ z. IsEntryOf s (entry_at s state class) (transition_on z class)) (sym (slice_get_past states state le))
        (ap (λ o. (entry_in s o class).goes) none))
        (cases_lt state (length states))
