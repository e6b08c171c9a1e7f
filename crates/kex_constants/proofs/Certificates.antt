-- A certificate that is checked: constants are held after every text.
use Rattle.std.proofs.Common.{◌≡◌, ℕ, zero, suc, ◌<◌, ◌≤◌, ⊎_elim, List, [], ◌∷◌, Option, Some, None, length, get_or, subst, arith}
use Rattle.std.specs.Prelude.{slice_get}
use Rattle.std.proofs.lemmas.Bool.{cases_lt}
use Rattle.kex_machine.specs.declared.Bit.{Bit}
use Rattle.kex_sst.specs.declared.table.Transition.{Transition}
use Rattle.kex_sst.specs.Tables.{Row, Transducer, transition_on}
use Rattle.kex_sst.specs.Passes.{Pass, first_pass, transition_at, next_of, next_pass, passes_if}
use Rattle.kex_constants.specs.Known.{Constants, Hold}
use Rattle.kex_constants.specs.Clearing.{GivesConstants, GivesIf, HoldAfter, HoldAlways}

-- all transitions of a state, if it is there
abbrev pub StateGives : List Constants → Constants → Option Row → Type 0
StateGives css cs s = (k : ℕ) → GivesIf css cs (transition_on s k)

past : {A : Type 0} (xs : List A) (i : ℕ) → length xs ≤ i → None ≡ slice_get xs i
past [] i le = cc
past (y ∷ xs) zero le = absurd (omega arith)
past (y ∷ xs) (suc i) le = past xs i (omega arith)

-- what holds of each state of the list holds of each number
pub all_states : (css : List Constants) (ss : List Row) (n : ℕ) → length ss ≤ n → ((i : ℕ) → i < n → StateGives css (get_or css i []) (slice_get ss i)) → (i : ℕ) → StateGives css (get_or css i []) (slice_get ss i)
all_states css ss n le each i = ⊎_elim (λ lt. each i lt) (λ ge. subst (λ z. StateGives css (get_or css i []) z) (past ss i (omega arith)) (λ k. tt)) (cases_lt i n)

none_there : (i : ℕ) (c : List Bit) → get_or {A = Option (List Bit)} [] i None ≡ Some c → ⊥
none_there i c e = cc

module _ (t : Transducer) (css : List Constants) where
  hold_step : (p : Pass) (b : ℕ) (r : Option Transition) → GivesIf css (get_or css p.state []) r → Hold (get_or css p.state []) p.registers → HoldAfter css (next_pass r b p)
  hold_step p b None g h = tt
  hold_step p b (Some r) g h = g p.registers b h

  gives_at : ((i : ℕ) → StateGives css (get_or css i []) (slice_get t.states i)) → (i : ℕ) (k : Option ℕ) → GivesIf css (get_or css i []) (transition_at t i k)
  gives_at g i None = tt
  gives_at g i (Some k) = g i k

  hold_from : ((i : ℕ) → StateGives css (get_or css i []) (slice_get t.states i)) → (w : List ℕ) (p : Option Pass) → HoldAfter css p → HoldAfter css (passes_if t p w)
  hold_from g [] None h = tt
  hold_from g (b ∷ w) None h = tt
  hold_from g [] (Some p) h = h
  hold_from g (b ∷ w) (Some p) h = hold_from g w (next_pass (next_of t p.state b) b p) (hold_step p b (next_of t p.state b) (gives_at g p.state (slice_get t.classes b)) h)

  pub hold_always : GivesConstants [] t.initial (get_or css 0 []) → ((i : ℕ) → StateGives css (get_or css i []) (slice_get t.states i)) → HoldAlways t css
  hold_always first g w = hold_from g w (Some (first_pass t.initial)) (first [] 0 (λ i c e. absurd (none_there i c e)))
