-- States without registers that a run leads to.
use Rattle.std.proofs.Common.{◌≡◌, ℕ, List, [], ◌∷◌, ◌++◌, Option, Some, None, refl, sym, subst, ◌∙◌}
use Rattle.std.proofs.lemmas.List.{length-map}
use Rattle.kex_sst.specs.declared.table.Transition.{Transition}
use Rattle.kex_sst.specs.Parts.{parts_code}
use Rattle.kex_sst.specs.Tables.{Transducer, IsTable}
use Rattle.kex_sst.specs.Passes.{Pass, pass_after, next_of, next_pass, passes_if}
use Rattle.kex_sst.specs.Laws.{IsPassOf}
use Rattle.kex_sst.proofs.Passes.{leads_on, passes_none}
use Rattle.kex_action.specs.Actors.{Position}
use Rattle.kex_moves.specs.Along.{bare, GoesAlong, IsBareState}

-- a table comes to states of its own, with as many registers as they have
passed_on : (t : Transducer) → IsTable t → (bs : List ℕ) (p q : Pass) → IsPassOf t p → passes_if t (Some p) bs ≡ Some q → IsPassOf t q
passed_on t table [] p q h e = let same : p ≡ q = cc in subst (λ z. IsPassOf t z) same h
passed_on t table (b ∷ bs) p q h e = by (λ x. passed_on t table bs x q) (next_of t p.state b) refl e
  where
    by : ((x : Pass) → IsPassOf t x → passes_if t (Some x) bs ≡ Some q → IsPassOf t q) → (n : Option Transition) → next_of t p.state b ≡ n → passes_if t (next_pass n b p) bs ≡ Some q → IsPassOf t q
    by rest None is f = let bad : None ≡ Some q = sym (passes_none t bs) ∙ f in cc
    by rest (Some r) is f =
        let s = leads_on t table p.state b r is in
        rest (pass_after r.update b p r.target) (record { row = s.2.row; at = s.2.at; count = length-map r.update.regs (λ xs. parts_code p.registers b xs) ∙ s.2.update.count }) f

-- where the table goes along without registers it comes to a state that has none
pub comes_bare : (t : Transducer) → IsTable t → (old new : Position) (q r : ℕ) (bs before after : List ℕ) → GoesAlong t old new q r bs before after → IsBareState t q → IsBareState t r
comes_bare t table old new q r bs before after goes h =
    let p = passed_on t table bs (bare q []) (bare r ([] ++ goes.said)) h (goes.passed []) in
    record { row = p.row; at = p.at; count = p.count }
