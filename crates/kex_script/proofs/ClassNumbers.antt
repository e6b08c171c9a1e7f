-- Numbers of classes that are put after others, with zeros after them.
use Rattle.std.proofs.Common.{◌≡◌, ℕ, ◌+◌, ◌-◌, ◌<◌, ◌++◌, List, ⊎_elim, Some, length, length-append, get_or, replicate, append_assoc, sym, ap, ◌∙◌, arith}
use Rattle.std.specs.Prelude.{slice_get}
use Rattle.std.proofs.lemmas.Bool.{cases_lt}
use Rattle.std.proofs.lemmas.List.{get_or_append_left, get_or-append-add, get_or_past, get_or-replicate, length-replicate}
use Rattle.std.proofs.lemmas.Option.{slice_get-get_or}
use Rattle.kex_script.specs.Pages.{KeepsItems}
use Rattle.kex_script.proofs.Pages.{keeps_more}

module _ (old row new : List ℕ) (classes m : ℕ) (fits : length row + m ≡ classes) (is : new ≡ (old ++ row) ++ replicate m 0) where
  behind : new ≡ old ++ (row ++ replicate m 0)
  behind = is ∙ append_assoc old row (replicate m 0)

  long : length new ≡ length old + classes
  long = omega (arith, ap length behind, length-append old (row ++ replicate m 0), length-append row (replicate m 0), length-replicate {A = ℕ} m 0, fits)

  row_or_zero : (class : ℕ) → class < classes → get_or (row ++ replicate m 0) class 0 ≡ get_or row class 0
  row_or_zero class lt =
      ⊎_elim
      (λ less. get_or_append_left row (replicate m 0) 0 class less)
      (λ le.
      let i = class - length row in
      let at : class ≡ length row + i = omega (arith, le) in
      ap (λ z. get_or (row ++ replicate m 0) z 0) at
      ∙ get_or-append-add row (replicate m 0) i 0
      ∙ get_or-replicate {A = ℕ} m i 0 0 (omega (arith, le, lt, fits))
      ∙ sym (get_or_past row class 0 le))
      (cases_lt class (length row))

  pub numbers_told : (class : ℕ) → class < classes → slice_get new (length old + class) ≡ Some (get_or row class 0)
  numbers_told class lt =
      slice_get-get_or new (length old + class) 0 (omega (arith, lt, long))
      ∙ ap (λ z. Some z)
      (ap (λ z. get_or z (length old + class) 0) behind ∙ get_or-append-add old (row ++ replicate m 0) class 0 ∙ row_or_zero class lt)

  pub numbers_kept : KeepsItems old new
  numbers_kept k x at = ap (λ z. slice_get z k) behind ∙ keeps_more old (row ++ replicate m 0) k x at
