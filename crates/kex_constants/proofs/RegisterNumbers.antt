-- The new numbers of registers, counted.
use Rattle.std.proofs.Common.{◌≡◌, ℕ, zero, suc, ◌+◌, ◌-◌, ◌<◌, ◌≤◌, ⊎_elim, List, [], ◌∷◌, ◌++◌, Option, Some, None, length, get_or, refl, sym, ap, ◌∙◌, arith}
use Rattle.std.proofs.lemmas.Bool.{cases_lt}
use Rattle.std.proofs.lemmas.List.{get_or_append_left, get_or_push, get_or_read}
use Rattle.kex_machine.specs.declared.Bit.{Bit}
use Rattle.kex_constants.specs.Known.{Constants, kept_number, AreNumbers, one_if_kept}

pub number_zero : (cs : Constants) → 0 ≡ kept_number cs 0
number_zero [] = refl
number_zero (c ∷ cs) = refl

pub number_most : (cs : Constants) (i : ℕ) → kept_number cs i ≤ i
number_most [] i = omega arith
number_most (c ∷ cs) zero = omega arith
number_most (Some c ∷ cs) (suc i) = let h = number_most cs i in omega (arith, h)
number_most (None ∷ cs) (suc i) = let h = number_most cs i in omega (arith, h)

pub number_past : (cs : Constants) (i j : ℕ) → i ≡ length cs + j → kept_number cs i ≡ kept_number cs (length cs) + j
number_past [] i j e = e
number_past (c ∷ cs) zero j e = absurd (omega arith)
number_past (Some c ∷ cs) (suc i) j e = number_past cs i j (omega arith)
number_past (None ∷ cs) (suc i) j e = let h = number_past cs i j (omega arith) in omega (arith, h)

pub number_next : (cs : Constants) (i : ℕ) → i < length cs → kept_number cs (suc i) ≡ kept_number cs i + one_if_kept (get_or cs i None)
number_next [] i lt = absurd (omega arith)
number_next (Some c ∷ cs) zero lt = sym (number_zero cs)
number_next (None ∷ cs) zero lt = let h = number_zero cs in omega (arith, h)
number_next (Some c ∷ cs) (suc i) lt = number_next cs i (omega arith)
number_next (None ∷ cs) (suc i) lt = let h = number_next cs i (omega arith) in omega (arith, h)

pub one_most : (c : Option (List Bit)) → one_if_kept c ≤ 1
one_most None = omega arith
one_most (Some c) = omega arith

pub numbers_more : (cs : Constants) (ns : List ℕ) (n k : ℕ) → length ns ≡ k → n ≡ kept_number cs k → ((i : ℕ) → i < k → get_or ns i 0 ≡ kept_number cs i) → (i : ℕ) → i < k + 1 → get_or (ns ++ n ∷ []) i 0 ≡ kept_number cs i
numbers_more cs ns n k long next each i lt =
    ⊎_elim
    (λ less. get_or_append_left ns (n ∷ []) 0 i (omega arith) ∙ each i less)
    (λ more. let e : k ≡ i = omega arith in get_or_push ns n 0 i (omega arith) ∙ next ∙ ap (λ z. kept_number cs z) e)
    (cases_lt i k)

module _ (cs : Constants) (ns : List ℕ) (are : AreNumbers cs ns) where
  -- a number that is read
  pub number_read : (i x : ℕ) → i ≤ length cs → x ≡ get_or ns i x → x ≡ kept_number cs i
  number_read i x le is =
      let count = are.count in
      let lt : i < length ns = omega (arith, count) in
      get_or_read ns i x lt is 0 ∙ are.each i lt

  -- a number past the last
  pub number_beyond : (i past x : ℕ) → past ≡ length cs → past ≤ i → x ≡ get_or ns past x → x + (i - past) ≡ kept_number cs i
  number_beyond i past x at le is =
      let read = number_read past x (omega arith) is in
      let same = ap (λ z. kept_number cs z) at in
      let up = number_past cs i (i - length cs) (omega arith) in
      omega (arith, read, same, up)
