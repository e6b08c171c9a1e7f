-- A read of a front of the bytes that are left.
use Rattle.std.proofs.Common.{◌≡◌, ◌<◌, ◌+◌, ◌++◌, ℕ, List, [], length, take, drop, sym, ap, ◌∙◌, arith}
use Rattle.std.proofs.lemmas.Grind.{common_steps}
use Rattle.std.proofs.lemmas.List.{take-append-drop, drop-drop}

pub consumed : (bytes buf left : List ℕ) (at n : ℕ) → left ≡ drop at bytes → take n buf ≡ take n (drop at bytes) → left ≡ take n buf ++ drop (at + n) bytes
consumed bytes buf left at n here same = here ∙ sym (take-append-drop n (drop at bytes)) ∙ ap (λ (s : List ℕ). s ++ drop n (drop at bytes)) (sym same) ∙ ap (λ (s : List ℕ). take n buf ++ s) (drop-drop n at bytes)

pub at-end : (bytes buf : List ℕ) (at n most : ℕ) → (0 < most → 0 < length (drop at bytes) → 0 < length buf → 0 < n) → 0 < most → n ≡ 0 → 0 < length buf → drop (at + n) bytes ≡ []
at-end bytes buf at n most some gives none room = grind (arith, common_steps)
