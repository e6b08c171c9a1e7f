-- Desks of a stage are desks of its worker.
use Rattle.std.proofs.Common.{◌≡◌, zero, suc, List, [], ◌∷◌, map, sym, subst, arith}
use Rattle.std.specs.Prelude.{All}

module _ {A B : Type 0} (f : A → B) (P : B → Type 0) where
  pub all-wrapped : (xs : List A) (ys : List B) → map f xs ≡ ys → All P ys → All (λ x. P (f x)) xs
  all-wrapped [] ys e h k d lt = absurd (omega arith)
  all-wrapped (x ∷ xs) [] e h k d lt = cc
  all-wrapped (x ∷ xs) (y ∷ ys) e h zero d lt =
      let same : f x ≡ y = cc in
      subst P (sym same) (h zero y (omega arith))
  all-wrapped (x ∷ xs) (y ∷ ys) e h (suc k) d lt =
      let rest : map f xs ≡ ys = cc in
      all-wrapped xs ys rest (λ n c less. h (suc n) c (omega arith)) k d (omega arith)

  pub all-bare : (xs : List A) (ys : List B) → ys ≡ map f xs → All (λ x. P (f x)) xs → All P ys
  all-bare [] [] e h k d lt = absurd (omega arith)
  all-bare [] (y ∷ ys) e h k d lt = cc
  all-bare (x ∷ xs) [] e h k d lt = cc
  all-bare (x ∷ xs) (y ∷ ys) e h zero d lt =
      let same : y ≡ f x = cc in
      subst P (sym same) (h zero x (omega arith))
  all-bare (x ∷ xs) (y ∷ ys) e h (suc k) d lt =
      let rest : ys ≡ map f xs = cc in
      all-bare xs ys rest (λ n c less. h (suc n) c (omega arith)) k d (omega arith)
