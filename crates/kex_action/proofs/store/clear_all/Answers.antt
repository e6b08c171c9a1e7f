use Rattle.std.proofs.Common.{◌≡◌, ℕ, zero, suc, ◌<◌, List, [], ◌∷◌, length, replicate, get_or, ap₂, arith}
use Rattle.kex_action.proofs.store.clear_all.Goals as goal

-- a list of which each item is empty
all_empty : (xs : List (List ℕ)) (n : ℕ) → length xs ≡ n → ((k : ℕ) → k < length xs → get_or xs k [] ≡ []) → xs ≡ replicate n []
all_empty xs zero e h = none xs e
  where
    none : (xs : List (List ℕ)) → length xs ≡ 0 → xs ≡ []
    none [] e = cc
    none (x ∷ xs) e = let bad : ⊥ = omega (arith, e) in absurd bad
all_empty [] (suc n) e h = let bad : ⊥ = omega (arith, e) in absurd bad
all_empty (x ∷ xs) (suc n) e h = ap₂ (λ y ys. y ∷ ys) (h 0 (omega arith)) (all_empty xs n (omega (arith, e)) (λ k lt. h (suc k) (omega (arith, lt))))

pub returns : goal.returns
returns c = all_empty c.loop-i.all (length c.args.all.now) c.loop-i.invariant.0 (λ k lt. c.loop-i.invariant.1 k (omega (arith, lt, c.loop-i-test.false)))
