-- Marks as stamps.
use Rattle.std.proofs.Common.{◌≡◌, ◌==◌, ℕ, zero, suc, ◌+◌, ◌≤◌, true, false, List, [], ◌∷◌, All, map, length, replicate, refl, ap, ap₂, arith}
use Rattle.std.proofs.lemmas.List.Elements.{All-head, All-tail}

later_off : (s n : ℕ) → s ≤ n → (s == n + 1) ≡ false
later_off s n h = grind arith

-- of a later stamp there are no marks
pub none_later : (xs : List ℕ) (n : ℕ) → All (λ s. s ≤ n) xs → map (λ s. s == n + 1) xs ≡ replicate (length (map (λ s. s == n) xs)) false
none_later [] n h = refl
none_later (x ∷ xs) n h = ap₂ (λ u v. u ∷ v) (later_off x n (All-head (λ s. s ≤ n) x xs h)) (none_later xs n (All-tail (λ s. s ≤ n) x xs h))

pub none_first : (k : ℕ) → map (λ s. s == 1) (replicate k 0) ≡ replicate k false
none_first zero = refl
none_first (suc k) = ap (λ z. false ∷ z) (none_first k)

pub same_on : (n : ℕ) → (n == n) ≡ true
same_on n = grind arith
