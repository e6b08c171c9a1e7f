-- The longest common prefix of some codes.
use Rattle.std.specs.Prelude.{◌≡◌, ℕ, ◌≤◌, length, List, All}
use Rattle.kex_code.specs.declared.symbol.Symbol.{Symbol}
use Rattle.kex_code.specs.Codes.{Begins}

-- all begin with the same n symbols
abbrev pub Agree : List (List Symbol) → ℕ → Type 0
Agree codes n = (front : List Symbol) × (length front ≡ n) × All (λ c. Begins c front) codes

-- n is the greatest length on which all agree
pub record IsCommonLength (codes : List (List Symbol)) (n : ℕ) : Type 0 where
  pub agree : Agree codes n
  pub greatest : (m : ℕ) → Agree codes m → m ≤ n
