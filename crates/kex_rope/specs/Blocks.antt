-- Blocks of symbols, one after another.
use Rattle.std.specs.Prelude.{◌≡◌, ◌<◌, ◌≤◌, ◌⊎◌, ℕ, List, [], ◌∷◌, ◌++◌, length}
use Rattle.std.specs.Global.{Vec}
use Rattle.kex_code.specs.declared.symbol.Symbol.{Symbol}

abbrev pub symbols_in : List (Vec Symbol) → List Symbol
symbols_in [] = []
symbols_in (b ∷ bs) = b.items ++ symbols_in bs

-- each block has a symbol
abbrev pub AreFilled : List (Vec Symbol) → Type 0
AreFilled [] = Unit {0}
AreFilled (b ∷ bs) = (0 < length b.items) × AreFilled bs

-- blocks with `count` symbols in all, each with one or more; a lone block may be empty
pub record AreBlocks (blocks : List (Vec Symbol)) (count : ℕ) : Type 0 where
  pub counted : count ≡ length (symbols_in blocks)
  pub filled : (length blocks ≤ 1) ⊎ AreFilled blocks
