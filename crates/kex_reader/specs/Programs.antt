-- Which words are a program, which begin one, and where the first wrong one is.
use Rattle.std.specs.Prelude.{◌≡◌, ℕ, ◌+◌, ◌<◌, ◌≤◌, List, ◌++◌, length, take}
use Rattle.kex_reader.specs.Syntax.{Word, Program, program}

abbrev pub IsProgram : List Word → Type 0
IsProgram ws = (p : Program) × (program p ≡ ws)

-- some words after these make a program of them
abbrev pub BeginsProgram : List Word → Type 0
BeginsProgram ws = (more : List Word) × IsProgram (ws ++ more)

-- the words before number k begin a program, and those up to and with it begin none, or there are
-- no more and they are none
pub record IsFirstWrong (ws : List Word) (k : ℕ) : Type 0 where
  pub inside : k ≤ length ws
  pub before : BeginsProgram (take k ws)
  pub word : k < length ws → BeginsProgram (take (k + 1) ws) → ⊥
  pub end : k ≡ length ws → IsProgram ws → ⊥
