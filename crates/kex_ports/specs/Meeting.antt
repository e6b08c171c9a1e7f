-- The two stages that a gate watches.
use Rattle.std.specs.Prelude.{ℕ}

pub record Pair : Type 0 where
  pub one : ℕ
  pub other : ℕ
