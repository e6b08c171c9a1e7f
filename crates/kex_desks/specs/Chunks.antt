-- A worker with desks.
use Rattle.std.specs.Prelude.{ℕ}

-- the worker as it has come along, and how many parts it has taken over from its desks
pub record Chunking (W : Type 0) : Type 0 where
  pub worker : W
  pub taken : ℕ
