-- How much of some bytes is given at once.
use Rattle.std.specs.Prelude.{◌≡◌, ◌<◌, ◌≤◌, ℕ, List, length}
use Rattle.kex_pipeline.specs.declared.rounds.Pace.{Pace}
use Rattle.kex_pipeline.specs.declared.rounds.Pace.TheVariants.{Blocks}

-- the first `count` bytes are a front, which has some if there are any: all, where they go by
-- blocks
pub record IsFront (pace : Pace) (bytes : List ℕ) (count : ℕ) : Type 0 where
  pub within : count ≤ length bytes
  pub some : 0 < length bytes → 0 < count
  pub whole : pace ≡ Blocks → count ≡ length bytes
