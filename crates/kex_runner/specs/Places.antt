-- Where a runner is.
use Rattle.std.specs.Prelude.{◌≡◌, ℕ, false, []}
use Rattle.kex_runner.specs.Running.{Running}

-- at a state without registers, after `read` bytes of which none was refused, with nothing to be
-- passed on
pub record StandsAt (r : Running) (state read : ℕ) : Type 0 where
  pub state_is : r.state ≡ state
  pub read_is : r.read ≡ read
  pub registers : r.registers ≡ []
  pub pending : r.pending ≡ []
  pub dead : r.dead ≡ false
