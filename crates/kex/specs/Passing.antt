-- Failures after which the same call may pass.

use Rattle.std.specs.Prelude.{◌≡◌, ◌⊎◌}
use Rattle.std.specs.declared.io.ErrorKind.{ErrorKind}
use Rattle.std.specs.declared.io.ErrorKind.TheVariants.{Interrupted, WouldBlock}

--- a signal came in between, or there was nothing to read or no room yet
abbrev pub IsPassing : ErrorKind → Type 0
IsPassing kind = (kind ≡ Interrupted) ⊎ (kind ≡ WouldBlock)
