use Rattle.std.proofs.Common.{ℕ, ◌<◌, [], get_or}
use Rattle.std.specs.Prelude.{slice_get}
use Rattle.kex_constants.proofs.Certificates.{StateGives}
use Rattle.kex_constants.proofs.check.are_constant.Given as goal

abbrev pub invariant-loop-number : goal.invariant-loop-number
invariant-loop-number l = (i : ℕ) → i < l.number → StateGives l.constants (get_or l.constants i []) (slice_get l.states i)
