use Rattle.std.proofs.Common.{ℕ, ◌<◌, None, get_or}
use Rattle.kex_constants.specs.Clearing.{GivesIf}
use Rattle.kex_constants.proofs.check.state_gives.Given as goal

abbrev pub invariant-loop-transition : goal.invariant-loop-transition
invariant-loop-transition l = (k : ℕ) → k < l.transition-index → GivesIf l.constants l.from (get_or l.different k None)
