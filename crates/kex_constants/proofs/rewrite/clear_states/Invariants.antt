use Rattle.std.proofs.Common.{◌≡◌, take}
use Rattle.kex_constants.specs.Clearing.{cleared_states}
use Rattle.kex_constants.proofs.rewrite.clear_states.Given as goal

abbrev pub invariant-loop-number : goal.invariant-loop-number
invariant-loop-number l = l.cleared.items ≡ cleared_states l.constants 0 (take l.number l.states)
