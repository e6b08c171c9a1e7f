use Rattle.std.proofs.Common.{◌≡◌, map, take}
use Rattle.kex_constants.specs.Clearing.{cleared_transition}
use Rattle.kex_constants.proofs.rewrite.clear_all.Given as goal

abbrev pub invariant-loop-transition : goal.invariant-loop-transition
invariant-loop-transition l = l.cleared.items ≡ map (λ r. cleared_transition l.constants l.from r) (take l.transition-index l.all)
