use Rattle.std.proofs.Common.{◌≡◌, map, take}
use Rattle.kex_constants.specs.Known.{kept_items}
use Rattle.kex_constants.specs.Clearing.{cleared_parts}
use Rattle.kex_constants.proofs.rewrite.clear.Given as goal

abbrev pub invariant-loop-register : goal.invariant-loop-register
invariant-loop-register l = l.regs.items ≡ map (λ x. cleared_parts l.from x) (kept_items l.to (take l.register l.update.regs))
