use Rattle.std.proofs.Common.{◌≡◌, ◌++◌, take}
use Rattle.kex_constants.specs.Clearing.{puts_bits}
use Rattle.kex_constants.proofs.rewrite.put_choices.Given as goal

abbrev pub invariant-loop-side : goal.invariant-loop-side
invariant-loop-side l = l.into ≡ l.initial.into ++ puts_bits (take l.side-index l.choices)
