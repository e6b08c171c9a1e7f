use Rattle.std.proofs.Common.{◌≡◌, take}
use Rattle.kex_constants.proofs.shared.are_same.Given as goal

abbrev pub invariant-loop-register : goal.invariant-loop-register
invariant-loop-register l = take l.register l.left ≡ take l.register l.right
