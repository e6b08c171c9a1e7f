use Rattle.std.proofs.Common.{◌≡◌, take}
use Rattle.kex_code.proofs.prefix.common.Given as goal

abbrev pub invariant-loop-i : goal.invariant-loop-i
invariant-loop-i l = take l.i l.a ≡ take l.i l.b
