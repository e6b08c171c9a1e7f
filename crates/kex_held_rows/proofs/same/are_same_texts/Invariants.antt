use Rattle.std.proofs.Common.{◌≡◌, take}
use Rattle.kex_held_rows.proofs.same.are_same_texts.Given as goal

abbrev pub invariant-loop-i : goal.invariant-loop-i
invariant-loop-i l = take l.i l.left ≡ take l.i l.right
