use Rattle.std.proofs.Common.{◌≡◌, take}
use Rattle.kex_constants.proofs.split.copy_lists.Given as goal

abbrev pub invariant-loop-parts : goal.invariant-loop-parts
invariant-loop-parts l = l.copies.items ≡ take l.parts-index l.lists
