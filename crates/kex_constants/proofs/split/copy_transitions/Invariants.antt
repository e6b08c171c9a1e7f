use Rattle.kex_constants.specs.Copies.{originals}
use Rattle.kex_constants.proofs.CopiedLists.{FirstAlike}
use Rattle.kex_constants.proofs.split.copy_transitions.Given as goal

abbrev pub invariant-loop-i : goal.invariant-loop-i
invariant-loop-i l = FirstAlike (originals l.copies) l.transitions l.made.items l.i
