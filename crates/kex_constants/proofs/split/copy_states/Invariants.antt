use Rattle.kex_constants.specs.Copies.{originals}
use Rattle.kex_constants.proofs.CopiedLists.{FirstCopied}
use Rattle.kex_constants.proofs.split.copy_states.Given as goal

abbrev pub invariant-loop-copy : goal.invariant-loop-copy
invariant-loop-copy l = FirstCopied (originals l.copies) l.states l.made.items l.copy-index
