use Rattle.std.proofs.Common.{take}
use Rattle.kex_rules.proofs.NodeFlags.{FlagsRoots}
use Rattle.kex_rules.proofs.within.roots_within.Given as goal

abbrev pub invariant-loop-definition : goal.invariant-loop-definition
invariant-loop-definition l = FlagsRoots l.program (take l.definition-index l.definitions) l.within.items
