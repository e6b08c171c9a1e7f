use Rattle.std.proofs.Common.{length, take}
use Rattle.kex_rules.specs.Rules.{IsTwice}
use Rattle.kex_rules.specs.Tables.{HasRoots, IsLeastOffset}
use Rattle.kex_rules.proofs.names.roots_of.Given as goal

abbrev pub invariant-loop-definition : goal.invariant-loop-definition
invariant-loop-definition l = record { roots : HasRoots (take l.definition-index l.definitions) (length l.program.names) l.roots.items; twice : IsLeastOffset (IsTwice (take l.definition-index l.definitions)) l.twice }
