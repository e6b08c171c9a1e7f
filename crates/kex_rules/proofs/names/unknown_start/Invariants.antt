use Rattle.std.proofs.Common.{take}
use Rattle.kex_rules.specs.Tables.{IsLeastOffset}
use Rattle.kex_rules.proofs.DefinedNames.{UsesUnknown}
use Rattle.kex_rules.proofs.names.unknown_start.Given as goal

abbrev pub invariant-loop-start : goal.invariant-loop-start
invariant-loop-start l = IsLeastOffset (UsesUnknown l.program (take l.start-index l.stages)) l.found
