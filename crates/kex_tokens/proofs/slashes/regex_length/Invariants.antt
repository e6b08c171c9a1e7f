use Rattle.kex_tokens.specs.Scanning.{regex_step}
use Rattle.kex_tokens.proofs.Loops.{IsScanned}
use Rattle.kex_tokens.proofs.slashes.regex_length.Given as goal
use Rattle.std.proofs.Common.{false}

abbrev pub invariant-loop-i : goal.invariant-loop-i
invariant-loop-i l = IsScanned regex_step false l.text l.from l.escaped l.i
