use Rattle.kex_tokens.specs.Scanning.{Between, literal_step}
use Rattle.kex_tokens.proofs.Loops.{IsScanned}
use Rattle.kex_tokens.proofs.literals.literal_length.Given as goal

abbrev pub invariant-loop-i : goal.invariant-loop-i
invariant-loop-i l = IsScanned literal_step Between l.text l.from l.state l.i
