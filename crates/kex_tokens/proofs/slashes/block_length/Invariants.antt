use Rattle.kex_tokens.specs.Scanning.{block_step}
use Rattle.kex_tokens.proofs.Loops.{IsScanned}
use Rattle.kex_tokens.proofs.slashes.block_length.Given as goal
use Rattle.std.proofs.Common.{false}

abbrev pub invariant-loop-i : goal.invariant-loop-i
invariant-loop-i l = IsScanned block_step false l.text l.from l.star l.i
