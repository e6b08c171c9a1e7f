use Rattle.kex_byteset.specs.Sets.{HasExactly}
use Rattle.kex_byteset.proofs.Flags.{between}
use Rattle.kex_byteset.proofs.ByteSet.range.Given as goal

abbrev pub invariant-loop-byte : goal.invariant-loop-byte
invariant-loop-byte l = HasExactly l.set (between l.lo l.byte)
