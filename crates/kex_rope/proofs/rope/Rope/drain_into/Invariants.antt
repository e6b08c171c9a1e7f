use Rattle.std.proofs.Common.{◌≡◌, ◌++◌, length}
use Rattle.kex_rope.specs.Blocks.{symbols_in, AreBlocks}
use Rattle.kex_rope.proofs.rope.Rope.drain_into.Given as goal

abbrev pub invariant-loop-self : goal.invariant-loop-self
invariant-loop-self l = record {
  all : l.code ++ symbols_in l.self-inside.blocks ≡ l.fn.code ++ l.fn.self;
  are : AreBlocks l.self-inside.blocks l.self-inside.count;
}

abbrev pub decreases-loop-self : goal.decreases-loop-self
decreases-loop-self l = length l.self-inside.blocks
