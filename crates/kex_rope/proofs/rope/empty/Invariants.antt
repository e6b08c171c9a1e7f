use Rattle.std.proofs.Common.{length}
use Rattle.kex_rope.proofs.rope.empty.Given as goal

abbrev pub decreases-loop-blocks : goal.decreases-loop-blocks
decreases-loop-blocks l = length l.blocks
