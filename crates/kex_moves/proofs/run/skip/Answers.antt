use Rattle.std.proofs.Common.{arith}
use Rattle.kex_moves.proofs.run.skip.Goals as goal

pub loop-count-preserved : goal.loop-count-preserved
loop-count-preserved c = record {
  some = omega (arith, c.loop-count.invariant.some);
  within = omega (arith, c.dropped_of_eight-more.ensures.within, c.loop-count-test.true);
  dropped = c.dropped_of_eight-more.ensures.dropped;
}
