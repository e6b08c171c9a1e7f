use Rattle.std.proofs.Common.{◌≡◌}
use Rattle.kex_cover.specs.Searches.{ArePairsKept, GrowsPairs, IsPairFollowedTo, pairs_met}
use Rattle.kex_cover.proofs.search.follow.Given as goal

abbrev pub invariant-loop-class : goal.invariant-loop-class
invariant-loop-class l = record {
  most : l.pairs.most ≡ l.fn.pairs.most;
  bytes : l.sets.bytes ≡ l.fn.sets.bytes;
  kept : ArePairsKept l.fn.machine l.sets l.pairs;
  grows : GrowsPairs l.fn.machine (pairs_met l.fn.sets l.fn.pairs) (pairs_met l.sets l.pairs);
  done : IsPairFollowedTo l.class l.fn.machine l.fn.sets.bytes.items (pairs_met l.fn.sets l.fn.pairs) (pairs_met l.sets l.pairs) l.at;
}
