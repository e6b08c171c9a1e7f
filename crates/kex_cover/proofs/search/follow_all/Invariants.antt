use Rattle.std.proofs.Common.{◌≡◌, ◌-◌, ◌<◌, ◌≤◌, ℕ, length}
use Rattle.kex_cover.specs.Searches.{ArePairsKept, GrowsPairs, IsPairFollowed, pairs_met}
use Rattle.kex_cover.proofs.search.follow_all.Given as goal

abbrev pub invariant-pairs : goal.invariant-pairs
invariant-pairs l = record {
  most : l.pairs.most ≡ l.fn.pairs.most;
  bytes : l.sets.bytes ≡ l.fn.sets.bytes;
  within : l.at ≤ length l.pairs.met.keys;
  kept : ArePairsKept l.fn.machine l.sets l.pairs;
  grows : GrowsPairs l.fn.machine (pairs_met l.fn.sets l.fn.pairs) (pairs_met l.sets l.pairs);
  done : (i : ℕ) → i < l.at → IsPairFollowed l.fn.machine l.fn.sets.bytes.items (pairs_met l.sets l.pairs) (pairs_met l.sets l.pairs) i;
}

abbrev pub decreases-pairs : goal.decreases-pairs
decreases-pairs l = l.pairs.most - l.at
