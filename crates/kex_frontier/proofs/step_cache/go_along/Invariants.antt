use Rattle.std.proofs.Common.{◌≤◌, ◌+◌, ◌-◌, length, take}
use Rattle.kex_byteset.specs.Classes.{class_count}
use Rattle.kex_frontier.specs.Caches.{AreWays}
use Rattle.kex_frontier.proofs.step_cache.go_along.Given as goal

abbrev pub invariant-loop-taken : goal.invariant-loop-taken
invariant-loop-taken l = record {
  taken : l.taken ≤ length l.piece;
  at : l.at + class_count l.classes ≤ length l.ways;
  along : AreWays l.classes l.ways l.from (take l.taken l.piece) l.at;
}

abbrev pub decreases-loop-taken : goal.decreases-loop-taken
decreases-loop-taken l = length l.piece - l.taken
