use Rattle.std.proofs.Common.{◌≡◌, ℕ, ◌≤◌, ◌+◌, ◌-◌, List, ◌++◌, take, length}
use Rattle.kex_frontier.specs.Matchers.{WasFed}
use Rattle.kex_frontier.proofs.matcher.Matcher.feed.Given as goal

abbrev pub invariant-loop-taken : goal.invariant-loop-taken
invariant-loop-taken l = record {
  taken : l.taken ≤ length l.piece;
  fed : (w : List ℕ) → WasFed l.fn.self w → WasFed l.self (w ++ take l.taken l.piece);
  machine : l.self.machine ≡ l.fn.self.machine;
  count : l.self.good ≤ l.fn.self.good + l.taken;
}

abbrev pub decreases-loop-taken : goal.decreases-loop-taken
decreases-loop-taken l = length l.piece - l.taken
