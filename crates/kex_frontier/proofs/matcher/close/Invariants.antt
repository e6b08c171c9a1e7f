use Rattle.std.proofs.Common.{length}
use Rattle.kex_frontier.proofs.Closures.{Going, left_over}
use Rattle.kex_frontier.proofs.matcher.close.Given as goal

abbrev pub invariant-places : goal.invariant-places
invariant-places l = Going l.nodes l.fn.row l.row l.fresh l.end

abbrev pub decreases-places : goal.decreases-places
decreases-places l = left_over l.row l.fresh (length l.nodes)
