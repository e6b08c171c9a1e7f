use Rattle.std.proofs.Common.{◌≡◌, ◌++◌}
use Rattle.kex_sst.proofs.fan.share.Given as goal

abbrev pub invariant-loop-transition : goal.invariant-loop-transition
invariant-loop-transition l = l.shared ++ l.transition-iterator.rest.items ≡ l.fn.each.items
