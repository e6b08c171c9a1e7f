use Rattle.std.proofs.Common.{◌<◌, length}
use Rattle.kex_held.proofs.walk.opener_of.Given as goal

abbrev pub invariant-loop : goal.invariant-loop
invariant-loop l = l.at < length l.machine.nodes
