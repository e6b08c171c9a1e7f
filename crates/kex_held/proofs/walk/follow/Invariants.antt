use Rattle.std.proofs.Common.{◌<◌, length}
use Rattle.kex_held.proofs.ByteWalks.{Follows}
use Rattle.kex_held.proofs.walk.follow.Given as goal

abbrev pub invariant-loop-part : goal.invariant-loop-part
invariant-loop-part l = record { node : l.at < length l.machine.nodes; follows : Follows l.machine.nodes l.from l.parts l.part-index l.at l.actions.items }
