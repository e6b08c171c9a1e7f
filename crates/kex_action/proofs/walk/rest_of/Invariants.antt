use Rattle.std.proofs.Common.{◌<◌, length}
use Rattle.kex_action.proofs.NodeSteps.{Walks}
use Rattle.kex_action.proofs.walk.rest_of.Given as goal

abbrev pub invariant-loop : goal.invariant-loop
invariant-loop l = record {
  going : Walks l.machine.nodes l.from l.counter l.at;
  within : l.at < length l.machine.nodes;
}
