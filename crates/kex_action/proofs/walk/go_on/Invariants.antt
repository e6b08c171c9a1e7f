use Rattle.kex_action.specs.Holdings.{state_of, Fits}
use Rattle.kex_action.proofs.NodeSteps.{Going}
use Rattle.kex_action.proofs.walk.go_on.Given as goal

abbrev pub invariant-loop : goal.invariant-loop
invariant-loop l = record {
  going : Going l.machine.nodes l.from (state_of l.initial.out.items l.initial.store) l.counter l.at (state_of l.out.items l.store);
  fits : Fits l.machine l.at l.store;
}
