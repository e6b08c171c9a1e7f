use Rattle.std.proofs.Common.{take}
use Rattle.kex_machine.specs.Nodes.{node_moves}
use Rattle.kex_action.specs.Holdings.{state_of, LeadsByCode, Rests, Fits}
use Rattle.kex_action.proofs.walk.follow.Given as goal

abbrev pub invariant-loop-count : goal.invariant-loop-count
invariant-loop-count l = record {
  leads : LeadsByCode l.machine.nodes l.fn.from (state_of l.fn.out.items l.fn.store) (take l.count l.symbols) l.at (state_of l.out.items l.store);
  rests : Rests (node_moves l.machine.nodes l.at);
  fits : Fits l.machine l.at l.store;
}
