use Rattle.std.proofs.Common.{◌≡◌, length, take}
use Rattle.kex_action.specs.Holdings.{state_of}
use Rattle.kex_action.specs.Deeds.{after_deeds}
use Rattle.kex_action.proofs.deed.act_all.Given as goal

abbrev pub invariant-loop-deed : goal.invariant-loop-deed
invariant-loop-deed l = record {
  count : length l.store.registers ≡ l.machine.registers;
  does : state_of l.out.items l.store ≡ after_deeds l.machine.nodes l.byte (take l.deed-index l.deeds) (state_of l.fn.out.items l.fn.store);
}
