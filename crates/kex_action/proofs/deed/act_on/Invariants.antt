use Rattle.std.proofs.Common.{◌≡◌, ℕ, List, length, take}
use Rattle.kex_action.specs.Deeds.{after_deeds}
use Rattle.kex_action.specs.Sheets.{IsSheet, IsAsLong, state_with}
use Rattle.kex_action.proofs.deed.act_on.Given as goal

abbrev pub invariant-loop-count : goal.invariant-loop-count
invariant-loop-count l = record {
  registers : length l.store.registers ≡ l.machine.registers;
  sheet : IsSheet l.sheet;
  room : IsAsLong l.fn.sheet l.sheet;
  did : (out : List ℕ) → state_with l.sheet out l.store ≡ after_deeds l.machine.nodes l.byte (take l.count l.deeds) (state_with l.fn.sheet out l.fn.store);
}
