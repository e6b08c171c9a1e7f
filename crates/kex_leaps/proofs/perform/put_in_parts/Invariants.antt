use Rattle.std.proofs.Common.{◌≡◌, ◌<◌, ◌≤◌, ◌-◌, IsTrue, length, take}
use Rattle.kex_action.specs.Holdings.{with_bytes}
use Rattle.kex_action.specs.Sheets.{IsSheet, IsAsLong, state_with}
use Rattle.kex_leaps.proofs.perform.put_in_parts.Given as goal

abbrev pub invariant-parts : goal.invariant-parts
invariant-parts l = record {
  did : state_with l.sheet l.out.items l.actor.holding ≡ with_bytes (take l.at l.text) (state_with l.fn.sheet l.fn.out.items l.fn.actor.holding);
  at : l.at ≤ length l.text;
  some : 0 < l.most;
  most : l.most ≡ length l.fn.sheet.bytes.items;
  sheet : IsSheet l.sheet;
  room : IsAsLong l.fn.sheet l.sheet;
  machine : l.actor.machine ≡ l.fn.actor.machine;
  refused : l.actor.refused ≡ l.fn.actor.refused;
  usable : IsTrue l.actor.usable;
}

abbrev pub decreases-parts : goal.decreases-parts
decreases-parts l = length l.text - l.at
