use Rattle.std.proofs.Common.{◌≡◌, ◌≤◌, ◌-◌, IsTrue, length, take}
use Rattle.kex_action.specs.Sheets.{IsSheet, IsAsLong, state_with}
use Rattle.kex_held.specs.Acts.{after_acts}
use Rattle.kex_leaps.specs.Leaps.{acts_in}
use Rattle.kex_leaps.proofs.perform.perform.Given as goal

abbrev pub invariant-acts : goal.invariant-acts
invariant-acts l = record {
  did : state_with l.sheet l.out.items l.actor.holding ≡ after_acts l.fn.actor.machine.nodes (acts_in l.piece (take l.at l.acts)) (state_with l.fn.sheet l.fn.out.items l.fn.actor.holding);
  at : l.at ≤ length l.acts;
  sheet : IsSheet l.sheet;
  room : IsAsLong l.fn.sheet l.sheet;
  machine : l.actor.machine ≡ l.fn.actor.machine;
  refused : l.actor.refused ≡ l.fn.actor.refused;
  usable : IsTrue l.actor.usable;
}

abbrev pub decreases-acts : goal.decreases-acts
decreases-acts l = length l.acts - l.at
