use Rattle.std.proofs.Common.{◌≡◌, ◌++◌, take}
use Rattle.kex_leaps.specs.Leaps.{leap_acts}
use Rattle.kex_leaps.proofs.mark.put_acts.Given as goal

abbrev pub invariant-items : goal.invariant-items
invariant-items l = record {
  acts : l.acts.items ≡ l.fn.acts.items ++ leap_acts l.at l.marks (take l.item-index l.items);
}
