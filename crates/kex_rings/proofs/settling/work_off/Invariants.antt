use Rattle.kex_rings.specs.Settling.{LineWorks, AllSeatsUsable}
use Rattle.kex_rings.proofs.settling.work_off.Given as goal

abbrev pub invariant-steps : goal.invariant-steps
invariant-steps g l = record {
  usable : AllSeatsUsable g.T.Turn l.seats;
  works : LineWorks g.T.Turn l.fn.seats l.fn.made l.seats l.made;
}
