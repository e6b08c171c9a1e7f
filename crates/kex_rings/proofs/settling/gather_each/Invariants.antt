use Rattle.std.proofs.Common.{◌≡◌, ◌++◌}
use Rattle.kex_pipe.specs.Waiting.{waiting_items}
use Rattle.kex_rings.specs.Settling.{GathersAll, AllSeatsUsable}
use Rattle.kex_rings.proofs.settling.gather_each.Given as goal

abbrev pub invariant-loop-seat : goal.invariant-loop-seat
invariant-loop-seat g l = record {
  seats : l.fn.seats.items ≡ l.yielded ++ l.seat-iterator.rest.items;
  usable : AllSeatsUsable g.T.Turn l.row.items;
  gathers : GathersAll g.T.Turn l.yielded l.row.items (waiting_items l.fn.unsent) (waiting_items l.unsent);
}
