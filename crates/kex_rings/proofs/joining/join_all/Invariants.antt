use Rattle.std.proofs.Common.{◌≡◌, ◌<◌, ◌++◌, [], length}
use Rattle.std.specs.Prelude.{All, IsSome}
use Rattle.kex_pipe.specs.Rounds.{Each}
use Rattle.kex_rings.specs.Ends.{taken_from}
use Rattle.kex_rings.specs.Lines.{AreNew, HaveRings}
use Rattle.kex_rings.proofs.Joins.{Row}
use Rattle.kex_rings.proofs.joining.join_all.Given as goal

abbrev pub invariant-loop-seat : goal.invariant-loop-seat
invariant-loop-seat g l = record {
  seats : l.fn.seats.items ≡ l.yielded ++ l.seat-iterator.rest.items;
  same : Each (λ s r. r.seat ≡ s) l.yielded l.row.items;
  left : l.left ≡ length l.seat-iterator.rest.items;
  joined : Row g.T.Turn l.room l.row.items l.from l.left;
  new : AreNew g.T.Turn l.row.items;
  rings : HaveRings g.T.Turn l.row.items;
  all_rings : 0 < l.left → All (λ s. IsSome s.to) l.row.items;
  from_new : taken_from l.from ≡ [];
}
