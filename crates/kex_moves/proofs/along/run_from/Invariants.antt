use Rattle.std.proofs.Common.{◌≡◌, ◌≤◌, IsTrue, length, take}
use Rattle.kex_action.specs.Sheets.{IsSheet}
use Rattle.kex_moves.specs.Known.{IsKnown}
use Rattle.kex_moves.specs.Along.{ReachedOn}
use Rattle.kex_moves.proofs.along.run_from.Given as goal

abbrev pub invariant-rounds : goal.invariant-rounds
invariant-rounds l = record {
  at : l.at ≤ length l.piece;
  rows : (l.book.leaps.table ≡ l.fn.book.leaps.table) × (l.book.leaps.machine ≡ l.fn.book.leaps.machine);
  known : IsKnown l.primer.table.now l.primer.machine.now l.book.edges;
  machine : l.actor.machine ≡ l.primer.machine.now;
  usable : IsTrue l.actor.usable;
  sheet : IsSheet l.book.sheet;
  room : length l.book.sheet.bytes.items ≡ 86033;
  reached : ReachedOn l.primer.table.now l.fn.book.edges l.book.edges l.fn.actor l.actor l.fn.book.sheet l.book.sheet l.fn.from l.row (take l.at l.piece) l.fn.out.items l.out.items;
}

abbrev pub decreases-rounds : goal.decreases-rounds
decreases-rounds l = l.left
