use Rattle.std.proofs.Common.{◌≡◌, ◌<◌, ◌≤◌, ◌-◌, IsTrue, length, take}
use Rattle.kex_sst.specs.Tables.{Transducer}
use Rattle.kex_action.specs.Sheets.{IsSheet}
use Rattle.kex_moves.specs.Known.{IsKnown}
use Rattle.kex_moves.specs.Along.{ReachedOn}
use Rattle.kex_moves.proofs.along.along_acting.Given as goal

abbrev pub invariant-rounds : goal.invariant-rounds
invariant-rounds l = record {
  at : l.at ≤ length l.part;
  usable : IsTrue l.actor.usable;
  machine : l.actor.machine ≡ l.fn.actor.machine;
  sheet : IsSheet l.sheet;
  room : length l.sheet.bytes.items ≡ 86033;
  left : 0 < l.left → l.left ≡ length l.part - l.at;
  few : 0 < l.left → l.sheet.used ≤ 16384;
  reached : (t : Transducer) → IsKnown t l.fn.actor.machine l.edges → ReachedOn t l.edges l.edges l.fn.actor l.actor l.fn.sheet l.sheet l.fn.from l.row (take l.at l.part) l.fn.out.items l.out.items;
}

abbrev pub decreases-rounds : goal.decreases-rounds
decreases-rounds l = l.left
