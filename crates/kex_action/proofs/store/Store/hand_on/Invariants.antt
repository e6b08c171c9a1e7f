use Rattle.std.proofs.Common.{◌≡◌, take, reverse}
use Rattle.kex_action.specs.Holdings.{state_of}
use Rattle.kex_action.specs.Sheets.{with_marked_bytes}
use Rattle.kex_action.proofs.Sheets.{last_of}
use Rattle.kex_action.proofs.store.Store.hand_on.Given as goal

abbrev pub invariant-loop-i : goal.invariant-loop-i
invariant-loop-i l = record {
  from : l.from ≡ last_of (reverse (take l.i l.sheet.marks.items));
  state : state_of l.out.items l.self ≡ with_marked_bytes (take l.from l.bytes) (reverse (take l.i l.sheet.marks.items)) (state_of l.fn.out.items l.fn.self);
}
