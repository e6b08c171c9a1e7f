use Rattle.std.proofs.Common.{◌≡◌, ◌≤◌, IsTrue, List, length, take}
use Rattle.kex_action.specs.Sheets.{IsSheet}
use Rattle.kex_sst.specs.declared.parts.Part.{Part}
use Rattle.kex_script.specs.Pieces.{code_over}
use Rattle.kex_moves.specs.Known.{IsKnown}
use Rattle.kex_moves.specs.Speech.{words_table, SaidOn}
use Rattle.kex_moves.proofs.tell.tell_from.Given as goal

abbrev pub invariant-rounds : goal.invariant-rounds
invariant-rounds l = record {
  at : l.at ≤ length l.pieces;
  machine : l.actor.machine ≡ l.fn.actor.machine;
  usable : IsTrue l.actor.usable;
  sheet : IsSheet l.sheet;
  room : length l.sheet.bytes.items ≡ 86033;
  said : (words : List (List Part)) → IsKnown (words_table words) l.fn.actor.machine l.edges → SaidOn l.edges l.fn.actor l.actor l.fn.sheet l.sheet l.fn.from l.row (code_over words (take l.at l.pieces)) l.fn.out.items l.out.items;
}

abbrev pub decreases-rounds : goal.decreases-rounds
decreases-rounds l = l.left
