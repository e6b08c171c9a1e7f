use Rattle.std.proofs.Common.{◌≡◌, ◌≤◌, List, length, drop}
use Rattle.kex_sst.specs.declared.parts.Part.{Part}
use Rattle.kex_script.specs.declared.piece.ByteWord.{ByteWord}
use Rattle.kex_script.specs.Scripts.{Sheet}
use Rattle.kex_runner.specs.Noting.{updates_of}
use Rattle.kex_runner.specs.Ways.{HasWalked, IsWayStep}
use Rattle.kex_runner.proofs.history.walking.stay.Given as goal

abbrev pub invariant-notes : goal.invariant-notes
invariant-notes l = record {
  after : l.place.after ≤ l.fn.first.after;
  room : l.place.after ≤ l.place.start;
  within : l.place.start ≤ length l.room;
  way : l.place.way ≡ l.fn.first.way;
  walked : (s : Sheet) (ways : List (List Part)) (way : List Part) (x : List ByteWord) → l.split.way ≡ l.fn.first.way → IsWayStep s ways l.fn.first.way l.update l.split → HasWalked s ways (updates_of s l.notes) way l.fn.first x (drop l.fn.first.start l.initial.room) → HasWalked s ways (updates_of s l.notes) way l.place x (drop l.place.start l.room);
}

abbrev pub decreases-notes : goal.decreases-notes
decreases-notes l = l.place.after
