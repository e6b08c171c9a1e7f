use Rattle.std.proofs.Common.{◌≤◌, List, All, length, drop}
use Rattle.kex_sst.specs.declared.parts.Part.{Part}
use Rattle.kex_script.specs.declared.piece.ByteWord.{ByteWord}
use Rattle.kex_script.specs.Scripts.{Sheet}
use Rattle.kex_runner.specs.Noting.{updates_of}
use Rattle.kex_runner.specs.Ways.{HasWalked, IsStepIf}
use Rattle.kex_runner.proofs.history.walking.walk_known.Given as goal

abbrev pub invariant-notes : goal.invariant-notes
invariant-notes l = record {
  after : l.place.after ≤ length l.notes;
  room : l.place.after ≤ l.place.start;
  within : l.place.start ≤ length l.room;
  walked : (s : Sheet) (ways : List (List Part)) (from : List Part) (none : List ByteWord) → All (IsStepIf s ways) l.steps → HasWalked s ways (updates_of s l.notes) from l.fn.first none (drop l.fn.first.start l.initial.room) → HasWalked s ways (updates_of s l.notes) from l.place none (drop l.place.start l.room);
}

abbrev pub decreases-notes : goal.decreases-notes
decreases-notes l = l.place.after
