use Rattle.std.proofs.Common.{◌≤◌, List, length, drop}
use Rattle.kex_sst.specs.declared.parts.Part.{Part}
use Rattle.kex_script.specs.declared.piece.ByteWord.{ByteWord}
use Rattle.kex_runner.specs.Noting.{updates_of}
use Rattle.kex_runner.specs.Ways.{AreKnown, HasWalked, IsNumberedWay}
use Rattle.kex_runner.proofs.history.History.walk.Given as goal

abbrev pub invariant-notes : goal.invariant-notes
invariant-notes l = record {
  known : AreKnown l.self.script.now l.ways;
  way : (to : List Part) × IsNumberedWay l.ways.lists l.place.way to;
  after : l.place.after ≤ length l.self.notes.now;
  room : l.place.after ≤ l.place.start;
  within : l.place.start ≤ length l.room;
  walked : (from : List Part) (x : List ByteWord) → HasWalked l.self.script.now l.initial.ways.lists (updates_of l.self.script.now l.self.notes.now) from l.fn.first x (drop l.fn.first.start l.initial.room) → HasWalked l.self.script.now l.ways.lists (updates_of l.self.script.now l.self.notes.now) from l.place x (drop l.place.start l.room);
}

abbrev pub decreases-notes : goal.decreases-notes
decreases-notes l = l.place.after
