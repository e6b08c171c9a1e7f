use Rattle.std.proofs.Common.{◌≡◌, ◌≤◌, take}
use Rattle.kex_reader.specs.Lines.{behind_feed, feeds}
use Rattle.kex_reader.proofs.lines.place.Given as goal

abbrev pub invariant-loop-i : goal.invariant-loop-i
invariant-loop-i l = record {
  line : l.line ≡ feeds (take l.i l.text);
  column : l.column ≡ behind_feed 0 (take l.i l.text);
  lines : l.line ≤ l.i;
  columns : l.column ≤ l.i;
}
