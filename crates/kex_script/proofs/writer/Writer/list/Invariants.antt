use Rattle.std.proofs.Common.{◌≡◌, ◌≤◌, Some, take, length, ◌-◌}
use Rattle.std.specs.Prelude.{slice_get}
use Rattle.kex_script.specs.Pages.{AreSound, PagesGrow}
use Rattle.kex_script.proofs.writer.Writer.list.Given as goal

abbrev pub invariant-loop-from : goal.invariant-loop-from
invariant-loop-from l = record {
  number : slice_get l.self.lists l.number ≡ Some (take l.from l.parts);
  from : l.from ≤ length l.parts;
  sound : AreSound l.self;
  grown : PagesGrow l.initial.self l.self;
  rows : l.self.rows ≡ l.initial.self.rows;
}

abbrev pub decreases-loop-from : goal.decreases-loop-from
decreases-loop-from l = length l.parts - l.from
