use Rattle.std.proofs.Common.{◌≡◌, ◌+◌, length}
use Rattle.kex_script.specs.Pages.{AreListsAt, AreSound, PagesGrow}
use Rattle.kex_script.proofs.writer.Writer.put_all.Given as goal

abbrev pub invariant-loop-list : goal.invariant-loop-list
invariant-loop-list l = record {
  at : AreListsAt l.self (length l.initial.self.rows) l.list-index l.lists;
  count : length l.self.rows ≡ length l.initial.self.rows + l.list-index;
  sound : AreSound l.self;
  grown : PagesGrow l.initial.self l.self;
}
