use Rattle.std.proofs.Common.{◌≡◌, ℕ, ◌+◌, ◌<◌, None, get_or, length}
use Rattle.kex_script.specs.Pages.{AreSound, IsEntryAt, KeepsItems, PagesGrow}
use Rattle.kex_script.proofs.writer.Writer.write_entries.Given as goal

abbrev pub invariant-loop-transition : goal.invariant-loop-transition
invariant-loop-transition l = record {
  entries : (k : ℕ) → k < l.transition-index → IsEntryAt l.self l.entries.items (length l.initial.entries.items + k) (get_or l.all k None);
  long : length l.entries.items ≡ length l.initial.entries.items + l.transition-index;
  kept : KeepsItems l.initial.entries.items l.entries.items;
  sound : AreSound l.self;
  grown : PagesGrow l.initial.self l.self;
}
