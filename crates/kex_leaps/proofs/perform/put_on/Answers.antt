use Rattle.std.proofs.Common.{◌+◌, ◌-◌, reverse, arith}
use Rattle.std.proofs.lemmas.Grind.{common_steps}
use Rattle.kex_action.proofs.Sheets.{marks_more}
use Rattle.kex_leaps.proofs.perform.put_on.Goals as goal

pub returns-then-room-ge-AT_ONCE-clause-sheet : goal.returns-then-room-ge-AT_ONCE-clause-sheet
returns-then-room-ge-AT_ONCE-clause-sheet c = record {
  used = grind (arith, common_steps);
  marks = marks_more c.args.sheet.now.used (c.args.sheet.now.used + (c.args.to - c.args.from)) (reverse c.args.sheet.now.marks.items) (omega arith) c.requires.sheet.marks;
}
