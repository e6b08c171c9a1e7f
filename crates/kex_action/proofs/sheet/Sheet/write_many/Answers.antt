use Rattle.std.proofs.Common.{◌+◌, length, reverse, arith}
use Rattle.std.proofs.lemmas.Grind.{common_steps}
use Rattle.kex_action.proofs.Sheets.{marks_more}
use Rattle.kex_action.proofs.sheet.Sheet.write_many.Goals as goal

pub returns-clause-sheet : goal.returns-clause-sheet
returns-clause-sheet c = record {
  used = grind (arith, common_steps);
  marks = marks_more c.args.self.now.used (c.args.self.now.used + length c.args.bytes.now) (reverse c.args.self.now.marks.items) (omega arith) c.requires.marks;
}
