use Rattle.std.proofs.Common.{◌+◌, reverse, arith}
use Rattle.std.proofs.lemmas.Grind.{common_steps}
use Rattle.kex_action.proofs.Sheets.{marks_more}
use Rattle.kex_action.proofs.sheet.Sheet.write_buffer.Goals as goal

pub returns-then-len-used-ge-PIECE-clause-sheet : goal.returns-then-len-used-ge-PIECE-clause-sheet
returns-then-len-used-ge-PIECE-clause-sheet c = record {
  used = grind (arith, common_steps);
  marks = marks_more c.args.self.now.used (c.args.self.now.used + c.len-count.result) (reverse c.args.self.now.marks.items) (omega arith) c.requires.marks;
}
