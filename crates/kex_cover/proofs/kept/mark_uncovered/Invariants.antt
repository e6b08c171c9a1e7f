use Rattle.std.proofs.Common.{◌≡◌, length}
use Rattle.kex_cover.specs.Keeping.{AreQuestionsKept, AreToldTo}
use Rattle.kex_cover.proofs.LeafMarks.{AskedTo}
use Rattle.kex_cover.proofs.kept.mark_uncovered.Given as goal

abbrev pub invariant-loop-at : goal.invariant-loop-at
invariant-loop-at l = record {
  told : AreToldTo l.fn.machine l.at l.leaves l.marks;
  asked : AskedTo l.fn.machine l.questions.pairs.most l.leaves l.at;
  kept : AreQuestionsKept l.fn.machine l.questions;
  most : l.questions.pairs.most ≡ l.fn.questions.pairs.most;
  long : length l.marks ≡ length l.fn.machine.nodes;
}
