use Rattle.std.proofs.Common.{◌≡◌, ◌≤◌}
use Rattle.kex_each.specs.Answers.{PlansAnswerLines}
use Rattle.kex_each.specs.Desks.{lines_between}
use Rattle.kex_each.proofs.desk.DeskLineDesk.work.Given as goal

abbrev pub invariant-lines : goal.invariant-lines
invariant-lines l = record {
  plans : l.self-inside.clerk ≡ l.fn.self.plans;
  low : l.from ≤ l.i;
  answers : PlansAnswerLines l.fn.self.plans (lines_between l.from l.i l.lines) l.self-inside.answers;
}
