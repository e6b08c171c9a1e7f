use Rattle.std.proofs.Common.{ℕ, List, vec_len}
use Rattle.kex_tabfile.specs.TreeMarks.{TailPart, AreTreeMarks, IsTailLeft}
use Rattle.kex_tabfile.proofs.trees.push_marks.Given as goal

abbrev pub invariant-loop-mark : goal.invariant-loop-mark
invariant-loop-mark l = (numbers : List ℕ) (tail : List TailPart) → AreTreeMarks l.fn.pending.items tail → (ys : List TailPart) × AreTreeMarks l.pending.items ys × IsTailLeft numbers tail l.fn.line.items ys l.line.items

abbrev pub decreases-loop-mark : goal.decreases-loop-mark
decreases-loop-mark l = vec_len l.pending
