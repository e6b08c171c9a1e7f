use Rattle.kex_rules.specs.Searches.{ClosesPath}
use Rattle.kex_rules.proofs.components.close_all.Given as goal

abbrev pub invariant-loop-i : goal.invariant-loop-i
invariant-loop-i l = ClosesPath l.from l.i l.closed l.path l.fn.marks.items l.marks.items
