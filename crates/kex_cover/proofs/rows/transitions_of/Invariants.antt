use Rattle.std.proofs.Common.{◌≡◌, length}
use Rattle.kex_cover.specs.Keeping.{AreBestTo, WhereLeft}
use Rattle.kex_cover.proofs.rows.transitions_of.Given as goal

abbrev pub invariant-loop-class : goal.invariant-loop-class
invariant-loop-class l = record {
  does : WhereLeft l.fn.tools.workspace l.fn.table l.lefts l.state (λ states s. AreBestTo l.fn.tools.workspace l.class l.fn.table.classes states s l.go);
  workspace : l.tools.workspace ≡ l.fn.tools.workspace;
  size : length l.go ≡ l.class;
  long : length l.tools.marks ≡ length l.fn.tools.marks;
}
