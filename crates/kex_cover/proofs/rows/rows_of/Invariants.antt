use Rattle.std.proofs.Common.{◌≡◌, length}
use Rattle.kex_cover.specs.Keeping.{AreBestRowsTo, AreStatesLeft}
use Rattle.kex_cover.proofs.rows.rows_of.Given as goal

abbrev pub invariant-loop-state : goal.invariant-loop-state
invariant-loop-state l = record {
  rows : (k : AreStatesLeft l.fn.machine l.fn.table l.lefts) → AreBestRowsTo l.fn.machine l.state l.fn.table.classes k.left.states l.rows.items;
  workspace : l.tools.workspace ≡ l.fn.machine;
  long : length l.tools.marks ≡ length l.fn.machine.nodes;
}
