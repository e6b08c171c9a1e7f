use Rattle.std.proofs.Common.{◌≡◌, ◌++◌, drop, take, length}
use Rattle.kex_determine.specs.Determined.{IsDetermined}
use Rattle.kex_tabfile.specs.Writing.{AreFirstTrees, AreTreesOf, states_text}
use Rattle.kex_tabfile.proofs.MetStates.{IsAtRow}
use Rattle.kex_tabfile.proofs.write.write_states.Given as goal

abbrev pub invariant-loop-state : goal.invariant-loop-state
invariant-loop-state l = record {
  numbers : l.trees.numbers ≡ l.fn.trees.numbers;
  workspace : l.trees.workspace ≡ l.fn.trees.workspace;
  machine : AreTreesOf l.fn.trees.workspace l.trees.trees.items;
  so_far : (d : IsDetermined l.fn.trees.workspace l.table) → AreFirstTrees d.shapes l.trees.trees.items × IsAtRow l.fn.trees.workspace l.table d (take l.state l.table.states) (drop l.state l.table.states) (length l.trees.trees.items) × (l.out.items ++ states_text l.fn.trees.numbers.items l.table.initial l.state (drop l.state d.shapes) (drop l.state l.table.states) ≡ l.fn.out.items ++ states_text l.fn.trees.numbers.items l.table.initial 0 d.shapes l.table.states);
}
