use Rattle.std.proofs.Common.{◌≡◌, [], length}
use Rattle.kex_tabfile.specs.TableFiles.{goes_of}
use Rattle.kex_tabfile.specs.Walks.{Told, at_state}
use Rattle.kex_tabfile.specs.Checking.{Checks, EachHasEnds, ChecksAt}
use Rattle.kex_tabfile.proofs.stage.take_states.Given as goal

abbrev pub invariant-loop-state : goal.invariant-loop-state
invariant-loop-state l = record {
  long : length l.rows.items ≡ l.state;
  workspace : l.workspace ≡ l.fn.workspace;
  kept : l.checker ≡ record l.fn.checker {
    targets = l.checker.targets;
    updates = l.checker.updates;
    line = l.checker.line;
  };
  so_far : (told : Told) → told.rows ≡ [] → ChecksAt l.fn.checker.machine.now l.fn.checker.targets l.fn.checker.states 0 told → (now : Told) × (now.rows ≡ goes_of l.rows.items) × ChecksAt l.fn.checker.machine.now l.checker.targets l.fn.checker.states l.state now × EachHasEnds l.fn.checker.machine.now now.targets l.rows.items × Checks l.fn.checker.machine.now l.fn.checker.numbers.items l.fn.checker.partition.now l.fn.reader (at_state told) (at_state now) l.reader;
}
