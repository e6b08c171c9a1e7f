use Rattle.std.proofs.Common.{◌≡◌, ◌+◌, ◌-◌, ◌≤◌, false, length, take}
use Rattle.std.specs.Prelude.{IsTrue}
use Rattle.kex_single.specs.Told.{WritesFed}
use Rattle.kex_single.proofs.table_codes.CodeRunner.take_all.Given as goal

abbrev pub invariant-takes : goal.invariant-takes
invariant-takes l = record {
  at : l.at ≤ length l.piece;
  writes : WritesFed l.fed l.fn.self.runner l.self.runner (take l.at l.piece) l.fn.out.items l.out.items;
  read : (l.fn.self.runner.read ≤ l.self.runner.read) × (l.self.runner.read ≤ l.fn.self.runner.read + l.at);
  table : l.self.runner.table ≡ l.fn.self.runner.table;
  usable : IsTrue l.self.runner.usable;
  open_ : l.self.runner.ended ≡ false;
}

abbrev pub decreases-takes : goal.decreases-takes
decreases-takes l = length l.piece - l.at
