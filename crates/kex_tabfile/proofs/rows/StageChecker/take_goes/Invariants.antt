use Rattle.std.proofs.Common.{◌≡◌, ℕ, length}
use Rattle.kex_code.specs.Codes.{IsAmong}
use Rattle.kex_model.specs.Labelled.{Shape}
use Rattle.kex_tabfile.specs.Walks.{Told}
use Rattle.kex_tabfile.specs.Checking.{ChecksAt}
use Rattle.kex_tabfile.proofs.TableRows.{target}
use Rattle.kex_tabfile.proofs.StageSteps.{GoesSoFar}
use Rattle.kex_tabfile.proofs.rows.StageChecker.take_goes.Given as goal

abbrev pub invariant-classes : goal.invariant-classes
invariant-classes l = record {
  long : length l.go ≡ l.class;
  kept : l.self ≡ record l.fn.self {
    targets = l.self.targets;
    updates = l.self.updates;
    line = l.self.line;
  };
  workspace : l.workspace ≡ l.fn.workspace;
  so_far : (told : Told) (s : Shape ℕ) → ChecksAt l.fn.self.machine.now l.fn.self.targets l.fn.self.states l.fn.state told → IsAmong told.targets (target l.fn.state s) → GoesSoFar l.fn.self.machine.now l.fn.self.numbers.items l.fn.self.partition.now l.fn.self.states l.fn.state l.fn.reader told s l.self.targets l.go l.reader;
}
