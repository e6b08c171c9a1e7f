use Rattle.std.proofs.Common.{◌≤◌, ◌-◌, length}
use Rattle.kex_script.specs.Pieces.{code_over}
use Rattle.kex_runner.specs.Noting.{contents}
use Rattle.kex_runner.specs.Ways.{AreKnown}
use Rattle.kex_runner.specs.Following.{IsRunner}
use Rattle.kex_runner.proofs.ByteSteps.{Goes}
use Rattle.kex_runner.proofs.place.TablePlace.follow_held.Given as goal

abbrev pub invariant-bytes : goal.invariant-bytes
invariant-bytes l = record {
  at : l.at ≤ length l.piece;
  goes : Goes l.table l.initial.self.state (contents l.guide.script l.initial.self.registers) l.piece l.at l.self.state (contents l.guide.script l.self.registers) (code_over l.guide.script.words l.initial.pieces.items) (code_over l.guide.script.words l.pieces.items);
  known : AreKnown l.guide.script l.self.ways;
  runner : IsRunner l.table l.guide.script l.self.state l.self.registers;
}

abbrev pub decreases-bytes : goal.decreases-bytes
decreases-bytes l = length l.piece - l.at
