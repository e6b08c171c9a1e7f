use Rattle.std.proofs.Common.{◌≡◌, ◌+◌, drop}
use Rattle.kex_script.specs.Pieces.{code_over}
use Rattle.kex_runner.specs.Noting.{contents}
use Rattle.kex_runner.specs.Items.{items_along}
use Rattle.kex_runner.specs.Ways.{AreKnown}
use Rattle.kex_runner.specs.Following.{IsRunner}
use Rattle.kex_runner.proofs.ByteSteps.{Goes}
use Rattle.kex_runner.proofs.place.TablePlace.follow.Given as goal

abbrev pub invariant-loop-i : goal.invariant-loop-i
invariant-loop-i g l = record {
  goes : Goes l.table l.initial.self.state (contents l.script l.initial.self.registers) l.piece l.i l.self.state (contents l.script l.self.registers) (code_over l.script.words l.initial.pieces.items) (code_over l.script.words l.pieces.items);
  known : AreKnown l.script l.self.ways;
  runner : IsRunner l.table l.script l.self.state l.self.registers;
  steps : l.steps + items_along l.table l.self.state (drop l.i l.piece) ≡ l.initial.steps + items_along l.table l.initial.self.state l.piece;
}
