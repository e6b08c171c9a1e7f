use Rattle.std.proofs.Common.{◌≡◌, length}
use Rattle.kex_runner.specs.Quiet.{AreQuiet}
use Rattle.kex_runner.proofs.quiet.quiets_of.Given as goal

abbrev pub invariant-loop-i : goal.invariant-loop-i
invariant-loop-i l = record {
  long : length l.all.items ≡ l.i;
  quiet : AreQuiet l.script l.width l.count l.all.items;
}
