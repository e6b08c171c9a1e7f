use Rattle.std.proofs.Common.{◌≡◌, false}
use Rattle.std.specs.Prelude.{IsTrue}
use Rattle.kex_stage.proofs.ByPaths.{Went}
use Rattle.kex_stage.proofs.paths.follow.Given as goal

abbrev pub invariant-loop-i : goal.invariant-loop-i
invariant-loop-i l = record {
  machine : l.frontier.machine ≡ l.fn.frontier.machine;
  usable : IsTrue l.frontier.usable;
  open_ : l.frontier.ended ≡ false;
  went : Went l.frontier l.fn.frontier l.fn.frontier.machine l.piece l.i;
}
