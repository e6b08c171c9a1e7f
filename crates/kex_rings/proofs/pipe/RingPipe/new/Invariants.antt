use Rattle.std.proofs.Common.{◌≡◌, ◌++◌}
use Rattle.kex_pipe.specs.Rounds.{Each}
use Rattle.kex_pipe.proofs.Stops.{IsNew}
use Rattle.kex_rings.proofs.pipe.RingPipe.new.Given as goal

abbrev pub invariant-loop-stage : goal.invariant-loop-stage
invariant-loop-stage g l = record {
  stages : l.fn.stages.items ≡ l.yielded ++ l.stage-iterator.rest.items;
  seats : Each (IsNew g.T.Turn) l.yielded l.seats.items;
}
