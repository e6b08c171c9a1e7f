use Rattle.std.proofs.Common.{◌≡◌}
use Rattle.kex_desks.proofs.chunk_worker.make_ready_all.Given as goal

abbrev pub invariant-loop-k : goal.invariant-loop-k
invariant-loop-k g l = l.desks ≡ l.fn.desks
