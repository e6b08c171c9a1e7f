use Rattle.std.proofs.Common.{◌≡◌}
use Rattle.std.specs.Prelude.{All, vec_len}
use Rattle.kex_desks.proofs.chunk_worker.desks_of.Given as goal

abbrev pub invariant-loop : goal.invariant-loop
invariant-loop g l = record {
  same : All (λ d. g.W.Worker.machine d ≡ g.W.Worker.machine l.fn.worker) l.desks.items;
  number : vec_len l.desks ≡ l.counter;
}
