use Rattle.std.proofs.Common.{◌≡◌, ◌++◌, map}
use Rattle.kex_chunk_stage.proofs.stage_desk.wrap_all.Given as goal

abbrev pub invariant-desks : goal.invariant-desks
invariant-desks l = record {
  all : l.fn.desks.items ≡ l.yielded ++ l.within-iterator.rest.items;
  same : map (λ d. d.within) l.wrapped.items ≡ l.yielded;
}
