use Rattle.std.proofs.Common.{◌≡◌, ◌++◌, map}
use Rattle.kex_chunk_stage.proofs.stage_desk.unwrap_all.Given as goal

abbrev pub invariant-desks : goal.invariant-desks
invariant-desks l = record {
  all : l.fn.desks.items ≡ l.yielded ++ l.desk-iterator.rest.items;
  same : l.bare.items ≡ map (λ d. d.within) l.yielded;
}
