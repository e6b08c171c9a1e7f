use Rattle.std.proofs.Common.{◌≡◌, ◌++◌, map, take, drop}
use Rattle.kex_sst.specs.Summaries.{courses_from, then_of}
use Rattle.kex_chunks.proofs.summing.go_on.Given as goal

abbrev pub invariant-loop-i : goal.invariant-loop-i
invariant-loop-i l = record {
  stretches : l.stretches ≡ record { table = l.table; text = l.text };
  courses : l.courses ≡ map (λ c. then_of l.done (courses_from l.table l.table.states 0 l.text) c) (take l.i l.initial.courses) ++ drop l.i l.initial.courses;
}
