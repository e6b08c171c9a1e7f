use Rattle.std.proofs.Common.{◌≡◌, take}
use Rattle.kex_sst.specs.Summaries.{courses_from}
use Rattle.kex_chunks.proofs.summing.courses_of.Given as goal

abbrev pub invariant-states : goal.invariant-states
invariant-states l = l.all.items ≡ take l.state (courses_from l.table l.table.states 0 l.text)
