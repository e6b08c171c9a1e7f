use Rattle.std.proofs.Common.{◌≡◌, map, take}
use Rattle.kex_sst.specs.Summaries.{then_of}
use Rattle.kex_chunks.proofs.summing.compose.Given as goal

abbrev pub invariant-entries : goal.invariant-entries
invariant-entries l = l.all.items ≡ map (λ c. then_of l.bytes l.other.entries c) (take l.course-index l.entries)
