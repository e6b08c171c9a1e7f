use Rattle.std.proofs.Common.{◌≡◌, ◌<◌, ◌≤◌, ◌-◌, length, take}
use Rattle.kex_sst.specs.Summaries.{courses_from}
use Rattle.kex_chunks.proofs.summing.chunk.Given as goal

abbrev pub invariant-stretches : goal.invariant-stretches
invariant-stretches l = record {
  within : l.done ≤ length l.piece;
  some : 0 < length l.piece → 0 < l.done;
  courses : l.courses.items ≡ courses_from l.table l.table.states 0 (take l.done l.piece);
}

abbrev pub decreases-stretches : goal.decreases-stretches
decreases-stretches l = length l.piece - l.done
