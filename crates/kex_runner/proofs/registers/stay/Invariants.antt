use Rattle.std.proofs.Common.{◌≡◌, ◌+◌, ◌-◌, ◌≤◌, ◌++◌, All, length, take}
use Rattle.std.specs.Vec.{vec_capacity, vec_len}
use Rattle.kex_runner.specs.Quiet.{StaysAt, staying}
use Rattle.kex_runner.proofs.registers.stay.Given as goal

abbrev pub invariant-loop-count : goal.invariant-loop-count
invariant-loop-count l = record {
  count : l.count ≤ length l.piece;
  stays : All (StaysAt l.quiets l.partition l.row) (take l.count l.piece);
  notes : l.notes.items ≡ l.initial.notes.items ++ staying l.quiets l.partition l.row (take l.count l.piece);
  room : vec_len l.notes + (length l.piece - l.count) ≤ vec_capacity l.notes;
}

abbrev pub decreases-loop-count : goal.decreases-loop-count
decreases-loop-count l = length l.piece - l.count
