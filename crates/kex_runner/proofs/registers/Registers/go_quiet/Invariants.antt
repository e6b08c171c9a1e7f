use Rattle.std.proofs.Common.{◌≡◌, ◌+◌, ◌-◌, ◌*◌, ◌/◌, ◌≤◌, [], length}
use Rattle.std.specs.Vec.{vec_capacity, vec_len}
use Rattle.kex_runner.specs.Noting.{contents, noted_by}
use Rattle.kex_runner.specs.Following.{IsTablePlace}
use Rattle.kex_runner.proofs.ByteSteps.{Goes}
use Rattle.kex_runner.proofs.registers.Registers.go_quiet.Given as goal

abbrev pub invariant-quiet : goal.invariant-quiet
invariant-quiet l = record {
  count : l.count ≤ l.room;
  within : l.row + l.guide.width ≤ length l.guide.quiets.items;
  whole : l.row ≡ l.row / l.guide.width * l.guide.width;
  room : vec_len l.notes + (l.room - l.count) ≤ vec_capacity l.notes;
  place : IsTablePlace l.table (l.row / l.guide.width) (noted_by l.guide.script l.fn.self.base.items l.notes.items);
  goes : Goes l.table l.fn.state (contents l.guide.script l.fn.self) l.piece l.count (l.row / l.guide.width) (noted_by l.guide.script l.fn.self.base.items l.notes.items) [] [];
}

abbrev pub decreases-quiet : goal.decreases-quiet
decreases-quiet l = l.room - l.count
