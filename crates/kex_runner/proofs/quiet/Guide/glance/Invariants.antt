use Rattle.std.proofs.Common.{◌≡◌, ◌+◌, ◌-◌, ◌*◌, ◌/◌, ◌<◌, ◌≤◌, length, take}
use Rattle.kex_runner.specs.Quiet.{GoesQuietly}
use Rattle.kex_runner.proofs.quiet.Guide.glance.Given as goal

abbrev pub invariant-loop-count : goal.invariant-loop-count
invariant-loop-count l = record {
  count : l.count ≤ length l.piece;
  within : l.row + l.self.width ≤ length l.self.quiets.items;
  whole : l.row ≡ l.row / l.self.width * l.self.width;
  few : l.row / l.self.width < 4294967296;
  quiet : GoesQuietly l.table l.fn.state (l.row / l.self.width) (take l.count l.piece);
}

abbrev pub decreases-loop-count : goal.decreases-loop-count
decreases-loop-count l = length l.piece - l.count
