use Rattle.std.proofs.Common.{◌≤◌, ◌+◌, ◌-◌, length}
use Rattle.std.specs.Io.KnownBytes.{Consumes}
use Rattle.kex.proofs.files.read_within.Given as goal

abbrev pub invariant-loop-block : goal.invariant-loop-block
invariant-loop-block g l = record {
  within : length l.text.items ≤ l.limit + 1;
  read : Consumes (g.F.Read.remaining l.fn.file) (g.F.Read.remaining l.file) l.text.items;
}

abbrev pub decreases-loop-block : goal.decreases-loop-block
decreases-loop-block g l = l.limit + 1 - length l.text.items
