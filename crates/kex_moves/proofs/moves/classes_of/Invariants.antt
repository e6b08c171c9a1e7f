use Rattle.std.proofs.Common.{◌≡◌, ℕ, ◌<◌, get_or, length}
use Rattle.kex_moves.proofs.moves.classes_of.Given as goal

abbrev pub invariant-loop-byte : goal.invariant-loop-byte
invariant-loop-byte l = record {
  long : length l.classes ≡ 256;
  same : (k : ℕ) → k < l.byte → get_or l.classes k 0 ≡ get_or l.table.classes k 0;
}
