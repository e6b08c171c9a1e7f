use Rattle.std.proofs.Common.{◌≡◌, length, take}
use Rattle.kex_cover.proofs.LeafMarks.{MarkNumbers}
use Rattle.kex_cover.proofs.rows.mark_leaves.Given as goal

abbrev pub invariant-loop-place : goal.invariant-loop-place
invariant-loop-place l = record { long : length l.marks ≡ length l.fn.marks; marked : MarkNumbers (take l.place-index l.places) l.marks }
