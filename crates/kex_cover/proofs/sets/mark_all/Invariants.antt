use Rattle.std.proofs.Common.{◌≡◌, length, take}
use Rattle.kex_cover.specs.Searches.{AreMarksOf}
use Rattle.kex_cover.proofs.sets.mark_all.Given as goal

abbrev pub invariant-loop-place : goal.invariant-loop-place
invariant-loop-place l = record { room : length l.row ≡ length l.initial.row; marked : AreMarksOf (take l.place-index l.places) l.row }
