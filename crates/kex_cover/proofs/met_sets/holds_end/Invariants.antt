use Rattle.std.proofs.Common.{take}
use Rattle.kex_cover.specs.Searches.{HasEnd}
use Rattle.kex_cover.proofs.met_sets.holds_end.Given as goal

abbrev pub invariant-loop-place : goal.invariant-loop-place
invariant-loop-place l = HasEnd l.nodes (take l.place-index l.places) → ⊥
