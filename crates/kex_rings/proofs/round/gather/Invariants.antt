use Rattle.std.proofs.Common.{◌≡◌, map, take}
use Rattle.kex_rings.proofs.round.gather.Given as goal

abbrev pub invariant-loop-seat : goal.invariant-loop-seat
invariant-loop-seat g l = l.counts.items ≡ map (λ s. s.took) (take l.seat-index l.seats)
