use Rattle.std.proofs.Common.{take}
use Rattle.kex_cover.specs.Searches.{AllHold, all_pair_sets, met_sets}
use Rattle.kex_cover.proofs.search.all_hold.Given as goal

abbrev pub invariant-loop-pair : goal.invariant-loop-pair
invariant-loop-pair l = AllHold l.fn.machine (all_pair_sets (met_sets l.sets) (take l.pair-index l.pairs))
