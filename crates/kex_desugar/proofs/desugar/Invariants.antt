use Rattle.std.proofs.Common.{◌-◌, length}
use Rattle.kex_desugar.proofs.Made.{Made}
use Rattle.kex_desugar.proofs.desugar.Given as goal

abbrev pub invariant-places : goal.invariant-places
invariant-places l = Made l.program l.root l.max_places l.spots.keys l.nodes.items l.start l.bottom

abbrev pub decreases-places : goal.decreases-places
decreases-places l = l.max_places - length l.nodes.items
