use Rattle.std.proofs.Common.{rules}
use Rattle.kex_cover.proofs.met_sets.no_ways.Goals as goal

pub returns : goal.returns
returns c = c.in_ok-ways.ensures.items_if_clones_equal (λ y h. search rules)
