use Rattle.kex_cover.proofs.SetNumbers.{none_met}
use Rattle.kex_cover.proofs.met_sets.MetSets.bound.Goals as goal

pub returns : goal.returns
returns c = none_met c.args.machine.now _ c.requires.rooms c.requires.bytes c.clear.ensures.empty c.clear-2.ensures.items
