use Rattle.kex_cover.specs.Searches.{AreListedTo}
use Rattle.kex_cover.proofs.met_sets.listed.Given as goal

abbrev pub invariant-loop-sample : goal.invariant-loop-sample
invariant-loop-sample l = AreListedTo l.sample-index l.samples l.bytes.items
