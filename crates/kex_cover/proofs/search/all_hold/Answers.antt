use Rattle.std.proofs.Common.{arith}
use Rattle.std.proofs.lemmas.Option.{slice_get-get_or}
use Rattle.kex_cover.specs.Searches.{met_sets, pair_sets}
use Rattle.kex_cover.proofs.PairNumbers.{among_sets}
use Rattle.kex_cover.proofs.PairSteps.{get_among}
use Rattle.kex_cover.proofs.Starts.{hold_more}
use Rattle.kex_cover.proofs.search.all_hold.Goals as goal

pub fails-requires-clause-numbered : goal.fails-requires-clause-numbered
fails-requires-clause-numbered c = c.requires.numbered _ (get_among c.args.pairs.now c.loop-pair.pair-index _ (slice_get-get_or c.args.pairs.now c.loop-pair.pair-index _ (omega arith)))

pub returns-then-fails : goal.returns-then-fails
returns-then-fails c = (pair_sets (met_sets c.args.sets.now) _, among_sets (met_sets c.args.sets.now) c.requires.met.different c.args.pairs.now _ (get_among c.args.pairs.now c.loop-pair.pair-index _ (slice_get-get_or c.args.pairs.now c.loop-pair.pair-index _ (omega arith))), c.if-fails.ensures)

pub loop-pair-preserved : goal.loop-pair-preserved
loop-pair-preserved c = hold_more c.args.machine.now (met_sets c.args.sets.now) c.args.pairs.now c.loop-pair.pair-index _ (slice_get-get_or c.args.pairs.now c.loop-pair.pair-index _ (omega arith)) c.loop-pair.invariant c.if-fails.ensures
