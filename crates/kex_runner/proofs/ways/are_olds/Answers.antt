use Rattle.kex_code.specs.declared.symbol.Symbol.TheVariants.{L}
use Rattle.kex_sst.specs.declared.parts.Part.TheVariants.{Put}
use Rattle.kex_runner.proofs.WayLemmas.{olds_next}
use Rattle.kex_runner.proofs.ways.are_olds.Goals as goal

pub loop-part-preserved : goal.loop-part-preserved
loop-part-preserved c = olds_next c.args.parts.now c.loop-part.part-index (Put L) c.loop-part-test.true (c.is_old.ensures.old c.if-not-is_old.false) c.loop-part.invariant
