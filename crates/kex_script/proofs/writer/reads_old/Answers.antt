use Rattle.kex_code.specs.declared.symbol.Symbol.TheVariants.{L}
use Rattle.kex_sst.specs.declared.parts.Part.TheVariants.{Put}
use Rattle.kex_script.proofs.Olds.{olds_more}
use Rattle.kex_script.proofs.writer.reads_old.Goals as goal

pub loop-part-preserved : goal.loop-part-preserved
loop-part-preserved c = olds_more c.args.parts.now c.loop-part.part-index (Put L) c.loop-part-test.true (c.is_old.ensures c.if-is_old.false) c.loop-part.invariant
