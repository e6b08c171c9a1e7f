use Rattle.kex_code.specs.declared.symbol.Symbol.TheVariants.{L}
use Rattle.kex_sst.specs.declared.parts.Part.TheVariants.{Put}
use Rattle.kex_script.proofs.Olds.{olds_since}
use Rattle.kex_script.proofs.writer.word_end.Goals as goal

pub loop-i-preserved : goal.loop-i-preserved
loop-i-preserved c = olds_since c.args.parts.now c.args.start c.loop-i.i (Put L) c.loop-i.auto.i c.loop-i-test.true (c.is_old.ensures c.if-is_old.false) c.loop-i.invariant
