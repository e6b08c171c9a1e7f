use Rattle.kex_code.specs.declared.symbol.Symbol.TheVariants.{L}
use Rattle.kex_sst.specs.declared.parts.Part.TheVariants.{Put}
use Rattle.kex_chunks.proofs.MovedLists.{substitute_more}
use Rattle.kex_chunks.proofs.drafts.add_all.Goals as goal

pub loop-part-preserved : goal.loop-part-preserved
loop-part-preserved c = substitute_more c.args.regs.now c.args.byte c.args.parts.now c.loop-part.part-index (Put L) c.args.list.now c.loop-part.list c.add.new.list c.loop-part-test.true c.loop-part.invariant c.in_ok-add.ensures
