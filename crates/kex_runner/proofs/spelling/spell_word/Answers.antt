use Rattle.std.proofs.Common.{[], ◌∙◌}
use Rattle.kex_code.specs.declared.symbol.Symbol.TheVariants.{L}
use Rattle.kex_sst.specs.declared.parts.Part.TheVariants.{Put}
use Rattle.kex_runner.proofs.Notes.{meant_more}
use Rattle.kex_runner.proofs.spelling.spell_word.Goals as goal

pub loop-part-preserved : goal.loop-part-preserved
loop-part-preserved c = c.in_ok-spell_part.ensures ∙ meant_more [] c.args.byte c.args.word.now c.loop-part.part-index (Put L) c.args.code.now c.loop-part.code c.loop-part-test.true c.loop-part.invariant
