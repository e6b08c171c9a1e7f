use Rattle.std.proofs.Common.{◌++◌, get_or, ap, ◌∙◌}
use Rattle.kex_code.specs.declared.symbol.Symbol.TheVariants.{L}
use Rattle.kex_sst.specs.declared.parts.Part.TheVariants.{Put}
use Rattle.kex_sst.specs.Parts.{value}
use Rattle.kex_runner.specs.Noting.{contents}
use Rattle.kex_runner.proofs.Notes.{meant_more}
use Rattle.kex_runner.proofs.registers.Registers.spell.Goals as goal

pub loop-part-preserved : goal.loop-part-preserved
loop-part-preserved c =
    let s = c.args.script.now in
    let part = get_or c.args.way.now c.loop-part.part-index (Put L) in
    record {
      code = c.in_ok-spell_part.ensures.code ∙ ap (λ z. c.loop-part.code ++ value z 0 part) c.loop-part.invariant.same ∙ meant_more (contents s c.args.self.now) 0 c.args.way.now c.loop-part.part-index (Put L) c.args.code.now c.loop-part.code c.loop-part-test.true c.loop-part.invariant.code;
      same = c.in_ok-spell_part.ensures.same ∙ c.loop-part.invariant.same;
      count = c.in_ok-spell_part.ensures.count ∙ c.loop-part.invariant.count;
    }
