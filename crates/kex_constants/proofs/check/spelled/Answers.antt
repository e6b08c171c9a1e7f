use Rattle.std.proofs.Common.{◌++◌, get_or, sym, ap, ◌∙◌}
use Rattle.kex_code.specs.declared.symbol.Symbol.TheVariants.{L}
use Rattle.kex_sst.specs.declared.parts.Part.TheVariants.{Put}
use Rattle.kex_sst.specs.Parts.{value}
use Rattle.kex_constants.proofs.Lists.{meant_more}
use Rattle.kex_constants.proofs.check.spelled.Goals as goal

pub loop-part-preserved : goal.loop-part-preserved
loop-part-preserved c = λ regs b h.
    meant_more regs b c.args.parts.now c.loop-part.part-index c.loop-part-test.true
    ∙ ap (λ z. z ++ value regs b (get_or c.args.parts.now c.loop-part.part-index (Put L))) (c.loop-part.invariant regs b h)
    ∙ sym (c.in_ok-spell.ensures c.if-not-branch.false regs b h)
