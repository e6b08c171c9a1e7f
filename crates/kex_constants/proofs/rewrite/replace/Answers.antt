use Rattle.std.proofs.Common.{◌++◌, sym, ap, ◌∙◌, get_or}
use Rattle.kex_code.specs.declared.symbol.Symbol.TheVariants.{L}
use Rattle.kex_sst.specs.declared.parts.Part.TheVariants.{Put}
use Rattle.kex_constants.specs.Clearing.{parts_for}
use Rattle.kex_constants.proofs.Lists.{replaced_more}
use Rattle.kex_constants.proofs.rewrite.replace.Goals as goal

pub loop-part-preserved : goal.loop-part-preserved
loop-part-preserved c =
    c.in_ok-put.ensures
    ∙ ap (λ z. z ++ parts_for c.args.known.now (get_or c.as_slice-part-items.result.now c.loop-part.part-index (Put L))) c.loop-part.invariant
    ∙ sym (replaced_more c.args.known.now c.as_slice-part-items.result.now c.loop-part.part-index c.loop-part-test.true)
