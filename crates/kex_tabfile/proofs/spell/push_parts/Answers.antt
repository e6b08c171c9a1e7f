use Rattle.std.proofs.Common.{◌++◌, take, get_or, sym, ap, ◌∙◌}
use Rattle.std.proofs.lemmas.List.{take_more}
use Rattle.kex_sst.specs.declared.parts.Part.TheVariants.{Put}
use Rattle.kex_code.specs.declared.symbol.Symbol.TheVariants.{L}
use Rattle.kex_tabfile.specs.Lines.{part_text, parts_text}
use Rattle.kex_tabfile.proofs.UpdateTexts.{parts_more}
use Rattle.kex_tabfile.proofs.spell.push_parts.Goals as goal

pub loop-part-preserved : goal.loop-part-preserved
loop-part-preserved c =
    let front = take c.loop-part.part-index c.args.parts.now in
    let x = get_or c.args.parts.now c.loop-part.part-index (Put L) in
    c.in_ok-push_part.ensures ∙ ap (λ z. z ++ part_text x) c.loop-part.invariant ∙ parts_more c.args.line.now.items front x ∙ ap (λ z. c.args.line.now.items ++ parts_text z) (sym (take_more c.args.parts.now c.loop-part.part-index (Put L) c.loop-part-test.true))
