use Rattle.std.proofs.Common.{[], ◌+◌, get_or, refl, take, ◌∙◌}
use Rattle.kex_code.specs.declared.symbol.Symbol.TheVariants.{L}
use Rattle.kex_sst.specs.declared.parts.Part.TheVariants.{Put}
use Rattle.kex_sst.specs.Parts.{parts_code, value}
use Rattle.kex_runner.proofs.Notes.{meant_more}
use Rattle.kex_single.proofs.TableCodes.{text_on}
use Rattle.kex_single.proofs.table_codes.write_word.Goals as goal

pub loop-part-preserved : goal.loop-part-preserved
loop-part-preserved c =
    let i = c.loop-part.part-index in
    let word = c.args.word.now in
    let b = c.args.byte in
    c.in_ok-write_part.ensures ∙ text_on c.args.out.now.items c.loop-part.out.items (parts_code [] b (take i word)) (value [] b (get_or word i (Put L))) (parts_code [] b (take (i + 1) word)) c.loop-part.invariant (meant_more [] b word i (Put L) [] (parts_code [] b (take i word)) c.loop-part-test.true refl)
