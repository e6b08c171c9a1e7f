use Rattle.std.proofs.Common.{◌∙◌, ◌++◌, [], get_or, take, sym, ap, append_assoc}
use Rattle.std.proofs.lemmas.List.{take_more}
use Rattle.kex_code.specs.declared.symbol.Symbol.TheVariants.{L}
use Rattle.kex_sst.specs.declared.parts.Part.TheVariants.{Put}
use Rattle.kex_sst.specs.Parts.{value, parts_code}
use Rattle.kex_moves.proofs.PieceRuns.{meant_more}
use Rattle.kex_moves.proofs.spell.spell.Goals as goal

pub loop-part-preserved : goal.loop-part-preserved
loop-part-preserved c =
    let b = c.args.piece.byte in
    let parts = c.as_slice-part-items.result.now in
    let i = c.loop-part.part-index in
    let front = take i parts in
    let part = get_or parts i (Put L) in
    let old = c.args.symbols.now.items in
    c.in_ok-push_part.ensures {u = tt}
    ∙ ap (λ l. l ++ value [] b part) c.loop-part.invariant
    ∙ append_assoc old (parts_code [] b front) (value [] b part)
    ∙ ap (λ l. old ++ l) (sym (meant_more b front part) ∙ ap (parts_code [] b) (sym (take_more parts i (Put L) c.loop-part-test.true)))
