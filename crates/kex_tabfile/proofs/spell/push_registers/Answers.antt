use Rattle.std.proofs.Common.{◌++◌, ◌∷◌, [], take, sym, ap, ap₂, ◌∙◌}
use Rattle.std.specs.Prelude.{codes}
use Rattle.std.proofs.lemmas.List.{take_more}
use Rattle.kex_tabfile.specs.Lines.{parts_text, registers_text}
use Rattle.kex_tabfile.proofs.UpdateTexts.{registers_more}
use Rattle.kex_tabfile.proofs.spell.push_registers.Goals as goal

pub loop-parts-preserved : goal.loop-parts-preserved
loop-parts-preserved c =
    let xs = c.args.registers.now in
    let i = c.loop-parts.parts-index in
    let x = c.parts-item.result in
    let line = c.args.line.now.items in
    c.in_ok-push_parts.ensures
    ∙ ap₂ (λ u v. u ++ parts_text v) (c.in_ok-push.ensures.items ∙ ap (λ z. z ++ codes ",") c.loop-parts.invariant) c.as_slice.ensures
    ∙ registers_more line (take i xs) x
    ∙ ap (λ z. line ++ registers_text z) (sym (take_more xs i x c.loop-parts-test.true ∙ ap (λ z. take i xs ++ z ∷ []) (sym c.parts-item.is)))
