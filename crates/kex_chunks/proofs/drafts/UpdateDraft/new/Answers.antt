use Rattle.std.proofs.Common.{◌≡◌, ◌+◌, ◌++◌, ◌∷◌, [], sym, ap, ap₂, ◌∙◌, arith}
use Rattle.kex_sst.specs.declared.parts.Part.TheVariants.{Old}
use Rattle.kex_sst.specs.Series.{olds_from}
use Rattle.kex_chunks.proofs.MovedLists.{olds_more}
use Rattle.kex_chunks.proofs.drafts.UpdateDraft.new.Goals as goal

pub registers-preserved : goal.registers-preserved
registers-preserved c =
    let n = c.registers.register in
    let here : n ≡ 0 + n = omega arith in
    c.in_ok-push-2.ensures.items
    ∙ ap₂ (λ y z. y ++ z ∷ []) c.registers.invariant (c.in_ok-push.ensures.added ∙ ap (λ z. z ++ Old n ∷ []) c.new-parts.ensures)
    ∙ ap (λ z. olds_from 0 n ++ (Old z ∷ []) ∷ []) here
    ∙ sym (olds_more 0 n)
