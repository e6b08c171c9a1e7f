use Rattle.std.proofs.Common.{◌++◌, [], ◌∷◌, sym, ap, ◌∙◌, append_assoc, get_or, take}
use Rattle.kex_machine.specs.declared.Bit.TheVariants.{L}
use Rattle.kex_machine.specs.Nodes.{side_of}
use Rattle.kex_model.specs.Moves.{symbol_of}
use Rattle.kex_sst.specs.declared.parts.Part.TheVariants.{Put}
use Rattle.kex_constants.specs.Clearing.{puts_bits}
use Rattle.kex_constants.proofs.Lists.{puts_more}
use Rattle.kex_constants.proofs.rewrite.put_choices.Goals as goal

pub loop-side-preserved : goal.loop-side-preserved
loop-side-preserved c =
    c.in_ok-push.ensures.added
    ∙ ap (λ z. c.loop-side.into ++ Put z ∷ []) c.from.ensures
    ∙ ap (λ z. z ++ Put (symbol_of (side_of (get_or c.args.choices.now c.loop-side.side-index L))) ∷ []) c.loop-side.invariant
    ∙ append_assoc c.args.into.now (puts_bits (take c.loop-side.side-index c.args.choices.now)) (Put (symbol_of (side_of (get_or c.args.choices.now c.loop-side.side-index L))) ∷ [])
    ∙ ap (λ z. c.args.into.now ++ z) (sym (puts_more c.args.choices.now c.loop-side.side-index c.loop-side-test.true))
