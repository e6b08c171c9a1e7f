use Rattle.std.proofs.Common.{◌++◌, [], ◌∷◌, sym, ap, ◌∙◌}
use Rattle.kex_sst.specs.Parts.{value}
use Rattle.kex_constants.specs.Known.{symbols}
use Rattle.kex_constants.proofs.Lists.{symbols-append}
use Rattle.kex_constants.proofs.check.spell.Goals as goal

pub returns-in_ok-push-in-Some : goal.returns-in_ok-push-in-Some
returns-in_ok-push-in-Some c = λ t regs b h.
    ap symbols c.in_ok-push-in-Some.ensures
    ∙ symbols-append c.args.into.now (c.in-Some.side ∷ [])
    ∙ ap (λ z. symbols c.args.into.now ++ z ∷ []) c.in-Some.ensures
    ∙ ap (λ z. symbols c.args.into.now ++ value regs b z) (sym c.in-Put.is)

pub returns-in_ok-append-in-Some-constant_of : goal.returns-in_ok-append-in-Some-constant_of
returns-in_ok-append-in-Some-constant_of c = λ t regs b h.
    ap symbols c.in_ok-append-in-Some-constant_of.ensures
    ∙ symbols-append c.args.into.now c.in-Some-constant_of.constant.now
    ∙ ap (λ z. symbols c.args.into.now ++ z) (sym (h c.in-Old.register c.in-Some-constant_of.constant.now c.in-Some-constant_of.ensures.some))
    ∙ ap (λ z. symbols c.args.into.now ++ value regs b z) (sym c.in-Old.is)
