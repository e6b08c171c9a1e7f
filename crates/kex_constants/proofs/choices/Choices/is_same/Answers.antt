use Rattle.std.proofs.Common.{◌≡◌, refl, sym, ◌∙◌}
use Rattle.std.specs.Bool.{Decides}
use Rattle.std.proofs.lemmas.Slice.Eq.{slice_eq-Decides}
use Rattle.kex_machine.specs.declared.Bit.{Bit}
use Rattle.kex_machine.specs.declared.Bit.TheVariants.{L, R}
use Rattle.kex_machine.specs.contracts.BitPartialEq.TheImpl as derived
use Rattle.kex_constants.proofs.choices.Choices.is_same.Goals as goal

sides_decide : (a b : Bit) → Decides (derived.eq-value.it a b) (a ≡ b)
sides_decide L L = (λ e. refl, λ e. refl)
sides_decide L R = (λ e. cc, λ e. cc)
sides_decide R L = (λ e. cc, λ e. cc)
sides_decide R R = (λ e. refl, λ e. refl)

pub returns : goal.returns
returns c =
    let here = c.as_slice.ensures.value ∙ c.self.view_is in
    let there = c.as_slice-2.ensures.value ∙ c.other.view_is in
    let same = slice_eq-Decides sides_decide c.as_slice.result.now c.as_slice-2.result.now c.eq.result c.eq.ensures in (
      (λ h. sym here ∙ same.0 h ∙ there),
      (λ e. same.1 (here ∙ e ∙ sym there)),
    )
