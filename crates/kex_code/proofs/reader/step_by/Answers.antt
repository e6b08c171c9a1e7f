use Rattle.std.proofs.Common.{◌∷◌, ◌++◌, [], subst, sym, arith}
use Rattle.kex_code.specs.Texts.{BeginsText}
use Rattle.kex_code.specs.Begun.{text_begun}
use Rattle.kex_code.proofs.Texts.{no_first, no_digit, no_second_digit}
use Rattle.kex_code.proofs.reader.step_by.Goals as goal

pub returns-in_default : goal.returns-in_default
returns-in_default c = subst (λ p. BeginsText (text_begun p ++ c.args.byte ∷ []) → ⊥) (sym c.in-Nothing.is) (no_first c.args.byte (λ h. omega (arith, c.in_default)) (λ h. omega (arith, c.in_default)) (λ h. omega (arith, c.in_default)))

pub returns-in-None : goal.returns-in-None
returns-in-None c = subst (λ p. BeginsText (text_begun p ++ c.args.byte ∷ []) → ⊥) (sym c.in-Quote.is) (no_digit c.args.byte c.in-None.ensures.none)

pub returns-in-None-value_of : goal.returns-in-None-value_of
returns-in-None-value_of c = subst (λ p. BeginsText (text_begun p ++ c.args.byte ∷ []) → ⊥) (sym c.in-Digit.is) (no_second_digit c.in-Digit.high c.args.byte c.in-None-value_of.ensures.none)
