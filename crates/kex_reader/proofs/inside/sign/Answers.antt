use Rattle.std.proofs.Common.{true, false, inl, refl}
use Rattle.kex_reader.proofs.Steps.{to, wrong, sign_other, sign_arrow, sign_plus}
use Rattle.kex_reader.proofs.Modes.{assigning_on}
use Rattle.kex_reader.proofs.inside.sign.Goals as goal

pub returns-in-Arrow : goal.returns-in-Arrow
returns-in-Arrow c = record { held = λ x e. inl e; step = λ made place base fs es r b h a k. to made place base fs _ _ _ (sign_arrow r es c.args.kind b c.in-Arrow.is) (assigning_on made place base fs es (record { at = c.args.at; append = false; register = c.args.register; pieces = c.new.result }) false r h a refl k c.new.ensures.items) }

pub returns-in-PlusEquals : goal.returns-in-PlusEquals
returns-in-PlusEquals c = record { held = λ x e. inl e; step = λ made place base fs es r b h a k. to made place base fs _ _ _ (sign_plus r es c.args.kind b c.in-PlusEquals.is) (assigning_on made place base fs es (record { at = c.args.at; append = true; register = c.args.register; pieces = c.new-in-PlusEquals.result }) true r h a refl k c.new-in-PlusEquals.ensures.items) }

pub returns-in_default : goal.returns-in_default
returns-in_default c = record { held = tt; step = λ made place base fs es r b h a k. to made place base fs _ _ _ (sign_other r es c.args.kind b c.in_default.not-Arrow c.in_default.not-PlusEquals) (wrong made place base fs) }
