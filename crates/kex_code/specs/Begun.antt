-- What is begun of a symbol's text, and what a byte makes of it.
use Rattle.std.specs.Prelude.{◌≡◌, ℕ, ◌<◌, List, [], ◌∷◌, ◌++◌}
use Rattle.std.specs.Char.{digit_char}
use Rattle.kex_code.specs.declared.reader.Begun.{Begun}
use Rattle.kex_code.specs.declared.reader.Begun.TheVariants.{Nothing, Quote, Digit}
use Rattle.kex_code.specs.declared.reader.ReaderStep.{ReaderStep}
use Rattle.kex_code.specs.declared.reader.ReaderStep.TheVariants.{Open, Whole, Wrong}
use Rattle.kex_code.specs.Texts.{apostrophe, text_of, IsCode, BeginsText}

abbrev pub text_begun : Begun → List ℕ
text_begun Nothing = []
text_begun Quote = apostrophe ∷ []
text_begun (Digit v) = apostrophe ∷ digit_char v ∷ []

-- the digit is one
abbrev pub IsPart : Begun → Type 0
IsPart Nothing = Unit {0}
IsPart Quote = Unit {0}
IsPart (Digit v) = v < 16

-- what is begun and the byte are the text of this
abbrev pub StepsTo : Begun → ℕ → ReaderStep → Type 0
StepsTo begun b (Open more) = (text_begun begun ++ b ∷ [] ≡ text_begun more) × IsPart more
StepsTo begun b (Whole x) = (text_begun begun ++ b ∷ [] ≡ text_of (x ∷ [])) × IsCode (x ∷ [])
StepsTo begun b Wrong = BeginsText (text_begun begun ++ b ∷ []) → ⊥
