-- The text of a code, and what a text spells.
use Rattle.std.specs.Prelude.{◌≡◌, ℕ, ◌<◌, ◌/◌, ◌%◌, List, [], ◌∷◌, ◌++◌}
use Rattle.std.specs.Char.{digit_char}
use Rattle.kex_code.specs.declared.symbol.Symbol.{Symbol}
use Rattle.kex_code.specs.declared.symbol.Symbol.TheVariants.{L, R, Byte}
use Rattle.kex_code.specs.Codes.{Begins}

abbrev pub apostrophe : ℕ
apostrophe = 39

-- the text of a code: 0 for the left side, 1 for the right one, and for a byte ' with two
-- lower-case hexadecimal digits
abbrev pub text_of : List Symbol → List ℕ
text_of [] = []
text_of (L ∷ c) = digit_char 0 ∷ text_of c
text_of (R ∷ c) = digit_char 1 ∷ text_of c
text_of (Byte b ∷ c) = apostrophe ∷ digit_char (b / 16) ∷ digit_char (b % 16) ∷ text_of c

-- each byte in the code is one
abbrev pub IsCode : List Symbol → Type 0
IsCode [] = Unit {0}
IsCode (L ∷ c) = IsCode c
IsCode (R ∷ c) = IsCode c
IsCode (Byte b ∷ c) = (b < 256) × IsCode c

-- w is the text of a code
abbrev pub IsText : List ℕ → Type 0
IsText w = (c : List Symbol) × IsCode c × (w ≡ text_of c)

-- some code's text begins with w
abbrev pub BeginsText : List ℕ → Type 0
BeginsText w = (c : List Symbol) × IsCode c × Begins (text_of c) w

-- a front of a symbol's text that isn't all of it
abbrev pub IsBegun : List ℕ → Type 0
IsBegun s = (x : Symbol) × (next : ℕ) × (more : List ℕ) × IsCode (x ∷ [])
    × (text_of (x ∷ []) ≡ s ++ next ∷ more)

-- w is the text of the whole symbols c, and then what is begun of one more
pub record SpellsCode (w : List ℕ) (c : List Symbol) (begun : List ℕ) : Type 0 where
  pub text : w ≡ text_of c ++ begun
  pub code : IsCode c
  pub front : IsBegun begun
