-- What a player stands for, and what it takes of a text.
use Rattle.std.specs.Prelude.{◌≡◌, ◌↔◌, ◌+◌, ◌-◌, ◌^◌, ℕ, Bool, true, false, IsTrue, List, []}
use Rattle.std.specs.Prelude.{Option, Some, None, length, min, take}
use Rattle.kex_code.specs.declared.symbol.Symbol.{Symbol}
use Rattle.kex_code.specs.Readers.{ReaderHasRead, ReadOn, CodeReading}
use Rattle.kex_code.specs.Texts.{text_of}
use Rattle.kex_action.specs.Actors.{BeginsRun, HasPerformed, IsWholeCode, Position, StoppedAt}
use Rattle.kex_action.specs.Actors.{TookAll}
use Rattle.kex_machine.specs.Nodes.{Graph}

-- the text was read, its whole symbols were performed, and this was written
pub record PlayFollows (g : Graph) (r : CodeReading) (a : Position) (size : ℕ)
    (w text : List ℕ) : Type 0 where
  pub code : List Symbol
  pub spelt : ReaderHasRead r w code
  pub good : r.bad ≡ false
  pub performed : HasPerformed a code code text
  pub begins : BeginsRun g code
  pub long : size ≡ length (text_of code)

-- a piece more of the text, up to the byte of this number where one is bad
abbrev pub TakesText : Option ℕ → CodeReading → CodeReading → List ℕ → List Symbol → List Symbol
    → Type 0
TakesText None old new piece before after = ReadOn old new piece before after × (new.bad ≡ false)
TakesText (Some at) old new piece before after = ReadOn old new piece before after
    × (new.bad ≡ true) × (new.good ≡ at)

-- symbols are performed, up to the one of this number where one is refused
abbrev pub RefusesSymbol : Option ℕ → Position → Position → List Symbol → List ℕ → List ℕ → Type 0
RefusesSymbol None old new symbols before after = TookAll old new symbols before after
RefusesSymbol (Some i) old new symbols before after = StoppedAt i old new symbols before after

-- the first byte of the symbol that is refused, or else the byte that is
abbrev pub BadAt : Option ℕ → Option ℕ → ℕ → List Symbol → Option ℕ → Type 0
BadAt (Some i) bad size symbols at =
    at ≡ Some (min (size + length (text_of (take i symbols))) (2 ^ 64 - 1))
BadAt None bad size symbols at = at ≡ bad

-- nothing is begun or bad, and the code is a tree's whole code
abbrev pub IsWholeOf : CodeReading → Position → Bool → Type 0
IsWholeOf r a whole = (c : List Symbol) (out : List ℕ) → HasPerformed a c c out
    → (IsTrue whole ↔ ((r.bad ≡ false) × (r.begun ≡ []) × IsWholeCode a.machine c))
