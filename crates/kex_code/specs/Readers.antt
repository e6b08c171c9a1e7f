-- What a reader of codes has read: the bytes that it was fed, and the symbols that it has given.
use Rattle.std.specs.Prelude.{◌≡◌, ℕ, suc, Bool, true, false, length, List, ◌++◌, take}
use Rattle.kex_code.specs.declared.symbol.Symbol.{Symbol}
use Rattle.kex_code.specs.declared.reader.CodeError.{CodeError}
use Rattle.kex_code.specs.declared.reader.CodeError.TheVariants.{Bad, Memory}
use Rattle.kex_code.specs.Codes.{Begins}
use Rattle.kex_code.specs.Texts.{BeginsText, SpellsCode}

-- a reader: what is begun of a symbol, how many bytes were good, whether one was bad, and whether
-- no call has answered want of memory
pub record CodeReading : Type 0 where
  pub begun : List ℕ
  pub good : ℕ
  pub bad : Bool
  pub usable : Bool

-- the reader was fed w, and has given c: the whole symbols of the good bytes; after those comes the
-- bad byte, if there was one: with it no code's text begins
pub record ReaderHasRead (r : CodeReading) (w : List ℕ) (c : List Symbol) : Type 0 where
  pub spells : SpellsCode (take r.good w) c r.begun
  pub all : r.bad ≡ false → r.good ≡ length w
  pub none : r.bad ≡ true → BeginsText (take (suc r.good) w) → ⊥

-- a piece more was fed, and these symbols given for it
pub record ReadOn (old new : CodeReading) (piece : List ℕ)
    (before after : List Symbol) : Type 0 where
  pub symbols : List Symbol
  pub given : after ≡ before ++ symbols
  pub read : (w : List ℕ) (c : List Symbol) → ReaderHasRead old w c
      → ReaderHasRead new (w ++ piece) (c ++ symbols)

-- what a fault leaves: at a bad byte all before it is read; without memory some symbols may be
-- given
abbrev pub FaultLeaves : CodeError → CodeReading → CodeReading → List ℕ → List Symbol → List Symbol
    → Type 0
FaultLeaves (Bad fault) old new piece before after = ReadOn old new piece before after
    × (new.bad ≡ true) × (new.good ≡ fault.at)
FaultLeaves Memory old new piece before after = Begins after before
