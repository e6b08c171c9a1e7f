-- What the registers of a state are known to hold whenever it is entered.
use Rattle.std.specs.Prelude.{◌≡◌, ℕ, zero, suc, ◌<◌, List, [], ◌∷◌, Option, Some, None, length}
use Rattle.std.specs.Prelude.{get_or}
use Rattle.kex_code.specs.declared.symbol.Symbol.{Symbol}
use Rattle.kex_model.specs.Moves.{symbol_of}
use Rattle.kex_machine.specs.declared.Bit.{Bit}
use Rattle.kex_machine.specs.Nodes.{side_of}

-- the choices of each register that has a constant, by register; no register past the end has one
abbrev pub Constants : Type 0
Constants = List (Option (List Bit))

-- the code of these choices
abbrev pub symbols : List Bit → List Symbol
symbols [] = []
symbols (x ∷ xs) = symbol_of (side_of x) ∷ symbols xs

-- each register that has a constant holds it
abbrev pub Hold : Constants → List (List Symbol) → Type 0
Hold cs regs = (i : ℕ) (c : List Bit) → get_or cs i None ≡ Some c → get_or regs i [] ≡ symbols c

-- of a list by register what belongs to the registers that no constant is known of, in order
abbrev pub kept_items : {A : Type 0} → Constants → List A → List A
kept_items [] xs = xs
kept_items (c ∷ cs) [] = []
kept_items (Some c ∷ cs) (x ∷ xs) = kept_items cs xs
kept_items (None ∷ cs) (x ∷ xs) = x ∷ kept_items cs xs

-- the same for one register
abbrev pub item_if_kept : {A : Type 0} → Option (List Bit) → A → List A
item_if_kept None x = x ∷ []
item_if_kept (Some c) x = []

-- the number of a register among those that are kept
abbrev pub kept_number : Constants → ℕ → ℕ
kept_number [] i = i
kept_number (c ∷ cs) zero = 0
kept_number (Some c ∷ cs) (suc i) = kept_number cs i
kept_number (None ∷ cs) (suc i) = suc (kept_number cs i)

abbrev pub one_if_kept : Option (List Bit) → ℕ
one_if_kept None = 1
one_if_kept (Some c) = 0

-- the new numbers of all these registers, and of the next that there would be
pub record AreNumbers (cs : Constants) (ns : List ℕ) : Type 0 where
  pub count : length ns ≡ suc (length cs)
  pub each : (i : ℕ) → i < length ns → get_or ns i 0 ≡ kept_number cs i
