-- Registers, and the pieces that one is made of.
use Rattle.std.specs.Prelude.{ℕ, List, [], ◌∷◌, ◌++◌, get_or, slice_set}
use Rattle.kex_code.specs.declared.piece.Piece.{Piece}
use Rattle.kex_code.specs.declared.piece.Piece.TheVariants.{Lit, Register}

-- what the registers hold, in the order of their numbers
abbrev pub Registers : Type 0
Registers = List (List ℕ)

abbrev pub content_of : Registers → ℕ → List ℕ
content_of regs r = get_or regs r []

abbrev pub with_content : Registers → ℕ → List ℕ → Registers
with_content regs r s = slice_set regs r s

-- the parts joined
abbrev pub pieces_text : List Piece → Registers → List ℕ
pieces_text [] regs = []
pieces_text (Lit s ∷ parts) regs = s ++ pieces_text parts regs
pieces_text (Register r ∷ parts) regs = content_of regs r ++ pieces_text parts regs
