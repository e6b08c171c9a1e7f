-- Trees of a program's nodes: what they derive, their codes, their meaning, and a part of it.
use Rattle.std.specs.Prelude.{◌≡◌, ℕ, zero, suc, pred, ◌==◌, Bool, false, List, [], ◌∷◌, ◌++◌}
use Rattle.std.specs.Prelude.{Option, Some, None, get_or, slice_get, find, IsTrue}
use Rattle.kex_code.specs.declared.symbol.Symbol.{Symbol}
use Rattle.kex_code.specs.declared.symbol.Symbol.TheVariants.{L, R, Byte}
use Rattle.kex_code.specs.declared.piece.Piece.{Piece}
use Rattle.kex_code.specs.Registers.{Registers, content_of, with_content, pieces_text}
use Rattle.kex_model.specs.declared.program.Kind.{Kind}
use Rattle.kex_model.specs.declared.program.Kind.TheVariants.{One, Lit, Class, Call, Seq, Alt, Rep}
use Rattle.kex_model.specs.declared.program.Kind.TheVariants.{Mute, At, Write, Set, Add}
use Rattle.kex_model.specs.declared.program.Node.{Node}
use Rattle.kex_model.specs.declared.program.Definition.{Definition}
use Rattle.kex_model.specs.Programs.{Grammar}
use Rattle.kex_model.specs.Moves.{symbol_of, turn_side, end_side}

abbrev kind_of : Option Node → Kind
kind_of None = One
kind_of (Some n) = n.kind

-- a node's kind
abbrev pub kind_at : Grammar → ℕ → Kind
kind_at P n = kind_of (slice_get P.nodes n)

abbrev root_in : Option Definition → ℕ
root_in None = 0
root_in (Some d) = d.root

-- the root of a name's definition (K08 refuses a name that has none)
abbrev pub root_of : Grammar → ℕ → ℕ
root_of P name = root_in (find (λ d. d.name == name) P.definitions)

-- one turn less is left
abbrev pub less : Option ℕ → Option ℕ
less None = None
less (Some n) = Some (pred n)

-- another turn is left
abbrev pub IsLeft : Option ℕ → Type 0
IsLeft None = Unit {0}
IsLeft (Some zero) = ⊥
IsLeft (Some (suc n)) = Unit {0}

-- a finite tree; the items of a repetition are turns, one after another, and then done
pub data Tree : Type 0 where
  leaf : Tree
  byte : ℕ → Tree
  pair : Tree → Tree → Tree
  chose_left : Tree → Tree
  chose_right : Tree → Tree
  inner : Tree → Tree
  turn : Tree → Tree → Tree
  done : Tree

-- the tree is one of a node of this kind
pub data IsTree (P : Grammar) : Kind → Tree → Type 0 where
  one : IsTree P One leaf
  lit : {s : List ℕ} → IsTree P (Lit s) leaf
  one_byte : {set : List Bool} {b : ℕ} → IsTrue (get_or set b false) → IsTree P (Class set) (byte b)
  call : {name : ℕ} {a : Tree} → IsTree P (kind_at P (root_of P name)) a
      → IsTree P (Call name) (inner a)
  seq : {l r : ℕ} {a b : Tree} → IsTree P (kind_at P l) a → IsTree P (kind_at P r) b
      → IsTree P (Seq l r) (pair a b)
  alt_left : {l r : ℕ} {a : Tree} → IsTree P (kind_at P l) a → IsTree P (Alt l r) (chose_left a)
  alt_right : {l r : ℕ} {a : Tree} → IsTree P (kind_at P r) a → IsTree P (Alt l r) (chose_right a)
  -- a turn that is needed, one that isn't, and the end, with min and max as what is still needed
  -- and left
  needed : {body min : ℕ} {max : Option ℕ} {lazy : Bool} {a rest : Tree}
      → IsTree P (kind_at P body) a → IsTree P (Rep body min (less max) lazy) rest
      → IsTree P (Rep body (suc min) max lazy) (turn a rest)
  again : {body : ℕ} {max : Option ℕ} {lazy : Bool} {a rest : Tree} → IsLeft max
      → IsTree P (kind_at P body) a → IsTree P (Rep body zero (less max) lazy) rest
      → IsTree P (Rep body zero max lazy) (turn a rest)
  end : {body : ℕ} {max : Option ℕ} {lazy : Bool} → IsTree P (Rep body zero max lazy) done
  mute : {n : ℕ} {a : Tree} → IsTree P (kind_at P n) a → IsTree P (Mute n) (inner a)
  at_register : {r n : ℕ} {a : Tree} → IsTree P (kind_at P n) a → IsTree P (At r n) (inner a)
  write_register : {r : ℕ} → IsTree P (Write r) leaf
  set_register : {r : ℕ} {parts : List Piece} → IsTree P (Set r parts) leaf
  add_register : {r : ℕ} {parts : List Piece} → IsTree P (Add r parts) leaf

-- the text that a tree derives
abbrev pub yield_of : Tree → List ℕ
yield_of leaf = []
yield_of (byte b) = b ∷ []
yield_of (pair a b) = yield_of a ++ yield_of b
yield_of (chose_left a) = yield_of a
yield_of (chose_right a) = yield_of a
yield_of (inner a) = yield_of a
yield_of (turn a rest) = yield_of a ++ yield_of rest
yield_of done = []

-- the tree derives the text from the node
pub record Parses (P : Grammar) (n : ℕ) (t : Tree) (w : List ℕ) : Type 0 where
  pub tree : IsTree P (kind_at P n) t
  pub text : yield_of t ≡ w

-- the mark before a turn: none while turns are needed
abbrev pub turn_mark : Bool → ℕ → List Symbol
turn_mark lazy zero = symbol_of (turn_side lazy) ∷ []
turn_mark lazy (suc n) = []

-- the mark of the end: none where no turn is left
abbrev pub end_mark : Bool → Option ℕ → List Symbol
end_mark lazy None = symbol_of (end_side lazy) ∷ []
end_mark lazy (Some zero) = []
end_mark lazy (Some (suc n)) = symbol_of (end_side lazy) ∷ []

-- the code of a tree of this kind
abbrev pub code : Grammar → Kind → Tree → List Symbol
code P (Class set) (byte b) = Byte b ∷ []
code P (Call name) (inner a) = code P (kind_at P (root_of P name)) a
code P (Seq l r) (pair a b) = code P (kind_at P l) a ++ code P (kind_at P r) b
code P (Alt l r) (chose_left a) = L ∷ code P (kind_at P l) a
code P (Alt l r) (chose_right a) = R ∷ code P (kind_at P r) a
code P (Rep body min max lazy) (turn a rest) = turn_mark lazy min
    ++ (code P (kind_at P body) a ++ code P (Rep body (pred min) (less max) lazy) rest)
code P (Rep body min max lazy) done = end_mark lazy max
code P (Mute n) (inner a) = code P (kind_at P n) a
code P (At r n) (inner a) = code P (kind_at P n) a
code P _ _ = []

-- bytes that are written, and the registers after it
pub record Meaning : Type 0 where
  pub bytes : List ℕ
  pub registers : Registers

abbrev pub then_also : Meaning → (Registers → Meaning) → Meaning
then_also m next =
    record { bytes = m.bytes ++ (next m.registers).bytes; registers = (next m.registers).registers }

abbrev pub muted_meaning : Meaning → Meaning
muted_meaning m = record { bytes = []; registers = m.registers }

abbrev pub kept_meaning : ℕ → Meaning → Meaning
kept_meaning r m = record { bytes = []; registers = with_content m.registers r m.bytes }

-- the meaning of a tree of this kind
abbrev pub meaning : Grammar → Kind → Tree → Registers → Meaning
meaning P (Lit s) leaf regs = record { bytes = s; registers = regs }
meaning P (Class set) (byte b) regs = record { bytes = b ∷ []; registers = regs }
meaning P (Call name) (inner a) regs = meaning P (kind_at P (root_of P name)) a regs
meaning P (Seq l r) (pair a b) regs =
    then_also (meaning P (kind_at P l) a regs) (meaning P (kind_at P r) b)
meaning P (Alt l r) (chose_left a) regs = meaning P (kind_at P l) a regs
meaning P (Alt l r) (chose_right a) regs = meaning P (kind_at P r) a regs
meaning P (Rep body min max lazy) (turn a rest) regs = then_also (meaning P (kind_at P body) a regs)
    (meaning P (Rep body (pred min) (less max) lazy) rest)
meaning P (Mute n) (inner a) regs = muted_meaning (meaning P (kind_at P n) a regs)
meaning P (At r n) (inner a) regs = kept_meaning r (meaning P (kind_at P n) a regs)
meaning P (Write r) leaf regs = record { bytes = content_of regs r; registers = regs }
meaning P (Set r parts) leaf regs =
    record { bytes = []; registers = with_content regs r (pieces_text parts regs) }
meaning P (Add r parts) leaf regs = record {
  bytes = [];
  registers = with_content regs r (content_of regs r ++ pieces_text parts regs);
}
meaning P _ _ regs = record { bytes = []; registers = regs }

-- what is written with a part of a code, and what of the code is left, or none where a symbol was
-- lacking
pub record PartMeaning : Type 0 where
  pub bytes : List ℕ
  pub registers : Registers
  pub rest : Option (List Symbol)

-- goes on after a mark, or stops where the code lacks it
abbrev pub part_behind : List Symbol → List Symbol → Registers → (List Symbol → PartMeaning)
    → PartMeaning
part_behind [] c regs next = next c
part_behind (x ∷ mark) [] regs next = record { bytes = []; registers = regs; rest = None }
part_behind (x ∷ mark) (y ∷ c) regs next = next c

-- goes on with what is left of the code, if it didn't stop
abbrev pub go_on : List ℕ → Registers → Option (List Symbol)
    → (List Symbol → Registers → PartMeaning) → PartMeaning
go_on bytes regs None next = record { bytes = bytes; registers = regs; rest = None }
go_on bytes regs (Some c) next = record {
  bytes = bytes ++ (next c regs).bytes;
  registers = (next c regs).registers;
  rest = (next c regs).rest;
}

abbrev pub then_part : PartMeaning → (List Symbol → Registers → PartMeaning) → PartMeaning
then_part p next = go_on p.bytes p.registers p.rest next

abbrev pub muted_part : PartMeaning → PartMeaning
muted_part p = record { bytes = []; registers = p.registers; rest = p.rest }

-- the register keeps what it had where the part stopped
abbrev pub put_whole : Registers → ℕ → List ℕ → Option (List Symbol) → Registers
put_whole regs r s None = regs
put_whole regs r s (Some c) = with_content regs r s

abbrev pub kept_part : ℕ → PartMeaning → PartMeaning
kept_part r p =
    record { bytes = []; registers = put_whole p.registers r p.bytes p.rest; rest = p.rest }

-- what a tree of this kind writes with a code that it begins with
abbrev pub part_meaning : Grammar → Kind → Tree → List Symbol → Registers → PartMeaning
part_meaning P (Lit s) leaf c regs = record { bytes = s; registers = regs; rest = Some c }
part_meaning P (Class set) (byte b) c regs = part_behind (Byte b ∷ []) c regs (λ d.
    record { bytes = b ∷ []; registers = regs; rest = Some d })
part_meaning P (Call name) (inner a) c regs = part_meaning P (kind_at P (root_of P name)) a c regs
part_meaning P (Seq l r) (pair a b) c regs =
    then_part (part_meaning P (kind_at P l) a c regs) (part_meaning P (kind_at P r) b)
part_meaning P (Alt l r) (chose_left a) c regs =
    part_behind (L ∷ []) c regs (λ d. part_meaning P (kind_at P l) a d regs)
part_meaning P (Alt l r) (chose_right a) c regs =
    part_behind (R ∷ []) c regs (λ d. part_meaning P (kind_at P r) a d regs)
part_meaning P (Rep body min max lazy) (turn a rest) c regs =
    part_behind (turn_mark lazy min) c regs (λ d. then_part (part_meaning P
    (kind_at P body) a d regs) (part_meaning P (Rep body (pred min) (less max) lazy) rest))
part_meaning P (Rep body min max lazy) done c regs = part_behind (end_mark lazy max) c regs (λ d.
    record { bytes = []; registers = regs; rest = Some d })
part_meaning P (Mute n) (inner a) c regs = muted_part (part_meaning P (kind_at P n) a c regs)
part_meaning P (At r n) (inner a) c regs = kept_part r (part_meaning P (kind_at P n) a c regs)
part_meaning P (Write r) leaf c regs =
    record { bytes = content_of regs r; registers = regs; rest = Some c }
part_meaning P (Set r parts) leaf c regs =
    record { bytes = []; registers = with_content regs r (pieces_text parts regs); rest = Some c }
part_meaning P (Add r parts) leaf c regs = record {
  bytes = [];
  registers = with_content regs r (content_of regs r ++ pieces_text parts regs);
  rest = Some c;
}
part_meaning P _ _ c regs = record { bytes = []; registers = regs; rest = Some c }
