-- What a program is: nodes by number, names, definitions, stages, and a count of registers.
use Rattle.std.specs.Prelude.{◌≡◌, ℕ, ◌<◌, ◌≤◌, List, Option, Some, None, slice_get, length}
use Rattle.kex_code.specs.Codes.{IsAmong}
use Rattle.kex_code.specs.declared.piece.Piece.{Piece}
use Rattle.kex_code.specs.declared.piece.Piece.TheVariants.{Register}
use Rattle.kex_model.specs.declared.program.Kind.{Kind}
use Rattle.kex_model.specs.declared.program.Kind.TheVariants.{Call, Seq, Alt, Rep, Mute, At, Write}
use Rattle.kex_model.specs.declared.program.Kind.TheVariants.{Set, Add}
use Rattle.kex_model.specs.declared.program.Node.{Node}
use Rattle.kex_model.specs.declared.program.Definition.{Definition}
use Rattle.kex_model.specs.declared.program.Start.{Start}

pub record Grammar : Type 0 where
  pub nodes : List Node
  pub names : List (List ℕ)
  pub definitions : List Definition
  pub stages : List Start
  pub registers : ℕ

-- min is at most max, where there is one
abbrev pub IsCount : ℕ → Option ℕ → Type 0
IsCount min None = Unit {0}
IsCount min (Some max) = min ≤ max

-- the children of node n are below it
abbrev pub HasBelow : ℕ → Kind → Type 0
HasBelow n (Seq l r) = (l < n) × (r < n)
HasBelow n (Alt l r) = (l < n) × (r < n)
HasBelow n (Rep body min max lazy) = (body < n) × IsCount min max
HasBelow n (Mute t) = t < n
HasBelow n (At r t) = t < n
HasBelow n _ = Unit {0}

abbrev pub IsInOrder : List Node → Type 0
IsInOrder nodes = (n : ℕ) (m : Node) → slice_get nodes n ≡ Some m → HasBelow n m.kind

-- the registers that pieces name are below the count
abbrev pub HasPieces : ℕ → List Piece → Type 0
HasPieces registers parts = (r : ℕ) → IsAmong parts (Register r) → r < registers

-- the names and registers of a node are below the counts
abbrev pub HasNames : ℕ → ℕ → Kind → Type 0
HasNames names registers (Call name) = name < names
HasNames names registers (At r t) = r < registers
HasNames names registers (Write r) = r < registers
HasNames names registers (Set r parts) = (r < registers) × HasPieces registers parts
HasNames names registers (Add r parts) = (r < registers) × HasPieces registers parts
HasNames names registers _ = Unit {0}

-- all numbers are those of names, nodes and registers
pub record IsInRange (nodes : List Node) (names : List (List ℕ)) (definitions : List Definition)
    (stages : List Start) (registers : ℕ) : Type 0 where
  pub named : (n : Node) → IsAmong nodes n → HasNames (length names) registers n.kind
  pub defined : (d : Definition) → IsAmong definitions d → (d.name < length names)
      × (d.root < length nodes)
  pub started : (s : Start) → IsAmong stages s → s.name < length names

pub record IsGrammar (P : Grammar) : Type 0 where
  pub in_order : IsInOrder P.nodes
  pub in_range : IsInRange P.nodes P.names P.definitions P.stages P.registers
