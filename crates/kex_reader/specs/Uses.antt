-- What has a number in a program, where it is, and that none of it is spare.
use Rattle.std.specs.Prelude.{◌≡◌, ℕ, ◌<◌, ◌⊎◌, List, length, Some, slice_get}
use Rattle.kex_code.specs.Codes.{IsAmong}
use Rattle.kex_code.specs.declared.piece.Piece.TheVariants as pieces
use Rattle.kex_model.specs.Programs.{Grammar}
use Rattle.kex_model.specs.declared.program.Kind.{Kind}
use Rattle.kex_model.specs.declared.program.Kind.TheVariants as kinds
use Rattle.kex_model.specs.declared.program.Node.{Node}
use Rattle.kex_model.specs.declared.program.Definition.{Definition as Root}
use Rattle.kex_model.specs.declared.program.Start.{Start}
use Rattle.kex_regexp.specs.Parents.{HasChild}

-- a node, a name or a register, by its number
pub data Numbered : Type 0 where
  NodeNumber : (n : ℕ) → Numbered
  NameNumber : (n : ℕ) → Numbered
  RegisterNumber : (n : ℕ) → Numbered

-- the number is below the count of its sort
abbrev pub IsNumberBelow : (nodes names registers : ℕ) → Numbered → Type 0
IsNumberBelow nodes names registers (NodeNumber n) = n < nodes
IsNumberBelow nodes names registers (NameNumber n) = n < names
IsNumberBelow nodes names registers (RegisterNumber n) = n < registers

-- a node of this kind has register r
abbrev pub HasRegister : Kind → ℕ → Type 0
HasRegister (kinds.At k t) r = r ≡ k
HasRegister (kinds.Write k) r = r ≡ k
HasRegister (kinds.Set k ps) r = (r ≡ k) ⊎ IsAmong ps (pieces.Register r)
HasRegister (kinds.Add k ps) r = (r ≡ k) ⊎ IsAmong ps (pieces.Register r)
HasRegister _ r = ⊥

-- it is a child, the name that is called or a register of a node of this kind
abbrev pub InKind : Kind → Numbered → Type 0
InKind kind (NodeNumber n) = HasChild kind n
InKind kind (NameNumber n) = kind ≡ kinds.Call n
InKind kind (RegisterNumber r) = HasRegister kind r

abbrev pub InNodes : List Node → Numbered → Type 0
InNodes nodes x = (k : ℕ) × (v : Node) × (slice_get nodes k ≡ Some v) × InKind v.kind x

-- it is the root or the name of a definition
abbrev pub InDefinition : Root → Numbered → Type 0
InDefinition d (NodeNumber n) = n ≡ d.root
InDefinition d (NameNumber n) = n ≡ d.name
InDefinition d (RegisterNumber r) = ⊥

abbrev pub InDefinitions : List Root → Numbered → Type 0
InDefinitions ds x = (d : Root) × IsAmong ds d × InDefinition d x

-- it is the name of a stage
abbrev pub InStages : List Start → Numbered → Type 0
InStages ss x = (s : Start) × IsAmong ss s × (x ≡ NameNumber s.name)

-- no node, name or register is spare: each is in a node, in a definition or in a stage
abbrev pub NoneSpare : Grammar → Type 0
NoneSpare P = (x : Numbered) → IsNumberBelow (length P.nodes) (length P.names) P.registers x
    → InNodes P.nodes x ⊎ (InDefinitions P.definitions x ⊎ InStages P.stages x)
