-- Which node of a list shows a tree at an offset, whatever the nodes' numbers.
use Rattle.std.specs.Prelude.{◌≡◌, ℕ, ◌+◌, Bool, true, List, ◌++◌, length, Some, slice_get}
use Rattle.std.specs.Prelude.{◌==◌}
use Rattle.kex_byteset.specs.Sets.{HasExactly}
use Rattle.kex_code.specs.Codes.{IsAmong}
use Rattle.kex_model.specs.declared.program.Kind.{Kind}
use Rattle.kex_model.specs.declared.program.Kind.TheVariants as kinds
use Rattle.kex_model.specs.declared.program.Node.{Node}
use Rattle.kex_regexp.specs.Grammar.{Regex, Last, Or, Branch, Empty, Then, Piece, Once, Turns, Item}
use Rattle.kex_regexp.specs.Grammar.{Plain, Escaped, Dot, Set, Group, branch, piece}
use Rattle.kex_regexp.specs.Postfixes.{low, high}
use Rattle.kex_regexp.specs.Values.{escaped_byte, in_set}

-- node n is of this kind and at this offset
abbrev pub IsNode : List Node → ℕ → Kind → ℕ → Type 0
IsNode nodes n kind at = slice_get nodes n ≡ Some (record { kind = kind; at = at })

-- node n is the class of the bytes of which the test says true
abbrev pub IsClass : List Node → ℕ → (ℕ → Bool) → ℕ → Type 0
IsClass nodes n test at = (s : List Bool) × HasExactly s test × IsNode nodes n (kinds.Class s) at

unfoldable mutual
  pub ShowsRegex : Regex → List Node → ℕ → ℕ → Type 0
  ShowsRegex (Last b) nodes n at = ShowsBranch b nodes n at
  ShowsRegex (Or b r) nodes n at = (l : ℕ) × (m : ℕ) × IsNode nodes n (kinds.Alt l m) at
      × ShowsBranch b nodes l at × ShowsRegex r nodes m (at + length (branch b) + 1)

  -- an empty branch is One, a single piece itself
  pub ShowsBranch : Branch → List Node → ℕ → ℕ → Type 0
  ShowsBranch Empty nodes n at = IsNode nodes n kinds.One at
  ShowsBranch (Then p Empty) nodes n at = ShowsPiece p nodes n at
  ShowsBranch (Then p (Then q b)) nodes n at = (l : ℕ) × (m : ℕ) × IsNode nodes n (kinds.Seq l m) at
      × ShowsPiece p nodes l at × ShowsBranch (Then q b) nodes m (at + length (piece p))

  pub ShowsPiece : Piece → List Node → ℕ → ℕ → Type 0
  ShowsPiece (Once i) nodes n at = ShowsItem i nodes n at
  ShowsPiece (Turns i p lazy) nodes n at = (l : ℕ)
      × IsNode nodes n (kinds.Rep l (low p) (high p) lazy) at × ShowsItem i nodes l at

  -- a group is its content
  pub ShowsItem : Item → List Node → ℕ → ℕ → Type 0
  ShowsItem (Plain byte) nodes n at = IsClass nodes n (λ b. b == byte) at
  ShowsItem (Escaped e) nodes n at = IsClass nodes n (λ b. b == escaped_byte e) at
  ShowsItem Dot nodes n at = IsClass nodes n (λ b. true) at
  ShowsItem (Set negated ms) nodes n at = IsClass nodes n (in_set negated ms) at
  ShowsItem (Group r) nodes n at = ShowsRegex r nodes n (at + 1)

-- the kinds of nodes that bodies have: they name no definition and no register
abbrev pub IsOfBodies : Kind → Type 0
IsOfBodies kinds.One = Unit {0}
IsOfBodies (kinds.Class s) = Unit {0}
IsOfBodies (kinds.Seq l r) = Unit {0}
IsOfBodies (kinds.Alt l r) = Unit {0}
IsOfBodies (kinds.Rep body min max lazy) = Unit {0}
IsOfBodies _ = ⊥

-- the old nodes stay, and those after them are of kinds that bodies have
pub record Adds (old new : List Node) : Type 0 where
  pub more : List Node
  pub is : new ≡ old ++ more
  pub kinds : (n : Node) → IsAmong more n → IsOfBodies n.kind
