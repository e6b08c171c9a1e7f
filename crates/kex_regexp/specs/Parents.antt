-- Which nodes are children of others, and that none is lost while nodes are added.
use Rattle.std.specs.Prelude.{◌≡◌, ℕ, ◌<◌, ◌⊎◌, List, length, Some, slice_get}
use Rattle.kex_model.specs.declared.program.Kind.{Kind}
use Rattle.kex_model.specs.declared.program.Kind.TheVariants as kinds
use Rattle.kex_model.specs.declared.program.Node.{Node}

-- a node of this kind has node n as a child
abbrev pub HasChild : Kind → ℕ → Type 0
HasChild (kinds.Seq l r) n = (n ≡ l) ⊎ (n ≡ r)
HasChild (kinds.Alt l r) n = (n ≡ l) ⊎ (n ≡ r)
HasChild (kinds.Rep body min max lazy) n = n ≡ body
HasChild (kinds.Mute t) n = n ≡ t
HasChild (kinds.At r t) n = n ≡ t
HasChild _ n = ⊥

-- node n is a child of some node
abbrev pub HasParent : List Node → ℕ → Type 0
HasParent nodes n = (k : ℕ) × (v : Node) × (slice_get nodes k ≡ Some v) × HasChild v.kind n

-- no node is lost: one that was held before, and one that is new, has a parent now or is held after
pub record NoneLost (old new : List Node) (From To : ℕ → Type 0) : Type 0 where
  pub held : (n : ℕ) → From n → HasParent new n ⊎ To n
  pub added : (n : ℕ) → n < length new → (n < length old) ⊎ (HasParent new n ⊎ To n)
