-- Edges to rows by their numbers.
use Rattle.std.specs.Prelude.{◌≡◌, ◌≤◌, ◌<◌, ℕ, Bool, List, length, get_or}
use Rattle.kex_held.specs.declared.item.HeldItem.{HeldItem}

-- the number of a row, whether it holds nothing, what goes to the output, and which points stay
-- marks
pub record NumberedEdge : Type 0 where
  pub to : ℕ
  pub bare : Bool
  pub outs : List HeldItem
  pub keep : List ℕ

-- that many points in front are the first ones, in their order
abbrev pub HasFirsts : ℕ → List ℕ → Type 0
HasFirsts n keep = (n ≤ length keep) × ((i : ℕ) → i < n → get_or keep i 0 ≡ i)
