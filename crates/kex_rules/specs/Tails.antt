-- Nodes that are outside tail position on a way within their component.
use Rattle.std.specs.Prelude.{◌≡◌, ℕ, ◌≤◌, Bool, true, false, List, ◌⊎◌, length, get_or}
use Rattle.kex_code.specs.Codes.{IsAmong}
use Rattle.kex_model.specs.Programs.{Grammar}
use Rattle.kex_model.specs.Trees.{kind_at}
use Rattle.kex_rules.specs.Rules.{last_parts, other_parts}
use Rattle.kex_rules.specs.declared.components.Mark.{Mark}
use Rattle.kex_rules.specs.declared.components.Mark.TheVariants.{Unseen}

-- two vertices are of one component
abbrev pub AreSame : List Mark → ℕ → ℕ → Type 0
AreSame marks u v = get_or marks u Unseen ≡ get_or marks v Unseen

-- the node is reached by parts within its component, one of which isn't a last one
pub data IsApart (P : Grammar) (marks : List Mark) : ℕ → Type 0 where
  by_other : (n : ℕ) {m : ℕ} → IsAmong (other_parts (kind_at P n)) m → AreSame marks n m
      → IsApart P marks m
  by_last : (n : ℕ) {m : ℕ} → IsApart P marks n → IsAmong (last_parts (kind_at P n)) m
      → AreSame marks n m → IsApart P marks m

-- the flags of the last and the other parts of node n were set
pub record MarksParts (marks : List Mark) (n : ℕ) (lasts others : List ℕ)
    (old new : List Bool) : Type 0 where
  pub long : length new ≡ length old
  pub kept : (m : ℕ) → get_or old m false ≡ true → get_or new m false ≡ true
  pub above : (m : ℕ) → n ≤ m → get_or new m false ≡ get_or old m false
  pub only : (m : ℕ) → get_or new m false ≡ true → (get_or old m false ≡ true) ⊎ ((IsAmong others m
      × AreSame marks n m) ⊎ ((get_or old n false ≡ true) × IsAmong lasts m × AreSame marks n m))
  pub by_other : (m : ℕ) → IsAmong others m → AreSame marks n m → get_or new m false ≡ true
  pub by_last : (m : ℕ) → get_or old n false ≡ true → IsAmong lasts m → AreSame marks n m
      → get_or new m false ≡ true

-- the flags say which nodes are apart, by the parts of node n and those above
pub record HasApart (P : Grammar) (marks : List Mark) (n : ℕ) (apart : List Bool) : Type 0 where
  pub long : length apart ≡ length P.nodes
  pub real : (m : ℕ) → get_or apart m false ≡ true → IsApart P marks m
  pub by_other : (k m : ℕ) → n ≤ k → IsAmong (other_parts (kind_at P k)) m → AreSame marks k m
      → get_or apart m false ≡ true
  pub by_last : (k m : ℕ) → n ≤ k → get_or apart k false ≡ true
      → IsAmong (last_parts (kind_at P k)) m → AreSame marks k m → get_or apart m false ≡ true
