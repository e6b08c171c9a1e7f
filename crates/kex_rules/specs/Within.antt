-- Nodes that are in a definition, by a flag each.
use Rattle.std.specs.Prelude.{◌≡◌, ℕ, ◌≤◌, ◌⊎◌, Bool, true, false, List, length, get_or}
use Rattle.kex_code.specs.Codes.{IsAmong}
use Rattle.kex_model.specs.declared.program.Definition.{Definition}
use Rattle.kex_model.specs.Programs.{Grammar}
use Rattle.kex_model.specs.Trees.{kind_at}
use Rattle.kex_rules.specs.Rules.{IsWithin, last_parts, other_parts}

-- the flags of the last and the other parts of node n were set
pub record FlagsParts (n : ℕ) (last other : List ℕ) (old new : List Bool) : Type 0 where
  pub long : length new ≡ length old
  pub kept : (m : ℕ) → get_or old m false ≡ true → get_or new m false ≡ true
  pub above : (m : ℕ) → n ≤ m → get_or new m false ≡ get_or old m false
  pub only : (m : ℕ) → get_or new m false ≡ true → (get_or old m false ≡ true)
      ⊎ (IsAmong last m ⊎ IsAmong other m)
  pub lasts : (m : ℕ) → IsAmong last m → get_or new m false ≡ true
  pub others : (m : ℕ) → IsAmong other m → get_or new m false ≡ true

-- the flags say which nodes are in a definition, by the roots and the parts of node n and those
-- above
pub record HasWithin (P : Grammar) (n : ℕ) (within : List Bool) : Type 0 where
  pub long : length within ≡ length P.nodes
  pub real : (m : ℕ) → get_or within m false ≡ true → IsWithin P m
  pub roots : (d : Definition) → IsAmong P.definitions d → get_or within d.root false ≡ true
  pub lasts : (k m : ℕ) → n ≤ k → get_or within k false ≡ true
      → IsAmong (last_parts (kind_at P k)) m → get_or within m false ≡ true
  pub others : (k m : ℕ) → n ≤ k → get_or within k false ≡ true
      → IsAmong (other_parts (kind_at P k)) m → get_or within m false ≡ true
