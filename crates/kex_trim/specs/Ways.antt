-- Where nodes lead, and from where the end is reached.
use Rattle.std.specs.Prelude.{◌≡◌, ℕ, suc, ◌<◌, ◌+◌, Bool, true, false, List, [], ◌∷◌, ◌⊎◌}
use Rattle.std.specs.Prelude.{if◌then◌else◌, get_or, length}
use Rattle.std.specs.List.{list_any}
use Rattle.kex_code.specs.Codes.{IsAmong}
use Rattle.kex_model.specs.Moves.{Move, accept, read, choose, forced, go}
use Rattle.kex_model.specs.Survivors.{LeadsToEnd}
use Rattle.kex_machine.specs.declared.MNode.{MNode}
use Rattle.kex_machine.specs.declared.MNode.TheVariants.{Accept, Read, Choice, Forced, Do, Skip}
use Rattle.kex_machine.specs.Nodes.{node_moves}
use Rattle.kex_trim.specs.declared.alive.Successors.{Successors}
use Rattle.kex_trim.specs.declared.alive.Successors.TheVariants.{NoWay, One, Two}

-- where a move leads, by some step
abbrev pub successors : {S : Type 0} → Move S → List S
successors accept = []
successors (read set t) = if list_any (λ b. b) set then t ∷ [] else []
successors (choose l r) = l ∷ r ∷ []
successors (forced x t) = t ∷ []
successors (go e t) = t ∷ []

-- the node leads to numbers below the count
abbrev pub LeadsBelow : ℕ → MNode → Type 0
LeadsBelow count Accept = Unit {0}
LeadsBelow count (Read set n) = n < count
LeadsBelow count (Choice l r) = (l < count) × (r < count)
LeadsBelow count (Forced b n) = n < count
LeadsBelow count (Do e n) = n < count
LeadsBelow count (Skip n) = n < count

abbrev pub listed_successors : Successors → List ℕ
listed_successors NoWay = []
listed_successors (One t) = t ∷ []
listed_successors (Two l r) = l ∷ r ∷ []

abbrev pub EachUnder : ℕ → List ℕ → Type 0
EachUnder k ns = (n : ℕ) → IsAmong ns n → n < k

-- s was added to the lists of ts
pub record AddsToLists (ts : List ℕ) (s : ℕ) (old new : List (List ℕ)) : Type 0 where
  pub long : length new ≡ length old
  pub kept : (t x : ℕ) → IsAmong (get_or old t []) x → IsAmong (get_or new t []) x
  pub added : (t : ℕ) → IsAmong ts t → IsAmong (get_or new t []) s
  pub only : (t x : ℕ) → IsAmong (get_or new t []) x → IsAmong (get_or old t []) x
      ⊎ (IsAmong ts t × (s ≡ x))

-- for each node, those that lead to it
pub record IsReverse (nodes : List MNode) (into : List (List ℕ)) : Type 0 where
  pub long : length into ≡ length nodes
  pub real : (t s : ℕ) → IsAmong (get_or into t []) s → IsAmong (successors (node_moves nodes s)) t
  pub all : (t s : ℕ) → t < length nodes → IsAmong (successors (node_moves nodes s)) t
      → IsAmong (get_or into t []) s

-- how many flags are false
abbrev pub unmarked_count : List Bool → ℕ
unmarked_count [] = 0
unmarked_count (true ∷ xs) = unmarked_count xs
unmarked_count (false ∷ xs) = suc (unmarked_count xs)

-- xs were marked, and those among them that were not before are on the stack
pub record Marks (xs : List ℕ) (old : List Bool) (stack : List ℕ) (new : List Bool)
    (stack' : List ℕ) : Type 0 where
  pub long : length new ≡ length old
  pub kept : (n : ℕ) → get_or old n false ≡ true → get_or new n false ≡ true
  pub marked : (n : ℕ) → IsAmong xs n → get_or new n false ≡ true
  pub only : (n : ℕ) → get_or new n false ≡ true → (get_or old n false ≡ true) ⊎ IsAmong xs n
  pub stacked : (n : ℕ) → get_or new n false ≡ true → (get_or old n false ≡ true) ⊎ IsAmong stack' n
  pub still : (n : ℕ) → IsAmong stack n → IsAmong stack' n
  pub from : (n : ℕ) → IsAmong stack' n → IsAmong stack n ⊎ IsAmong xs n
  pub sum : unmarked_count new + length stack' ≡ unmarked_count old + length stack

-- the flags say from which nodes the end is reached
pub record AreAliveFlags (nodes : List MNode) (alive : List Bool) : Type 0 where
  pub long : length alive ≡ length nodes
  pub ends : (n : ℕ) → get_or alive n false ≡ true → LeadsToEnd (node_moves nodes) n
  pub all : (n : ℕ) → n < length nodes → LeadsToEnd (node_moves nodes) n
      → get_or alive n false ≡ true
