-- The search for strongly connected components along a path of components that are still open.
use Rattle.std.specs.Prelude.{◌≡◌, ℕ, suc, ◌<◌, ◌≤◌, ◌+◌, ◌*◌, List, [], ◌∷◌, length, get_or}
use Rattle.kex_code.specs.Codes.{IsAmong, HasNumber}
use Rattle.kex_model.specs.Programs.{Grammar}
use Rattle.kex_rules.specs.Graphs.{Leads, vertices, vertex_successors}
use Rattle.kex_rules.specs.declared.components.Mark.{Mark}
use Rattle.kex_rules.specs.declared.components.Mark.TheVariants.{Unseen, Open, Closed}
use Rattle.kex_rules.specs.declared.components.Bound.{Bound}
use Rattle.kex_rules.specs.declared.components.Search.{Search}

-- how many vertices were not met
abbrev pub unseen_count : List Mark → ℕ
unseen_count [] = 0
unseen_count (Unseen ∷ xs) = suc (unseen_count xs)
unseen_count (Open i ∷ xs) = unseen_count xs
unseen_count (Closed a ∷ xs) = unseen_count xs

-- number i of the path and number q of what is ahead are on one side of the bound
abbrev pub SameSide : Bound → ℕ → ℕ → Type 0
SameSide b i q = (b.ahead ≤ q → b.path ≤ i) × (q < b.ahead → i < b.path)

-- where number i of the path leads: closed, or not before its component, or still ahead of it, or
-- in hand
pub data Met (marks : List Mark) (ahead : List ℕ) (bounds : List Bound) (hand : List ℕ)
    (i w : ℕ) : Type 0 where
  is_closed : (a : ℕ) → get_or marks w Unseen ≡ Closed a → Met marks ahead bounds hand i w
  is_open : (j : ℕ) → get_or marks w Unseen ≡ Open j → ((k : ℕ) (b : Bound) → HasNumber bounds b k
      → b.path ≤ i → b.path ≤ j) → Met marks ahead bounds hand i w
  is_ahead : (q : ℕ) → HasNumber ahead w q → ((k : ℕ) (b : Bound) → HasNumber bounds b k
      → b.path ≤ i → b.ahead ≤ q) → Met marks ahead bounds hand i w
  in_hand : IsAmong hand w → Met marks ahead bounds hand i w

-- the search so far. The path has the open vertices; bounds say where its components begin
pub record IsSearch (f : ℕ → List ℕ) (count : ℕ) (hand : List ℕ) (marks : List Mark)
    (path ahead : List ℕ) (bounds : List Bound) (closed : ℕ) : Type 0 where
  pub long : length marks ≡ count
  pub opened : (v i : ℕ) → HasNumber path v i → get_or marks v Unseen ≡ Open i
  pub listed : (v i : ℕ) → get_or marks v Unseen ≡ Open i → HasNumber path v i
  -- what is earlier on the path leads to what is later, and back within a component
  pub onward : (u v i j : ℕ) → HasNumber path u i → HasNumber path v j → i ≤ j → Leads f u v
  pub back : (u v i j : ℕ) → HasNumber path u i → HasNumber path v j → i ≤ j
      → ((k : ℕ) (b : Bound) → HasNumber bounds b k → b.path ≤ j → b.path ≤ i) → Leads f v u
  pub rising : (k l : ℕ) (b c : Bound) → k ≤ l → HasNumber bounds b k → HasNumber bounds c l
      → (b.path ≤ c.path) × (b.ahead ≤ c.ahead)
  pub within : (k : ℕ) (b : Bound) → HasNumber bounds b k → (b.path ≤ length path)
      × (b.ahead ≤ length ahead)
  pub first : (b : Bound) → HasNumber bounds b 0 → b.path ≡ 0
  pub based : (v i : ℕ) → HasNumber path v i → 0 < length bounds
  pub sourced : (w q : ℕ) → HasNumber ahead w q → (u i : ℕ) × HasNumber path u i × IsAmong (f u) w
      × ((k : ℕ) (b : Bound) → HasNumber bounds b k → SameSide b i q)
  pub met : (u i w : ℕ) → HasNumber path u i → IsAmong (f u) w → Met marks ahead bounds hand i w
  -- what is closed leads to what was closed before, or together with it
  pub falls : (u a w : ℕ) → get_or marks u Unseen ≡ Closed a → IsAmong (f u) w → (b : ℕ)
      × (get_or marks w Unseen ≡ Closed b) × (b ≤ a)
  pub same : (u v a : ℕ) → get_or marks u Unseen ≡ Closed a → get_or marks v Unseen ≡ Closed a
      → Leads f u v
  pub fresh : (u a : ℕ) → get_or marks u Unseen ≡ Closed a → a < closed
  pub few : closed + (unseen_count marks + length bounds) ≤ count

-- all that is open leads to the vertex
abbrev pub AllLead : (ℕ → List ℕ) → List ℕ → ℕ → Type 0
AllLead f path w = (v i : ℕ) → HasNumber path v i → Leads f v w

-- the bounds that lie at number p of the path or before it
pub record Joins (p : ℕ) (old new : List Bound) : Type 0 where
  pub kept : (k : ℕ) (b : Bound) → HasNumber new b k → HasNumber old b k
  pub low : (k : ℕ) (b : Bound) → HasNumber new b k → b.path ≤ p
  pub all : (k : ℕ) (b : Bound) → HasNumber old b k → b.path ≤ p → HasNumber new b k
  pub short : length new ≤ length old

-- what is on the path from number p on, and before number q, is closed
pub record ClosesPath (p q closed : ℕ) (path : List ℕ) (old new : List Mark) : Type 0 where
  pub long : length new ≡ length old
  pub done : (v i : ℕ) → p ≤ i → i < q → HasNumber path v i → get_or new v Unseen ≡ Closed closed
  pub kept : (v : ℕ) → ((i : ℕ) → p ≤ i → i < q → HasNumber path v i → ⊥)
      → get_or new v Unseen ≡ get_or old v Unseen
  pub count : unseen_count new ≤ unseen_count old

-- the search over a program's graph so far
abbrev pub Searching : Grammar → List ℕ → Search → Type 0
Searching P hand s = IsSearch (vertex_successors P)
    (vertices P) hand s.marks.items s.path.items s.ahead.items s.bounds.items s.closed

-- the work that is left: each vertex is opened once, and puts two vertices ahead at most
abbrev pub work : Search → ℕ
work s = 4 * unseen_count s.marks.items + (length s.ahead.items + length s.bounds.items)

-- what was met stays so
abbrev pub StaysMet : Search → Search → Type 0
StaysMet old new = (v : ℕ) → get_or new.marks.items v Unseen ≡ Unseen
    → get_or old.marks.items v Unseen ≡ Unseen
