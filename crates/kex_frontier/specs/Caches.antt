-- Rows that are kept, and where each leads by each class of bytes, so far as that is known.
use Rattle.std.specs.Prelude.{◌≡◌, ℕ, zero, suc, ◌+◌, ◌*◌, ◌<◌, List, [], ◌∷◌, ◌++◌, All, length}
use Rattle.std.specs.Prelude.{Option, Some, None, IfSome, get_or, replicate, take, drop}
use Rattle.kex_byteset.specs.Classes.{class_at, class_count}
use Rattle.kex_machine.specs.declared.MNode.{MNode}
use Rattle.kex_machine.specs.Nodes.{HasClasses}
use Rattle.kex_frontier.specs.Rows.{HasSomeMark, IsByteStep}

-- rows of a width
pub record RowList : Type 0 where
  pub width : ℕ
  pub rows : List (List ℕ)

-- words, cut into `count` rows of a width
abbrev pub cut_rows : ℕ → ℕ → List ℕ → List (List ℕ)
cut_rows width zero words = []
cut_rows width (suc count) words = take width words ∷ cut_rows width count (drop width words)

-- rows by number; for each of them and each class a way, the ways of a row side by side; and of the
-- row that is the one now, if it is kept, where its ways begin
pub record KeptSteps : Type 0 where
  pub classes : List ℕ
  pub width : ℕ
  pub rows : List (List ℕ)
  pub ways : List (Option ℕ)
  pub at : Option ℕ

-- where the ways of the row of a number begin
abbrev pub ways_from : KeptSteps → ℕ → ℕ
ways_from k number = number * class_count k.classes

-- the ways of some row begin there
abbrev pub IsRowStart : KeptSteps → ℕ → Type 0
IsRowStart k at = (n : ℕ) × (n < length k.rows) × (at ≡ ways_from k n)

-- the ways of this row begin there
abbrev pub IsKeptAt : KeptSteps → ℕ → List ℕ → Type 0
IsKeptAt k at row = (n : ℕ) × (n < length k.rows) × (at ≡ ways_from k n)
    × (get_or k.rows n [] ≡ row)

-- this row is the one now, if that is kept
abbrev pub IsKeptNow : KeptSteps → List ℕ → Type 0
IsKeptNow k row = IfSome k.at (λ at. IsKeptAt k at row)

-- each row has a way for each class, and a way that is known leads to a row
pub record AreWaysInOrder (k : KeptSteps) : Type 0 where
  pub bytes : length k.classes ≡ 256
  pub some : 0 < class_count k.classes
  pub long : length k.ways ≡ length k.rows * class_count k.classes
  pub ways : All (λ w. IfSome w (IsRowStart k)) k.ways
  pub now : IfSome k.at (IsRowStart k)

-- with one row more, of which no way is known
abbrev pub with_row : KeptSteps → List ℕ → KeptSteps
with_row k row = record k {
  rows = k.rows ++ row ∷ [];
  ways = k.ways ++ replicate (class_count k.classes) None;
}

-- ways that are known lead by these bytes from one row to the other
abbrev pub AreWays : List ℕ → List (Option ℕ) → ℕ → List ℕ → ℕ → Type 0
AreWays classes ways from [] to = to ≡ from
AreWays classes ways from (b ∷ bs) to = (next : ℕ) × (b < 256)
    × (get_or ways (from + class_at classes b) None ≡ Some next) × AreWays classes ways next bs to

-- a way is unknown, or the row that it leads to is the step of its row by its class; and no row is
-- empty
pub record KnowsSteps (nodes : List MNode) (k : KeptSteps) : Type 0 where
  pub steps : (n m c b : ℕ) → n < length k.rows → c < class_count k.classes
      → get_or k.ways (ways_from k n + c) None ≡ Some (ways_from k m) → m < length k.rows
      → b < 256 → class_at k.classes b ≡ c
      → IsByteStep nodes b (get_or k.rows n []) (get_or k.rows m [])
  pub marked : All HasSomeMark k.rows

-- what is kept is of a machine, and of the row that is the one now
pub record IsCacheOf (nodes : List MNode) (row : List ℕ) (k : KeptSteps) : Type 0 where
  pub width : k.width ≡ length row
  pub classes : HasClasses nodes k.classes
  pub knows : KnowsSteps nodes k
  pub now : IsKeptNow k row
