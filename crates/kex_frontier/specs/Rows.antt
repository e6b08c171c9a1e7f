-- Rows of bits over a machine's places, and the row of a text.
use Rattle.std.specs.Prelude.{◌≡◌, ℕ, ◌<◌, ◌≤◌, ◌/◌, ◌%◌, ◌==◌, Bool, true, false, List, [], ◌∷◌}
use Rattle.std.specs.Prelude.{◌⊎◌, if◌then◌else◌, get_or, length}
use Rattle.std.specs.Int.{bit_at}
use Rattle.kex_code.specs.Codes.{bytes_of, IsAmong}
use Rattle.kex_model.specs.Moves.{Move, accept, read, choose, forced, go, Step, code_of, Walk}
use Rattle.kex_machine.specs.declared.MNode.{MNode}
use Rattle.kex_machine.specs.Nodes.{Graph, node_moves}

-- whether the place is marked: bit n % 64 of word n / 64
abbrev pub has_mark : List ℕ → ℕ → Bool
has_mark words n = bit_at (get_or words (n / 64) 0) (n % 64) == 1

-- j is the place of the word's highest bit
pub record IsTop (word j : ℕ) : Type 0 where
  pub within : j < 64
  pub set : bit_at word j ≡ 1
  pub last : (i : ℕ) → j < i → bit_at word i ≡ 0

-- n is the highest place below the end that is marked
pub record IsHighestBelow (row : List ℕ) (end n : ℕ) : Type 0 where
  pub below : n < end
  pub marked : has_mark row n ≡ true
  pub highest : (m : ℕ) → n < m → m < end → has_mark row m ≡ false

-- those among ms were marked too
pub record AlsoMarks (ms : List ℕ) (old new : List ℕ) : Type 0 where
  pub room : length new ≡ length old
  pub kept : (n : ℕ) → has_mark old n ≡ true → has_mark new n ≡ true
  pub added : (n : ℕ) → IsAmong ms n → has_mark new n ≡ true
  pub only : (n : ℕ) → has_mark new n ≡ true → (has_mark old n ≡ true) ⊎ IsAmong ms n

-- the mark of one place was taken away
pub record Unmarks (place : ℕ) (old new : List ℕ) : Type 0 where
  pub room : length new ≡ length old
  pub gone : has_mark new place ≡ false
  pub others : (n : ℕ) → (n ≡ place → ⊥) → has_mark new n ≡ has_mark old n

-- those among ms were marked in a row, and in another row those of them that were not marked
-- before; at or above `end'` nothing was
pub record Opens (ms : List ℕ) (end : ℕ) (old fresh new fresh' : List ℕ) (end' : ℕ) : Type 0 where
  pub marked : AlsoMarks ms old new
  pub room : length fresh' ≡ length fresh
  pub opened : (n : ℕ) → has_mark new n ≡ true → (has_mark old n ≡ true)
      ⊎ (has_mark fresh' n ≡ true)
  pub kept : (n : ℕ) → has_mark fresh n ≡ true → has_mark fresh' n ≡ true
  pub only : (n : ℕ) → has_mark fresh' n ≡ true → (has_mark fresh n ≡ true)
      ⊎ ((has_mark old n ≡ false) × IsAmong ms n)
  pub rises : end ≤ end'
  pub above : (n : ℕ) → end' ≤ n → has_mark fresh' n ≡ true → has_mark fresh n ≡ true

-- where a move leads by a byte
abbrev pub byte_ways : {S : Type 0} → Move S → ℕ → List S
byte_ways (read set t) b = if get_or set b false then t ∷ [] else []
byte_ways accept b = []
byte_ways (choose l r) b = []
byte_ways (forced x t) b = []
byte_ways (go e t) b = []

-- n is reached from m without a byte
abbrev pub IsReachedQuietly : List MNode → ℕ → ℕ → Type 0
IsReachedQuietly nodes m n = (ks : List (Step ℕ)) × Walk (node_moves nodes) m ks n
    × (bytes_of (code_of ks) ≡ [])

-- what is reached without a byte from the places that were marked is marked
pub record IsClosureOf (nodes : List MNode) (old new : List ℕ) : Type 0 where
  pub room : length new ≡ length old
  pub real : (n : ℕ) → has_mark new n ≡ true → (m : ℕ) × (has_mark old m ≡ true)
      × IsReachedQuietly nodes m n
  pub all : (m n : ℕ) → has_mark old m ≡ true → IsReachedQuietly nodes m n → has_mark new n ≡ true

-- some place is marked
abbrev pub HasSomeMark : List ℕ → Type 0
HasSomeMark row = (n : ℕ) × (has_mark row n ≡ true)

-- what is reached by the byte b from the places that were marked, and from there without a byte, is
-- marked
pub record IsByteStep (nodes : List MNode) (b : ℕ) (old new : List ℕ) : Type 0 where
  pub real : (n : ℕ) → has_mark new n ≡ true → (p t : ℕ) × (has_mark old p ≡ true)
      × IsAmong (byte_ways (node_moves nodes p) b) t × IsReachedQuietly nodes t n
  pub all : (p t n : ℕ) → has_mark old p ≡ true → IsAmong (byte_ways (node_moves nodes p) b) t
      → IsReachedQuietly nodes t n → has_mark new n ≡ true

-- so for one byte after another
abbrev pub AreByteSteps : List MNode → List ℕ → List ℕ → List ℕ → Type 0
AreByteSteps nodes old [] new = new ≡ old
AreByteSteps nodes old (b ∷ bs) new = (next : List ℕ) × IsByteStep nodes b old next
    × AreByteSteps nodes next bs new

-- the marks are those of the places that are reached on w
pub record IsMarkRow (g : Graph) (w : List ℕ) (row : List ℕ) : Type 0 where
  pub real : (n : ℕ) → has_mark row n ≡ true → (ks : List (Step ℕ))
      × Walk (node_moves g.nodes) g.start ks n × (bytes_of (code_of ks) ≡ w)
  pub all : (n : ℕ) (ks : List (Step ℕ)) → Walk (node_moves g.nodes) g.start ks n
      → bytes_of (code_of ks) ≡ w → has_mark row n ≡ true
