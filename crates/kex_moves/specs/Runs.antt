-- What the edges along a piece write, up to the first byte whose edge isn't written.
use Rattle.std.specs.Prelude.{◌≡◌, ◌<◌, ◌+◌, ℕ, List, [], ◌∷◌, ◌++◌, Option, Some, None, All, true}
use Rattle.std.specs.Prelude.{take, drop, get_or, length, if◌then◌else◌, slice_get, slice_index}
use Rattle.kex_moves.specs.declared.edge.Edge.{Edge}
use Rattle.kex_moves.specs.declared.edge.EdgeKind.{EdgeKind}
use Rattle.kex_moves.specs.Edges.{writes, is_written, HasRoom, IsAtRow}

-- a byte's class, the edges of each row by class, and the texts of the edges
pub record Rows : Type 0 where
  pub classes : List ℕ
  pub edges : List Edge
  pub text : List ℕ

-- where a byte leads, and what is written for it
pub record RunStep : Type 0 where
  pub row : ℕ
  pub writes : List ℕ

abbrev pub by_edge : List ℕ → ℕ → Option Edge → Option RunStep
by_edge text b None = None
by_edge text b (Some e) = if is_written e.kind
    then Some (record { row = e.next; writes = writes text e b }) else None

-- the edge that is written at a byte, if it is one
abbrev pub edge_step : Rows → ℕ → ℕ → Option RunStep
edge_step t row b = by_edge t.text b (slice_get t.edges (row + slice_index t.classes b))

-- what was written, where the run stopped, and the bytes that are left
pub record RunStop : Type 0 where
  pub written : List ℕ
  pub row : ℕ
  pub left : List ℕ

-- the same after what was there before
abbrev pub stop_behind : List ℕ → RunStop → RunStop
stop_behind xs s = record { written = xs ++ s.written; row = s.row; left = s.left }

abbrev pub on_step : RunStop → (RunStep → RunStop) → Option RunStep → RunStop
on_step stop more None = stop
on_step stop more (Some w) = more w

-- a run over bytes, as far as edges are written
abbrev pub run_of : Rows → ℕ → List ℕ → RunStop
run_of t row [] = record { written = []; row = row; left = [] }
run_of t row (b ∷ bs) = on_step (record { written = []; row = row; left = b ∷ bs }) (λ w.
    stop_behind w.writes (run_of t w.row bs)) (edge_step t row b)

-- a run over the bytes of a piece from number i on, after what was there before
abbrev pub run_from : Rows → List ℕ → List ℕ → ℕ → ℕ → RunStop
run_from t piece xs row i = stop_behind xs (run_of t row (drop i piece))

-- n bytes of a piece from number i on are written as they are, and from another row the run goes on
-- as from the first
abbrev pub CopiesAlong : Rows → List ℕ → ℕ → ℕ → ℕ → ℕ → Type 0
CopiesAlong t piece from i to n = (xs : List ℕ)
    → run_from t piece (xs ++ take n (drop i piece)) to (i + n) ≡ run_from t piece xs from i

-- there is an edge for each byte
abbrev pub HasEdgeRow : List ℕ → List Edge → ℕ → Type 0
HasEdgeRow classes edges row = All (λ c. row + c < length edges) classes

-- those that keep or drop lead back to the row
abbrev pub LeadsBack : List ℕ → List Edge → ℕ → Type 0
LeadsBack classes edges row =
    All (λ c. (e : Edge) → slice_get edges (row + c) ≡ Some e → IsAtRow row e) classes

-- among the edges of a row that of the byte is of the kind
pub record HasKind (classes : List ℕ) (edges : List Edge) (k : EdgeKind) (b : ℕ) : Type 0 where
  pub class : ℕ
  pub edge : Edge
  pub of : slice_get classes b ≡ Some class
  pub at : slice_get edges class ≡ Some edge
  pub kind : edge.kind ≡ k

-- the edge of a row at a byte
pub record IsEdgeAt (classes : List ℕ) (edges : List Edge) (row b : ℕ) (e : Edge) : Type 0 where
  pub class : ℕ
  pub of : slice_get classes b ≡ Some class
  pub at : slice_get edges (row + class) ≡ Some e

-- a byte of the piece is next, and that is its edge
abbrev pub StopsAt : List ℕ → List Edge → ℕ → ℕ → List ℕ → Edge → Type 0
StopsAt classes edges row at piece e = (at < length piece)
    × IsEdgeAt classes edges row (get_or piece at 0) e

-- what edges write lies within that many bytes of text
abbrev pub HasRoomBelow : ℕ → List Edge → Type 0
HasRoomBelow n edges = All (λ (e : Edge). is_written e.kind ≡ true → HasRoom n e) edges

-- where edges lead there is a row, what they write lies within the text, and the byte alone is
-- written where an edge is alone
pub record AreEdgesWithin (t : Rows) : Type 0 where
  pub next : All (λ (e : Edge). is_written e.kind ≡ true → HasEdgeRow t.classes t.edges e.next
      × LeadsBack t.classes t.edges e.next) t.edges
  pub room : HasRoomBelow (length t.text) t.edges
  pub alone : All (λ (e : Edge). e.alone ≡ true → is_written e.kind ≡ true) t.edges
