-- What edges write along pieces: from row to row by the numbers of their words.
use Rattle.std.specs.Prelude.{◌≡◌, ◌<◌, ◌≤◌, ◌+◌, ℕ, List, [], ◌∷◌, ◌++◌, Some, All, true}
use Rattle.std.specs.Prelude.{slice_get, length}
use Rattle.kex_script.specs.declared.piece.ByteWord.{ByteWord}
use Rattle.kex_moves.specs.declared.edge.Edge.{Edge}
use Rattle.kex_moves.specs.Edges.{writes, is_written}
use Rattle.kex_moves.specs.Runs.{RunStep}

-- in the row there is an edge for the piece's word, and it is written
pub record IsWrittenEdge (edges : List Edge) (width row : ℕ) (p : ByteWord)
    (e : Edge) : Type 0 where
  pub within : p.word < width
  pub edge : slice_get edges (row + p.word) ≡ Some e
  pub written : is_written e.kind ≡ true

-- along the pieces edges are written from one row to another, after what was there before
abbrev pub IsTrail : List Edge → List ℕ → ℕ → List ByteWord → RunStep → RunStep → Type 0
IsTrail edges text width [] s z = z ≡ s
IsTrail edges text width (p ∷ ps) s z = (e : Edge) × IsWrittenEdge edges width s.row p e × IsTrail
    edges text width ps (record { row = e.next; writes = s.writes ++ writes text e p.byte }) z

-- no edge is written for the first of the pieces, if there is one
abbrev pub IsTrailOver : List Edge → ℕ → ℕ → List ByteWord → Type 0
IsTrailOver edges width row [] = Unit {0}
IsTrailOver edges width row (p ∷ ps) = (e : Edge) → ¬ IsWrittenEdge edges width row p e

-- where edges lead there is a row
abbrev pub EdgesLeadBelow : ℕ → List Edge → Type 0
EdgesLeadBelow width edges =
    All (λ (e : Edge). is_written e.kind ≡ true → e.next + width ≤ length edges) edges
