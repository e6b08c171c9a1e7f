-- What was worked on of a piece before it is known that a worker comes to where that was begun.
use Rattle.std.specs.Prelude.{◌≡◌, ℕ, ◌≤◌, ◌+◌, Bool, IsTrue, List, [], ◌++◌, Option, Some, None}
use Rattle.std.specs.Prelude.{length}
use Rattle.kex_pipe.specs.Working.{ReadMore}

-- where a worker followed so it has read a piece, all of which is good, and follows so now
pub record GoesOver (Before After : List ℕ → List ℕ → Type 0)
    (piece before after : List ℕ) : Type 0 where
  pub goes : (w text : List ℕ) → Before w text
      → (more : List ℕ) × (after ≡ before ++ more) × After (w ++ piece) (text ++ more)

-- where a worker followed so it has read a piece, of which this byte has stopped it, if one did
pub record ReadsPiece (Says : List ℕ → Option ℕ → List ℕ → Type 0)
    (Before After : List ℕ → List ℕ → Type 0)
    (piece : List ℕ) (at : Option ℕ) (before after : List ℕ) : Type 0 where
  pub reads : (w text : List ℕ) → Before w text → ReadMore Says After w text piece at before after

-- it has gone along a piece, or a byte of that has stopped it
abbrev pub ComesTo : (List ℕ → Option ℕ → List ℕ → Type 0) → (List ℕ → List ℕ → Type 0)
    → (List ℕ → List ℕ → Type 0) → List ℕ → Option ℕ → List ℕ → List ℕ → Type 0
ComesTo Says Before After piece None before after = GoesOver Before After piece before after
ComesTo Says Before After piece (Some at) before after =
    ReadsPiece Says Before After piece (Some at) before after

-- a worker that stood at a place has gone along some bytes, and written a text
pub record IsPartDraft {W M P : Type 0} (machine_of : W → M)
    (Follows : W → List ℕ → List ℕ → Type 0)
    (ready : W → Bool) (counted : W → ℕ) (StandsAt : W → P → Type 0)
    (place : P) (worker : W) (bytes text : List ℕ) : Type 0 where
  pub begun : W
  pub same : machine_of begun ≡ machine_of worker
  pub stood : StandsAt begun place
  pub is_ready : IsTrue (ready worker)
  pub counts : counted worker ≤ counted begun + length bytes
  pub went : GoesOver (Follows begun) (Follows worker) bytes [] text
