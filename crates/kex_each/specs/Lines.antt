-- The lines of a text.
use Rattle.std.specs.Prelude.{◌≡◌, ◌==◌, ◌++◌, ℕ, Bool, true, false, List, [], ◌∷◌}
use Rattle.std.specs.Prelude.{if◌then◌else◌, map, take}

abbrev pub line_mark : ℕ
line_mark = 10

abbrev pub is_line_feed : ℕ → Bool
is_line_feed b = b == line_mark

-- the lines that a text ends, of which the first was begun before it
abbrev pub lines_behind : List ℕ → List ℕ → List (List ℕ)
lines_behind line [] = []
lines_behind line (b ∷ w) =
    if is_line_feed b then line ∷ lines_behind [] w else lines_behind (line ++ b ∷ []) w

-- the line that is unfinished after a text
abbrev pub begun_behind : List ℕ → List ℕ → List ℕ
begun_behind line [] = line
begun_behind line (b ∷ w) =
    if is_line_feed b then begun_behind [] w else begun_behind (line ++ b ∷ []) w

abbrev pub has_some : List ℕ → Bool
has_some [] = false
has_some (b ∷ w) = true

abbrev pub line_if_some : List ℕ → List (List ℕ)
line_if_some line = if has_some line then line ∷ [] else []

-- the lines of a text: what is between line feeds, without them; at its end (true) also an
-- unfinished one, if it isn't empty
abbrev pub lines_of : List ℕ → Bool → List (List ℕ)
lines_of w false = lines_behind [] w
lines_of w true = lines_behind [] w ++ line_if_some (begun_behind [] w)

-- of each line the first `keep` bytes
abbrev pub fronts_of : ℕ → List (List ℕ) → List (List ℕ)
fronts_of keep lines = map (λ line. take keep line) lines

-- the unfinished line: how many bytes are kept of it, those that are kept, and whether it has some
pub record BegunLine : Type 0 where
  pub keep : ℕ
  pub kept : List ℕ
  pub begun : Bool

-- this is kept of the unfinished line after w
pub record IsBegunBehind (w : List ℕ) (l : BegunLine) : Type 0 where
  pub kept : l.kept ≡ take l.keep (begun_behind [] w)
  pub begun : l.begun ≡ has_some (begun_behind [] w)

-- a piece was read after w: the lines that it ends were added
pub record ReadsLines (w piece : List ℕ) (l : BegunLine)
    (before after : List (List ℕ)) : Type 0 where
  pub ended : after ≡ before ++ fronts_of l.keep (lines_behind (begun_behind [] w) piece)
  pub begun : IsBegunBehind (w ++ piece) l
