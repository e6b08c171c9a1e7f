-- What a place may do next, and walks: lists of steps.
use Rattle.std.specs.Prelude.{◌≡◌, ℕ, Bool, true, false, List, [], ◌∷◌, ◌++◌, get_or, IsTrue}
use Rattle.kex_code.specs.declared.symbol.Symbol.{Symbol}
use Rattle.kex_code.specs.declared.symbol.Symbol.TheVariants.{L, R, Byte}
use Rattle.kex_code.specs.declared.piece.Piece.{Piece}

-- what a step does to the output, the open buffers and the registers
pub data Effect : Type 0 where
  nothing : Effect
  append : List ℕ → Effect
  open_buffer : Effect
  drop_buffer : Effect
  into : ℕ → Effect
  write : ℕ → Effect
  set_to : ℕ → List Piece → Effect
  add_to : ℕ → List Piece → Effect

-- the side of a choice
pub data Side : Type 0 where
  to_left : Side
  to_right : Side

abbrev pub symbol_of : Side → Symbol
symbol_of to_left = L
symbol_of to_right = R

-- the sides of another turn and of the end: a repetition that is lazy prefers the end
abbrev pub turn_side : Bool → Side
turn_side false = to_left
turn_side true = to_right

abbrev pub end_side : Bool → Side
end_side false = to_right
end_side true = to_left

-- what there is to do at a place, over places of a type S
pub data Move (S : Type 0) : Type 0 where
  accept : Move S
  -- read a byte of a set
  read : List Bool → S → Move S
  -- choose the left or the right
  choose : S → S → Move S
  -- the side that a choice has left
  forced : Side → S → Move S
  -- go on, with an effect
  go : Effect → S → Move S

-- another turn or the end, to the left the one that is preferred
abbrev pub turn_or_end : {S : Type 0} → Bool → S → S → Move S
turn_or_end false turn end = choose turn end
turn_or_end true turn end = choose end turn

-- a step that was made, with the place that it enters
pub data Step (S : Type 0) : Type 0 where
  took : ℕ → S → Step S
  chose : Side → S → Step S
  went : Effect → S → Step S

-- the move allows the step
pub data Allows {S : Type 0} : Move S → Step S → Type 0 where
  reads : {set : List Bool} {b : ℕ} {s : S} → IsTrue (get_or set b false)
      → Allows (read set s) (took b s)
  goes_left : {l r : S} → Allows (choose l r) (chose to_left l)
  goes_right : {l r : S} → Allows (choose l r) (chose to_right r)
  goes_forced : {x : Side} {s : S} → Allows (forced x s) (chose x s)
  goes : {e : Effect} {s : S} → Allows (go e s) (went e s)

abbrev pub target_of : {S : Type 0} → Step S → S
target_of (took b s) = s
target_of (chose x s) = s
target_of (went e s) = s

-- the symbols of a step: one, or none
abbrev pub symbols_of : {S : Type 0} → Step S → List Symbol
symbols_of (took b s) = Byte b ∷ []
symbols_of (chose x s) = symbol_of x ∷ []
symbols_of (went e s) = []

abbrev pub code_of : {S : Type 0} → List (Step S) → List Symbol
code_of [] = []
code_of (k ∷ ks) = symbols_of k ++ code_of ks

abbrev pub IsWaiting : {S : Type 0} → Move S → Type 0
IsWaiting accept = Unit {0}
IsWaiting (read set t) = Unit {0}
IsWaiting (choose l r) = ⊥
IsWaiting (forced x t) = ⊥
IsWaiting (go e t) = ⊥

-- where a move leads without a byte
abbrev pub quiet : {S : Type 0} → Move S → List S
quiet accept = []
quiet (read set t) = []
quiet (choose l r) = r ∷ l ∷ []
quiet (forced x t) = t ∷ []
quiet (go e t) = t ∷ []

module _ {S : Type 0} (moves : S → Move S) where
  -- the steps lead from s to t
  abbrev pub Walk : S → List (Step S) → S → Type 0
  Walk s [] t = s ≡ t
  Walk s (k ∷ ks) t = Allows (moves s) k × Walk (target_of k) ks t

  -- a place that waits for a byte or the end
  abbrev pub Waits : S → Type 0
  Waits s = IsWaiting (moves s)
