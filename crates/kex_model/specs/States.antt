-- A stage's states: the shapes of its viable texts (the path trees of the Kleenex paper, POPL 2016,
-- with the codes left out).
use Rattle.std.specs.Prelude.{◌≡◌, ℕ, ◌<◌, List, [], ◌∷◌, length}
use Rattle.kex_code.specs.Codes.{IsAmong}
use Rattle.kex_model.specs.Labelled.{Shape}
use Rattle.kex_model.specs.Moves.{Move}
use Rattle.kex_model.specs.Survivors.{HasShape}

-- no item is there twice
abbrev pub AllDifferent : {A : Type 0} → List A → Type 0
AllDifferent [] = Unit {0}
AllDifferent (x ∷ xs) = (¬ IsAmong xs x) × AllDifferent xs

module _ {S : Type 0} (moves : S → Move S) (start : S) where
  -- s is the shape of some text, which is then viable
  abbrev pub IsState : Shape S → Type 0
  IsState s = (w : List ℕ) × HasShape moves start w s

  -- there are more than n states
  abbrev pub HasMoreStates : ℕ → Type 0
  HasMoreStates n = (xs : List (Shape S)) × (n < length xs) × AllDifferent xs
      × ((s : Shape S) → IsAmong xs s → IsState s)

  -- there are exactly n states
  pub record HasStates (n : ℕ) : Type 0 where
    pub states : List (Shape S)
    pub count : n ≡ length states
    pub different : AllDifferent states
    pub each : (s : Shape S) → IsAmong states s → IsState s
    pub all : (s : Shape S) → IsState s → IsAmong states s
