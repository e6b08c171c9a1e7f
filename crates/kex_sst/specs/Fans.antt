-- Transitions by class, where classes share them.
use Rattle.std.specs.Prelude.{ℕ, ◌<◌, ◌≤◌, List, Option, None, get_or, length, map}
use Rattle.std.specs.List.{range_with_len}
use Rattle.kex_sst.specs.declared.table.Transition.{Transition}

-- the transition of a class's number; a class past the last number has the first transition
abbrev pub fan_at : List ℕ → List (Option Transition) → ℕ → Option Transition
fan_at numbers different class = get_or different (get_or numbers class 0) None

-- those of `classes` classes, in order
abbrev pub fan : ℕ → List ℕ → List (Option Transition) → List (Option Transition)
fan classes numbers different =
    map (λ class. fan_at numbers different class) (range_with_len 0 classes)

-- each of the classes has the number of a transition
pub record IsFan (classes : ℕ) (numbers : List ℕ)
    (different : List (Option Transition)) : Type 0 where
  pub few : classes ≤ 256
  pub short : length numbers ≤ classes
  pub many : length different ≤ classes
  pub each : (class : ℕ) → class < classes → get_or numbers class 0 < length different
