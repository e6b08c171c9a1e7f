-- How many items the updates along a text have.
use Rattle.std.specs.Prelude.{ℕ, ◌+◌, List, [], ◌∷◌, Option, Some, None}
use Rattle.kex_sst.specs.declared.table.Transition.{Transition}
use Rattle.kex_sst.specs.Parts.{item_count}
use Rattle.kex_sst.specs.Tables.{Transducer}
use Rattle.kex_sst.specs.Passes.{next_of}

-- the items of a transition and of those that follow it along a text, as far as the table goes on
abbrev pub items_from : Transducer → Option Transition → List ℕ → ℕ
items_from t None w = 0
items_from t (Some r) [] = item_count r.update
items_from t (Some r) (b ∷ w) = item_count r.update + items_from t (next_of t r.target b) w

-- the items of the updates along a text from a state
abbrev pub items_along : Transducer → ℕ → List ℕ → ℕ
items_along t state [] = 0
items_along t state (b ∷ w) = items_from t (next_of t state b) w
