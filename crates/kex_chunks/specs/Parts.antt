-- Summaries of the parts of a text.
use Rattle.std.specs.Prelude.{◌≡◌, ℕ, List, [], ◌∷◌, ◌++◌, Option, Some, None}
use Rattle.kex_sst.specs.Tables.{Transducer}
use Rattle.kex_sst.specs.Summaries.{Sum, sum_of}

-- a text is cut into parts, and these are their summaries, in order
abbrev pub AreSummaries : Transducer → List ℕ → List (Option Sum) → Type 0
AreSummaries t x [] = x ≡ []
AreSummaries t x (None ∷ sums) = ⊥
AreSummaries t x (Some s ∷ sums) =
    (y z : List ℕ) × (x ≡ y ++ z) × (s ≡ sum_of t y) × AreSummaries t z sums
