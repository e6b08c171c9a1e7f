-- Texts that are kept one after the other.
use Rattle.std.specs.Prelude.{◌≡◌, ◌≤◌, ◌-◌, ℕ, zero, suc, List, [], ◌∷◌, take, drop}

-- what comes up to each end, from this place on
abbrev pub cut_at : ℕ → List ℕ → List ℕ → List (List ℕ)
cut_at from [] bytes = []
cut_at from (end ∷ ends) bytes =
    take (end - from) bytes ∷ cut_at end ends (drop (end - from) bytes)

-- no end comes before the one before it, and the last is here
abbrev pub AreEnds : ℕ → List ℕ → ℕ → Type 0
AreEnds from [] last = from ≡ last
AreEnds from (end ∷ ends) last = (from ≤ end) × AreEnds end ends last

-- where the text at this place begins
abbrev pub begin_of : ℕ → List ℕ → ℕ → ℕ
begin_of from ends zero = from
begin_of from [] (suc index) = from
begin_of from (end ∷ ends) (suc index) = begin_of end ends index
