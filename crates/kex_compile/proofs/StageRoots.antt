-- Where the stages of a program begin, one after the other.
use Rattle.std.proofs.Common.{◌≡◌, ◌+◌, ◌<◌, ◌≤◌, ℕ, zero, suc, List, [], ◌∷◌, ◌++◌, length, take, drop, map, get_or, refl, ap, arith}
use Rattle.std.proofs.lemmas.List.{map_more, take_all}
use Rattle.kex_model.specs.Programs.{Grammar}
use Rattle.kex_model.specs.Trees.{root_of}
use Rattle.kex_model.specs.declared.program.Start.{Start}
use Rattle.kex_compile.specs.Stages.{roots_of}

apart : {A : Type 0} (f : A → ℕ) (xs : List A) (i : ℕ) (d : A) → i < length xs → map f xs ≡ map f (take i xs) ++ f (get_or xs i d) ∷ map f (drop (suc i) xs)
apart f [] i d lt = absurd (omega (arith, lt))
apart f (x ∷ xs) zero d lt = refl
apart f (x ∷ xs) (suc i) d lt = ap (λ z. f x ∷ z) (apart f xs i d (omega (arith, lt)))

module _ (P : Grammar) where
  abbrev pub start_at : Start → ℕ
  start_at s = root_of P s.name

  -- one of them apart
  pub roots-apart : (i : ℕ) (d : Start) → i < length P.stages → roots_of P ≡ map start_at (take i P.stages) ++ start_at (get_or P.stages i d) ∷ map start_at (drop (suc i) P.stages)
  roots-apart i d lt = apart start_at P.stages i d lt

  -- one more
  pub roots-more : (i : ℕ) (d : Start) → i < length P.stages → map start_at (take (i + 1) P.stages) ≡ map start_at (take i P.stages) ++ start_at (get_or P.stages i d) ∷ []
  roots-more i d lt = map_more start_at P.stages i d lt

  -- all of them
  pub all-roots : (i : ℕ) → length P.stages ≤ i → map start_at (take i P.stages) ≡ roots_of P
  all-roots i past = ap (λ z. map start_at z) (take_all i P.stages past)
