-- When a path tree goes on alike with two bytes, or with those of two classes.
use Rattle.std.specs.Prelude.{ℕ, ◌↔◌, All, List, Option}
use Rattle.kex_model.specs.Moves.{Move, took, Allows}
use Rattle.kex_model.specs.Labelled.{Shape, Grown}
use Rattle.kex_sst.specs.declared.parts.Part.{Part}
use Rattle.kex_paths.specs.Nexts.{Outline, IsOfShape, HasClass, IsNext}

-- from place p the bytes lead to the same places
abbrev pub LeadAlikeAt : (ℕ → Move ℕ) → ℕ → ℕ → ℕ → Type 0
LeadAlikeAt moves b c p = (t : ℕ) → Allows (moves p) (took b t) ↔ Allows (moves p) (took c t)

-- and so from each of these places
abbrev pub LeadAlikeFrom : (ℕ → Move ℕ) → ℕ → ℕ → List ℕ → Type 0
LeadAlikeFrom moves b c places = All (λ p. LeadAlikeAt moves b c p) places

-- what comes of a tree with a byte of one class comes of it with each of the other
abbrev pub GoesOnAlike : Outline → ℕ → ℕ → Type 0
GoesOnAlike tree class other = (s : Shape ℕ) (b c : ℕ) (a : Option (Grown Part ℕ))
    → IsOfShape tree s → HasClass tree.machine class b → HasClass tree.machine other c
    → IsNext tree.machine b s a → IsNext tree.machine c s a
