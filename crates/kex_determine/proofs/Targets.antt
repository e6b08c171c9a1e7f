-- A transition, and where it leads.
use Rattle.std.proofs.Common.{◌≡◌, ℕ, ◌<◌, List, [], ◌∷◌, ◌++◌, ◌⊎◌, inl, inr, ⊎_elim, Some, length, refl, sym, ap, ◌∙◌, append-nil, length-append, arith}
use Rattle.std.specs.Global.{Vec}
use Rattle.kex_code.specs.Codes.{Begins}
use Rattle.kex_model.specs.Labelled.{Shape}
use Rattle.kex_machine.specs.Nodes.{Graph}
use Rattle.kex_sst.specs.Parts.{Change}
use Rattle.kex_paths.specs.Nexts.{Outline}
use Rattle.kex_determine.specs.Determined.{MeetsInOrder}
use Rattle.kex_determine.specs.Numbering.{IsMet, IsWith, IsFollowed}
use Rattle.kex_determine.proofs.DifferentShapes.{shape_same}

pub one_begins : (xs ys : List (Shape ℕ)) (s : Shape ℕ) (i : ℕ) → ((ys ≡ xs) × (i < length xs)) ⊎ ((ys ≡ xs ++ s ∷ []) × (i ≡ length xs)) → Begins ys xs
one_begins xs ys s i h = ⊎_elim (λ e. ([], e.0 ∙ sym (append-nil xs))) (λ e. (s ∷ [], e.0)) h

one_met : (xs ys : List (Shape ℕ)) (s : Shape ℕ) (i : ℕ) → ((ys ≡ xs) × (i < length xs)) ⊎ ((ys ≡ xs ++ s ∷ []) × (i ≡ length xs)) → MeetsInOrder (length xs) (i ∷ []) (length ys)
one_met xs ys s i h = ⊎_elim (λ e. inl (e.1, sym (ap length e.0))) (λ e. inr (e.1, omega (arith, ap length e.0, length-append xs (s ∷ [])))) h

pub followed : (g : Graph) (keys : List (Vec ℕ)) (trees : List Outline) (xs ys : List (Shape ℕ)) (tree : Outline) (u : Change) (s : Shape ℕ) (i : ℕ) → IsMet g tree s → IsWith g keys trees xs s i ys → IsFollowed g keys trees xs (Some (tree, u)) ys (Some (record { target = i; update = u }))
followed g keys trees xs ys tree u s i met w = record {
  numbered = w.numbered;
  begins = one_begins xs ys s i w.grown;
  target = (refl, (λ t h. w.at ∙ ap (λ z. Some z) (shape_same tree s t met.shape h)));
  order = one_met xs ys s i w.grown;
}
