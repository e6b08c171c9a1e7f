-- The texts of updates, part by part.
use Rattle.std.proofs.Common.{◌≡◌, ℕ, List, [], ◌∷◌, ◌++◌, refl, ap, sym, ◌∙◌, append_assoc, append-nil}
use Rattle.std.specs.Prelude.{codes}
use Rattle.kex_sst.specs.declared.parts.Part.{Part}
use Rattle.kex_tabfile.specs.Lines.{part_text, parts_text, registers_text}

pub parts_text-append : (xs ys : List Part) → parts_text (xs ++ ys) ≡ parts_text xs ++ parts_text ys
parts_text-append [] ys = refl
parts_text-append (x ∷ xs) ys = ap (λ z. part_text x ++ z) (parts_text-append xs ys) ∙ sym (append_assoc (part_text x) (parts_text xs) (parts_text ys))

pub registers_text-append : (xs ys : List (List Part)) → registers_text (xs ++ ys) ≡ registers_text xs ++ registers_text ys
registers_text-append [] ys = refl
registers_text-append (x ∷ xs) ys = ap (λ z. codes "," ++ (parts_text x ++ z)) (registers_text-append xs ys) ∙ ap (λ z. codes "," ++ z) (sym (append_assoc (parts_text x) (registers_text xs) (registers_text ys)))

-- one part more
pub parts_more : (line : List ℕ) (xs : List Part) (x : Part) → (line ++ parts_text xs) ++ part_text x ≡ line ++ parts_text (xs ++ x ∷ [])
parts_more line xs x = append_assoc line (parts_text xs) (part_text x) ∙ ap (λ z. line ++ z) (ap (λ z. parts_text xs ++ z) (sym (append-nil (part_text x))) ∙ sym (parts_text-append xs (x ∷ [])))

-- one register more
pub registers_more : (line : List ℕ) (xs : List (List Part)) (x : List Part) → ((line ++ registers_text xs) ++ codes ",") ++ parts_text x ≡ line ++ registers_text (xs ++ x ∷ [])
registers_more line xs x =
    append_assoc (line ++ registers_text xs) (codes ",") (parts_text x)
    ∙ append_assoc line (registers_text xs) (codes "," ++ parts_text x)
    ∙ ap (λ z. line ++ z) (ap (λ z. registers_text xs ++ (codes "," ++ z)) (sym (append-nil (parts_text x))) ∙ sym (registers_text-append xs (x ∷ [])))
