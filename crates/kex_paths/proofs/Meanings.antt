-- What parts mean: lists, and the tree of registers.
use Rattle.std.proofs.Common.{◌≡◌, ℕ, suc, ◌+◌, List, [], ◌∷◌, ◌++◌, length, get_or, refl, sym, ap, ap₂, ◌∙◌, append_assoc, append-nil, length-append, arith}
use Rattle.kex_code.specs.declared.symbol.Symbol.{Symbol}
use Rattle.kex_model.specs.Labelled.{Labelled, tip, fork, labels_of, shape_of, size_of, map_labels}
use Rattle.kex_sst.specs.declared.parts.Part.{Part}
use Rattle.kex_sst.specs.Parts.{value, parts_code, numbered_tree}

pub parts_code-append : (regs : List (List Symbol)) (b : ℕ) (xs ys : List Part) → parts_code regs b (xs ++ ys) ≡ parts_code regs b xs ++ parts_code regs b ys
parts_code-append regs b [] ys = refl
parts_code-append regs b (x ∷ xs) ys = ap (λ z. value regs b x ++ z) (parts_code-append regs b xs ys) ∙ sym (append_assoc (value regs b x) (parts_code regs b xs) (parts_code regs b ys))

get_or-at : {A : Type 0} (xs : List A) (x d : A) (ys : List A) → get_or (xs ++ x ∷ ys) (length xs) d ≡ x
get_or-at [] x d ys = refl
get_or-at (z ∷ xs) x d ys = get_or-at xs x d ys

-- a tree has one label less than nodes
pub labels_and_size : {A S : Type 0} (t : Labelled A S) → suc (length (labels_of t)) ≡ size_of (shape_of t)
labels_and_size (tip p) = refl
labels_and_size (fork x l y r) = omega (arith, labels_and_size l, labels_and_size r, length-append (labels_of l) (y ∷ labels_of r))

-- registers among which are the labels, from number k on, make the tree again
pub registers_within : (b : ℕ) (t : Labelled Symbol ℕ) (pre post regs : List (List Symbol)) (k : ℕ) → regs ≡ pre ++ labels_of t ++ post → k ≡ length pre → map_labels (parts_code regs b) (numbered_tree k (shape_of t)) ≡ t
registers_within b (tip p) pre post regs k e h = refl
registers_within b (fork x l y r) pre post regs k e h =
    let whole : regs ≡ pre ++ x ∷ (labels_of l ++ y ∷ (labels_of r ++ post)) = e ∙ append_assoc pre (labels_of (fork x l y r)) post ∙ ap (λ z. pre ++ x ∷ z) (append_assoc (labels_of l) (y ∷ labels_of r) post) in
    let at_left : regs ≡ (pre ++ x ∷ []) ++ labels_of l ++ (y ∷ (labels_of r ++ post)) = whole ∙ sym (append_assoc pre (x ∷ []) (labels_of l ++ y ∷ (labels_of r ++ post))) ∙ sym (append_assoc (pre ++ x ∷ []) (labels_of l) (y ∷ (labels_of r ++ post))) in
    let before : List (List Symbol) = (pre ++ x ∷ []) ++ labels_of l in
    let at_right : regs ≡ (before ++ y ∷ []) ++ labels_of r ++ post = at_left ∙ sym (append_assoc before (y ∷ []) (labels_of r ++ post)) ∙ sym (append_assoc (before ++ y ∷ []) (labels_of r) post) in
    let here : suc k ≡ length (pre ++ x ∷ []) = omega (arith, length-append pre (x ∷ []), h) in
    let there : k + size_of (shape_of l) ≡ length before = omega (arith, length-append pre (x ∷ []), length-append (pre ++ x ∷ []) (labels_of l), labels_and_size l, h) in
    let past : suc (k + size_of (shape_of l)) ≡ length (before ++ y ∷ []) = omega (arith, length-append before (y ∷ []), there) in
    let first : get_or regs k [] ≡ x = ap₂ (λ u v. get_or u v []) whole h ∙ get_or-at pre x [] (labels_of l ++ y ∷ (labels_of r ++ post)) in
    let second : get_or regs (k + size_of (shape_of l)) [] ≡ y = ap₂ (λ u v. get_or u v []) at_left there ∙ get_or-at before y [] (labels_of r ++ post) in
    same _ _ _ _ (append-nil _ ∙ first) (registers_within b l (pre ++ x ∷ []) (y ∷ (labels_of r ++ post)) regs (suc k) at_left here) (append-nil _ ∙ second) (registers_within b r (before ++ y ∷ []) post regs (suc (k + size_of (shape_of l))) at_right past)
  where
    same : {x' y' : List Symbol} {l' r' : Labelled Symbol ℕ} (u v : List Symbol) (p q : Labelled Symbol ℕ) → u ≡ x' → p ≡ l' → v ≡ y' → q ≡ r' → fork u p v q ≡ fork x' l' y' r'
    same u v p q e f g h = cc

-- registers that hold the labels make the tree again
pub registers_hold : (b : ℕ) (t : Labelled Symbol ℕ) → map_labels (parts_code (labels_of t) b) (numbered_tree 0 (shape_of t)) ≡ t
registers_hold b t = registers_within b t [] [] (labels_of t) 0 (sym (append-nil (labels_of t))) refl
