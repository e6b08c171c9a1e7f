-- How a tree goes on with all bytes of a class alike.
use Rattle.std.proofs.Common.{◌≡◌, ℕ, ◌<◌, List, [], ◌∷◌, ◌++◌, Option, Some, None, length, refl, sym, ap, ap₂, subst, ◌∙◌, arith}
use Rattle.std.specs.Prelude.{IfSome, MatchOption}
use Rattle.kex_byteset.specs.Classes.{class_count}
use Rattle.kex_model.specs.Labelled.{Labelled, tip, fork, labels_of, Shape, shape_of, size_of, Grown}
use Rattle.kex_machine.specs.Nodes.{Graph, HasClasses}
use Rattle.kex_sst.specs.declared.parts.Part.{Part}
use Rattle.kex_sst.specs.Parts.{Change}
use Rattle.kex_paths.specs.Nexts.{Outline, HasClass, IsNext, IsOfShape, IsChange, FollowsTree}
use Rattle.kex_paths.proofs.LeftTrees.{lists_same, labels-length}
use Rattle.kex_determine.proofs.Transitions.{class_met}
use Rattle.kex_tabfile.specs.Checking.{NextBy}

cut : (xs xs' ys ys' : List (List Part)) → length xs ≡ length xs' → xs ++ ys ≡ xs' ++ ys' → (xs ≡ xs') × (ys ≡ ys')
cut [] [] ys ys' n e = (refl, e)
cut [] (x' ∷ xs') ys ys' n e = absurd (omega arith)
cut (x ∷ xs) [] ys ys' n e = absurd (omega arith)
cut (x ∷ xs) (x' ∷ xs') ys ys' n e =
    let f : xs ++ ys ≡ xs' ++ ys' = cc in
    let g : x ≡ x' = cc in
    let r = cut xs xs' ys ys' (omega arith) f in
    (ap₂ (λ u v. u ∷ v) g r.0, r.1)

labels_long : (t u : Labelled Part ℕ) → shape_of t ≡ shape_of u → length (labels_of t) ≡ length (labels_of u)
labels_long t u e = let n = ap size_of e in omega (arith, labels-length t, labels-length u, n)

-- a tree is its shape and its labels
one_tree : (t u : Labelled Part ℕ) → shape_of t ≡ shape_of u → labels_of t ≡ labels_of u → t ≡ u
one_tree (tip p) (tip q) e f = let g : p ≡ q = cc in ap (λ z. tip z) g
one_tree (tip p) (fork x l y r) e f = let bad : ⊥ = cc in absurd bad
one_tree (fork x l y r) (tip p) e f = let bad : ⊥ = cc in absurd bad
one_tree (fork x l y r) (fork x' l' y' r') e f =
    let left : shape_of l ≡ shape_of l' = cc in
    let right : shape_of r ≡ shape_of r' = cc in
    let g : x ≡ x' = cc in
    let h : labels_of l ++ y ∷ labels_of r ≡ labels_of l' ++ y' ∷ labels_of r' = cc in
    let c = cut (labels_of l) (labels_of l') (y ∷ labels_of r) (y' ∷ labels_of r') (labels_long l l' left) h in
    let i : y ≡ y' = (let k = c.1 in cc) in
    let j : labels_of r ≡ labels_of r' = (let k = c.1 in cc) in
    let tl = one_tree l l' left c.0 in
    let tr = one_tree r r' right j in
    ap (λ (z : List Part). fork z l y r) g ∙ ap (λ (z : Labelled Part ℕ). fork x' z y r) tl ∙ ap (λ (z : List Part). fork x' l' z r) i ∙ ap (λ (z : Labelled Part ℕ). fork x' l' y' z) tr

same_grown : (t : Outline) (u : Change) (a b : Grown Part ℕ) → IsOfShape t (shape_of a.tree) → IsOfShape t (shape_of b.tree) → IsChange u a → IsChange u b → a ≡ b
same_grown t u a b s s' c c' =
    let shape = lists_same (shape_of a.tree) (shape_of b.tree) (sym s.0 ∙ s'.0) (sym s.1 ∙ s'.1) in
    ap₂ (λ x y. let w : Grown Part ℕ = record { label = x; tree = y } in w) (sym c.0 ∙ c'.0) (one_tree a.tree b.tree shape (sym c.1 ∙ c'.1))

-- what comes of a tree with each byte of a class
pub next_by : (g : Graph) (classes : List ℕ) → HasClasses g.nodes classes → (k : ℕ) → k < class_count classes → (s : Shape ℕ) (r : Option (Outline × Change)) → IfSome r (λ n. n.0.machine ≡ g) → ((b : ℕ) → HasClass g k b → MatchOption r (IsNext g b s None) (λ n. FollowsTree n.0 b s n.1)) → NextBy g k s r
next_by g classes classed k lt s None m h = λ b c. h b c
next_by g classes classed k lt s (Some (t, u)) m h =
    let met = class_met classes classed.refined.numbered k lt in
    let f = h met.0 (classes, classed, met.1, met.2) in (
      m,
      f.0,
      (λ b c. let e = h b c in subst (λ z. IsNext g b s (Some z)) (same_grown t u e.0 f.0 e.2 f.2 e.3 f.3) (subst (λ z. IsNext z b s (Some e.0)) m e.1)),
      f.2,
      f.3,
    )

-- what comes of a tree of this machine and shape
pub next_of : (g : Graph) (classes : List ℕ) → HasClasses g.nodes classes → (k : ℕ) → k < class_count classes → (tree : Outline) → tree.machine ≡ g → (s : Shape ℕ) → IsOfShape tree s → (r : Option (Outline × Change)) → IfSome r (λ n. n.0.machine ≡ tree.machine) → ((s : Shape ℕ) (b : ℕ) → IsOfShape tree s → HasClass tree.machine k b → MatchOption r (IsNext tree.machine b s None) (λ n. FollowsTree n.0 b s n.1)) → NextBy g k s r
next_of g classes classed k lt tree is s shape r m h = subst (λ z. NextBy z k s r) is (next_by tree.machine classes (subst (λ z. HasClasses z.nodes classes) (sym is) classed) k lt s r m (λ b has. h s b shape has))
