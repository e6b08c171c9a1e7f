-- What tells shapes apart: their keys, and their nodes in preorder with their places.
use Rattle.std.proofs.Common.{◌≡◌, ℕ, suc, ◌^◌, ◌<◌, ◌≤◌, Bool, true, List, [], ◌∷◌, ◌++◌, length, refl, sym, ap, ap₂, subst, ◌∙◌, append_assoc, length-append, arith}
use Rattle.kex_model.specs.Labelled.{Shape, place, parts, size_of}
use Rattle.kex_machine.specs.Nodes.{Graph}
use Rattle.kex_machine.specs.Advancing.{EachPlace}
use Rattle.kex_paths.specs.Nexts.{Outline, IsOfShape, inner_of, places_of}
use Rattle.kex_paths.specs.Spellings.{key_of, IsTreeSound}

less_one : (p q : ℕ) → suc p ≡ suc q → p ≡ q
less_one p q e = omega arith

no_place : (p : ℕ) → suc p ≡ 0 → ⊥
no_place p e = omega arith

one_key : (s t : Shape ℕ) (x y : List ℕ) → key_of s ++ x ≡ key_of t ++ y → (s ≡ t) × (x ≡ y)
one_key (place p) (place q) x y e = let f : suc p ≡ suc q = cc in let g : x ≡ y = cc in (ap (λ z. place z) (less_one p q f), g)
one_key (place p) (parts l r) x y e = let bad : suc p ≡ 0 = cc in absurd (no_place p bad)
one_key (parts l r) (place p) x y e = let bad : suc p ≡ 0 = cc in absurd (no_place p bad)
one_key (parts l r) (parts l' r') x y e =
    let f : key_of l ++ (key_of r ++ x) ≡ key_of l' ++ (key_of r' ++ y) = sym (append_assoc (key_of l) (key_of r) x) ∙ behind_fork ((key_of l ++ key_of r) ++ x) ((key_of l' ++ key_of r') ++ y) e ∙ append_assoc (key_of l') (key_of r') y in
    let p = one_key l l' (key_of r ++ x) (key_of r' ++ y) f in
    let q = one_key r r' x y p.1 in
    (ap₂ (λ u v. parts u v) p.0 q.0, q.1)
  where
    behind_fork : (xs ys : List ℕ) → 0 ∷ xs ≡ 0 ∷ ys → xs ≡ ys
    behind_fork xs ys e = cc

-- keys are equal exactly for equal shapes
pub key_same : (s t : Shape ℕ) → key_of s ≡ key_of t → s ≡ t
key_same s t e = (one_key s t [] [] (ap (λ z. z ++ []) e)).0

one_outline : (s t : Shape ℕ) (x y : List Bool) (u v : List ℕ) → inner_of s ++ x ≡ inner_of t ++ y → places_of s ++ u ≡ places_of t ++ v → (s ≡ t) × (x ≡ y) × (u ≡ v)
one_outline (place p) (place q) x y u v e f = let g : p ≡ q = cc in let h : x ≡ y = cc in let k : u ≡ v = cc in (ap (λ z. place z) g, h, k)
one_outline (place p) (parts l r) x y u v e f = let bad : ⊥ = cc in absurd bad
one_outline (parts l r) (place p) x y u v e f = let bad : ⊥ = cc in absurd bad
one_outline (parts l r) (parts l' r') x y u v e f =
    let g : inner_of l ++ (inner_of r ++ x) ≡ inner_of l' ++ (inner_of r' ++ y) = sym (append_assoc (inner_of l) (inner_of r) x) ∙ behind_fork ((inner_of l ++ inner_of r) ++ x) ((inner_of l' ++ inner_of r') ++ y) e ∙ append_assoc (inner_of l') (inner_of r') y in
    let h : places_of l ++ (places_of r ++ u) ≡ places_of l' ++ (places_of r' ++ v) = sym (append_assoc (places_of l) (places_of r) u) ∙ f ∙ append_assoc (places_of l') (places_of r') v in
    let p = one_outline l l' (inner_of r ++ x) (inner_of r' ++ y) (places_of r ++ u) (places_of r' ++ v) g h in
    let q = one_outline r r' x y u v p.1 p.2 in
    (ap₂ (λ a b. parts a b) p.0 q.0, q.1, q.2)
  where
    behind_fork : (xs ys : List Bool) → true ∷ xs ≡ true ∷ ys → xs ≡ ys
    behind_fork xs ys e = cc

-- a path tree has one shape
pub shape_same : (tree : Outline) (s t : Shape ℕ) → IsOfShape tree s → IsOfShape tree t → s ≡ t
shape_same tree s t h k = (one_outline s t [] [] [] [] (ap (λ z. z ++ []) (sym h.0 ∙ k.0)) (ap (λ z. z ++ []) (sym h.1 ∙ k.1))).0

pub inner_long : (s : Shape ℕ) → length (inner_of s) ≡ size_of s
inner_long (place p) = refl
inner_long (parts l r) = omega (arith, length-append (inner_of l) (inner_of r), inner_long l, inner_long r)

pub size_above : (s : Shape ℕ) → 0 < size_of s
size_above (place p) = omega arith
size_above (parts l r) = omega arith

-- the places of a tree are nodes, and its nodes fit 32 bits
pub sound_as : (g : Graph) (tree : Outline) (s : Shape ℕ) → tree.machine ≡ g → IsOfShape tree s → IsTreeSound tree.machine tree.shape tree.leaves → EachPlace (length g.nodes) s × (size_of s ≤ 2 ^ 32)
sound_as g tree s same shape sound =
    let one = shape_same tree sound.shape s (sound.inner_is, sound.places_are) shape in
    (subst (λ z. EachPlace (length z.nodes) s) same (subst (λ z. EachPlace (length tree.machine.nodes) z) one sound.in_range), omega (arith, ap size_of one, sound.small, sound.few))
