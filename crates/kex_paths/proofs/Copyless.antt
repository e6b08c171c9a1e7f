-- Each old register is at most once in an update: they rise in it.
use Rattle.std.proofs.Common.{◌≡◌, ℕ, suc, false, length, replicate, ◌+◌, ◌<◌, ◌≤◌, Bool, List, [], ◌∷◌, ◌++◌, Option, Some, None, refl, sym, ap, subst, ◌∙◌, append_assoc, append-nil, arith}
use Rattle.kex_code.specs.declared.symbol.Symbol.TheVariants.{L, R}
use Rattle.kex_model.specs.Moves.{Move, symbol_of}
use Rattle.kex_model.specs.Labelled.{Labelled, tip, fork, labels_of, Shape, place, parts, size_of, Grown, with_prefix, fork_of}
use Rattle.kex_machine.specs.Nodes.{Graph, node_moves}
use Rattle.kex_machine.specs.Advancing.{known, stops, parts_off, is_forced, passes_on, Advances, dies, reads_on, both}
use Rattle.kex_sst.specs.declared.parts.Part.{Part}
use Rattle.kex_sst.specs.declared.parts.Part.TheVariants.{Put, Old, Input}
use Rattle.kex_sst.specs.Parts.{Change, olds, olds_in, reads_of}
use Rattle.kex_paths.specs.Nexts.{Explores, TreeGoesOn, IsFirstTree, IsNext, IsChange, RiseWithin}

-- all that a tree and the label before it read: what is passed on, and then the registers in order
abbrev pub reads_in : Option (Grown Part ℕ) → List ℕ
reads_in None = []
reads_in (Some g) = olds g.label ++ olds_in (labels_of g.tree)

pub olds-append : (xs ys : List Part) → olds (xs ++ ys) ≡ olds xs ++ olds ys
olds-append [] ys = refl
olds-append (Old i ∷ xs) ys = ap (λ z. i ∷ z) (olds-append xs ys)
olds-append (Put s ∷ xs) ys = olds-append xs ys
olds-append (Input ∷ xs) ys = olds-append xs ys

olds_in-append : (xs ys : List (List Part)) → olds_in (xs ++ ys) ≡ olds_in xs ++ olds_in ys
olds_in-append [] ys = refl
olds_in-append (x ∷ xs) ys = ap (λ z. olds x ++ z) (olds_in-append xs ys) ∙ sym (append_assoc (olds x) (olds_in xs) (olds_in ys))

behind_reads : (x : Part) (a : Option (Grown Part ℕ)) → olds (x ∷ []) ≡ [] → reads_in (with_prefix (x ∷ []) a) ≡ reads_in a
behind_reads x None e = refl
behind_reads x (Some g) e = ap (λ z. z ++ olds_in (labels_of g.tree)) (olds-append (x ∷ []) g.label ∙ ap (λ z. z ++ olds g.label) e)

-- what is read by two sides, of which each may be gone
both_reads : (x y : Part) (a b : Option (Grown Part ℕ)) → (u v : List ℕ) → reads_in (with_prefix (x ∷ []) a) ≡ u → reads_in (with_prefix (y ∷ []) b) ≡ v → reads_in (fork_of (with_prefix (x ∷ []) a) (with_prefix (y ∷ []) b)) ≡ u ++ v
both_reads x y None None u v e f = cc
both_reads x y (Some l) None u v e f = e ∙ sym (append-nil u) ∙ ap (λ z. u ++ z) f
both_reads x y None (Some r) u v e f = f ∙ ap (λ z. z ++ v) e
both_reads x y (Some l) (Some r) u v e f =
    ap (λ z. olds (x ∷ l.label) ++ z) (olds_in-append (labels_of l.tree) ((y ∷ r.label) ∷ labels_of r.tree))
    ∙ sym (append_assoc (olds (x ∷ l.label)) (olds_in (labels_of l.tree)) (olds (y ∷ r.label) ++ olds_in (labels_of r.tree)))
    ∙ ap (λ z. z ++ (olds (y ∷ r.label) ++ olds_in (labels_of r.tree))) e
    ∙ ap (λ z. u ++ z) f

visit_reads : {moves : ℕ → Move ℕ} {f g : List Bool} {n : ℕ} {a : Option (Grown Part ℕ)} → Explores moves f n a g → reads_in a ≡ []
visit_reads (known e) = refl
visit_reads (stops lt e w) = refl
visit_reads (parts_off {a = a} {b = b} lt e m v u) = both_reads (Put L) (Put R) a b [] [] (behind_reads (Put L) a refl ∙ visit_reads v) (behind_reads (Put R) b refl ∙ visit_reads u)
visit_reads (is_forced {x = x} {a = a} lt e m v) = behind_reads (Put (symbol_of x)) a refl ∙ visit_reads v
visit_reads (passes_on lt e m v) = visit_reads v

within-append : (lo mid hi : ℕ) (xs ys : List ℕ) → lo ≤ mid → mid ≤ hi → RiseWithin lo mid xs → RiseWithin mid hi ys → RiseWithin lo hi (xs ++ ys)
within-append lo mid hi [] [] p q h k = tt
within-append lo mid hi [] (y ∷ ys) p q h k = (omega (arith, k.0), k.1, k.2)
within-append lo mid hi (x ∷ xs) ys p q h k = (h.0, omega (arith, h.1), within-append (suc x) mid hi xs ys (omega (arith, h.1)) q h.2 k)

front_reads : (k hi : ℕ) (a : Option (Grown Part ℕ)) → k < hi → RiseWithin (suc k) hi (reads_in a) → RiseWithin k hi (reads_in (with_prefix (Old k ∷ []) a))
front_reads k hi None lt h = tt
front_reads k hi (Some g) lt h = (omega arith, lt, h)

some_nodes : (s : Shape ℕ) → 1 ≤ size_of s
some_nodes (place p) = omega arith
some_nodes (parts l r) = omega arith

tip_reads : {moves : ℕ → Move ℕ} {b p : ℕ} {f g : List Bool} {a : Option (Grown Part ℕ)} → Advances (λ s. Put s) Input moves b f (tip p) a g → reads_in a ≡ []
tip_reads (dies h) = refl
tip_reads (reads_on {a = a} h v) = behind_reads Input a refl ∙ visit_reads v

-- a fork that goes on, by its sides
pub record Sides (moves : ℕ → Move ℕ) (b : ℕ) (f : List Bool) (u : List Part) (l : Labelled Part ℕ) (v : List Part) (r : Labelled Part ℕ) (a : Option (Grown Part ℕ)) (h : List Bool) : Type 0 where
  pub left : Option (Grown Part ℕ)
  pub right : Option (Grown Part ℕ)
  pub between : List Bool
  pub first : Advances (λ s. Put s) Input moves b f l left between
  pub second : Advances (λ s. Put s) Input moves b between r right h
  pub whole : a ≡ fork_of (with_prefix u left) (with_prefix v right)

pub sides_of : {moves : ℕ → Move ℕ} {b : ℕ} {f h : List Bool} {u v : List Part} {l r : Labelled Part ℕ} {a : Option (Grown Part ℕ)} → Advances (λ s. Put s) Input moves b f (fork u l v r) a h → Sides moves b f u l v r a h
sides_of (both {g = g} {x = x} {y = y} p q) = record { left = x; right = y; between = g; first = p; second = q; whole = refl }

-- the registers that are read are edges of the old tree, in order
pub advance_reads : (moves : ℕ → Move ℕ) (b k : ℕ) (f g : List Bool) (s : Shape ℕ) (a : Option (Grown Part ℕ)) → TreeGoesOn moves b k f s a g → (hi : ℕ) → suc hi ≡ k + size_of s → RiseWithin k hi (reads_in a)
advance_reads moves b k f g (place p) a v hi e = subst (λ z. RiseWithin k hi z) (sym (tip_reads v)) tt
advance_reads moves b k f g (parts l r) a w hi e =
    let t = sides_of w in
    let mid : ℕ = k + size_of l in
    let some = some_nodes l in
    let more = some_nodes r in
    let p = advance_reads moves b (suc k) f t.between l t.left t.first mid (omega arith) in
    let q = advance_reads moves b (suc (k + size_of l)) t.between g r t.right t.second hi (omega arith) in
    subst (λ z. RiseWithin k hi z) (sym (ap reads_in t.whole ∙ both_reads (Old k) (Old (k + size_of l)) t.left t.right (reads_in (with_prefix (Old k ∷ []) t.left)) (reads_in (with_prefix (Old (k + size_of l) ∷ []) t.right)) refl refl))
    (within-append k (k + size_of l) hi (reads_in (with_prefix (Old k ∷ []) t.left)) (reads_in (with_prefix (Old (k + size_of l) ∷ []) t.right)) (omega arith) (omega arith)
    (front_reads k (k + size_of l) t.left (omega arith) p)
    (front_reads (k + size_of l) hi t.right (omega arith) q))

-- in the update with which a tree of this shape goes on the old registers rise, and are edges of the tree
pub next_reads : (g : Graph) (b : ℕ) (s : Shape ℕ) (u : Change) (a : Grown Part ℕ) → IsNext g b s (Some a) → IsChange u a → (hi : ℕ) → suc hi ≡ size_of s → RiseWithin 0 hi (reads_of u)
next_reads g b s u a (marks, v) (p, q) hi e =
    subst (λ z. RiseWithin 0 hi (olds z ++ olds_in u.regs)) (sym p) (subst (λ z. RiseWithin 0 hi (olds a.label ++ olds_in z)) (sym q) (advance_reads (node_moves g.nodes) b 0 (replicate (length g.nodes) false) marks s (Some a) v hi (omega arith)))

-- an update before the first byte reads no register
pub first_reads : (g : Graph) (u : Change) (a : Grown Part ℕ) → IsFirstTree g (Some a) → IsChange u a → reads_of u ≡ []
first_reads g u a (marks, v) (p, q) = ap (λ z. olds z ++ olds_in u.regs) p ∙ ap (λ z. olds a.label ++ olds_in z) q ∙ visit_reads v
