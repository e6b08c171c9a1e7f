-- A tree that goes on has places in range, and at most as many tips as there are nodes.
use Rattle.std.proofs.Common.{◌≡◌, ℕ, zero, suc, ◌+◌, ◌*◌, ◌<◌, ◌≤◌, Bool, true, false, List, [], ◌∷◌, Option, Some, None, length, get_or, set, replicate, refl, ap, ◌∙◌, length-set, arith}
use Rattle.kex_code.specs.declared.symbol.Symbol.{Symbol}
use Rattle.kex_code.specs.declared.symbol.Symbol.TheVariants.{L, R}
use Rattle.kex_model.specs.Moves.{Move, symbol_of}
use Rattle.kex_model.specs.Labelled.{Labelled, shape_of, size_of, Grown, with_prefix, fork_of}
use Rattle.kex_machine.specs.Advancing.{Visits, known, stops, parts_off, is_forced, passes_on, Advances, dies, reads_on, both, EachPlace}

-- how many places weren't met
abbrev pub unseen : List Bool → ℕ
unseen [] = 0
unseen (true ∷ xs) = unseen xs
unseen (false ∷ xs) = suc (unseen xs)

pub unseen-set : (xs : List Bool) (n : ℕ) → n < length xs → get_or xs n false ≡ false → unseen xs ≡ suc (unseen (set xs n true))
unseen-set [] n lt e = absurd (omega arith)
unseen-set (true ∷ xs) zero lt e = cc
unseen-set (false ∷ xs) zero lt e = refl
unseen-set (true ∷ xs) (suc n) lt e = unseen-set xs n (omega arith) e
unseen-set (false ∷ xs) (suc n) lt e = ap suc (unseen-set xs n (omega arith) e)

-- twice the number of tips
abbrev pub weight : {A : Type 0} → Option (Grown A ℕ) → ℕ
weight None = 0
weight (Some g) = suc (size_of (shape_of g.tree))

abbrev pub EachPlaceIf : {A : Type 0} → ℕ → Option (Grown A ℕ) → Type 0
EachPlaceIf m None = Unit {0}
EachPlaceIf m (Some g) = EachPlace m (shape_of g.tree)

behind_weight : {A : Type 0} (x : List A) (a : Option (Grown A ℕ)) → weight (with_prefix x a) ≡ weight a
behind_weight x None = refl
behind_weight x (Some g) = refl

behind_places : {A : Type 0} (m : ℕ) (x : List A) (a : Option (Grown A ℕ)) → EachPlaceIf m a → EachPlaceIf m (with_prefix x a)
behind_places m x None h = h
behind_places m x (Some g) h = h

both_weight : {A : Type 0} (x y : List A) (a b : Option (Grown A ℕ)) → weight (fork_of (with_prefix x a) (with_prefix y b)) ≡ weight a + weight b
both_weight x y None None = omega arith
both_weight x y (Some l) None = omega arith
both_weight x y None (Some r) = omega arith
both_weight x y (Some l) (Some r) = omega arith

both_places : {A : Type 0} (m : ℕ) (x y : List A) (a b : Option (Grown A ℕ)) → EachPlaceIf m a → EachPlaceIf m b → EachPlaceIf m (fork_of (with_prefix x a) (with_prefix y b))
both_places m x y None None h k = tt
both_places m x y (Some l) None h k = h
both_places m x y None (Some r) h k = k
both_places m x y (Some l) (Some r) h k = (h, k)

pub record Fits {A : Type 0} (m : ℕ) (f : List Bool) (a : Option (Grown A ℕ)) (g : List Bool) : Type 0 where
  pub long : length g ≡ m
  pub places : EachPlaceIf m a
  pub small : weight a + 2 * unseen g ≤ 2 * unseen f

pub visit_fits : {A : Type 0} {put : Symbol → A} {moves : ℕ → Move ℕ} {f g : List Bool} {n : ℕ} {a : Option (Grown A ℕ)} (m : ℕ) → Visits put moves f n a g → length f ≡ m → Fits m f a g
visit_fits m (known e) h = record { long = h; places = tt; small = omega arith }
visit_fits {put = put} {f = f} {n = n} m (stops lt e w) h = record { long = length-set f n true ∙ h; places = omega (arith, lt, h); small = omega (arith, unseen-set f n lt e) }
visit_fits {put = put} {f = f} {n = n} m (parts_off {a = a} {b = b} lt e mv v u) h =
    let p = visit_fits m v (length-set f n true ∙ h) in
    let q = visit_fits m u p.long in
    record { long = q.long; places = both_places m (put L ∷ []) (put R ∷ []) a b p.places q.places; small = omega (arith, both_weight (put L ∷ []) (put R ∷ []) a b, unseen-set f n lt e, p.small, q.small) }
visit_fits {put = put} {f = f} {n = n} m (is_forced {x = x} {a = a} lt e mv v) h =
    let p = visit_fits m v (length-set f n true ∙ h) in
    record { long = p.long; places = behind_places m (put (symbol_of x) ∷ []) a p.places; small = omega (arith, behind_weight (put (symbol_of x) ∷ []) a, unseen-set f n lt e, p.small) }
visit_fits {put = put} {f = f} {n = n} m (passes_on {a = a} lt e mv v) h =
    let p = visit_fits m v (length-set f n true ∙ h) in
    record { long = p.long; places = p.places; small = omega (arith, unseen-set f n lt e, p.small) }

pub advance_fits : {A : Type 0} {put : Symbol → A} {input : A} {moves : ℕ → Move ℕ} {b : ℕ} {f g : List Bool} {t : Labelled A ℕ} {a : Option (Grown A ℕ)} (m : ℕ) → Advances put input moves b f t a g → length f ≡ m → Fits m f a g
advance_fits m (dies h) e = record { long = e; places = tt; small = omega arith }
advance_fits {input = input} m (reads_on {a = a} h v) e =
    let p = visit_fits m v e in
    record { long = p.long; places = behind_places m (input ∷ []) a p.places; small = omega (arith, behind_weight (input ∷ []) a, p.small) }
advance_fits m (both {u = p} {v = q} {x = x} {y = y} vx vy) e =
    let l = advance_fits m vx e in
    let r = advance_fits m vy l.long in
    record { long = r.long; places = both_places m p q x y l.places r.places; small = omega (arith, both_weight p q x y, l.small, r.small) }

unseen-replicate : (m : ℕ) → unseen (replicate m false) ≡ m
unseen-replicate zero = refl
unseen-replicate (suc m) = ap suc (unseen-replicate m)

-- with no place met, twice the tips are no more than twice the nodes
pub first_unseen : (m : ℕ) → 2 * unseen (replicate m false) ≡ 2 * m
first_unseen m = ap (λ z. 2 * z) (unseen-replicate m)
