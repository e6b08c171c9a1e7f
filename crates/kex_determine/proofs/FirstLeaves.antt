-- The walk to the first leaf that accepts, node by node.
use Rattle.std.proofs.Common.{◌≡◌, ℕ, zero, suc, ◌+◌, ◌-◌, ◌<◌, Bool, true, false, List, [], ◌∷◌, ◌++◌, Option, Some, None, length, get_or, map, take, drop, refl, sym, ap, ap₂, subst, ◌∙◌, append_assoc, append-nil, arith}
use Rattle.std.proofs.lemmas.List.{map-append}
use Rattle.std.proofs.Math.Seq.{drop-cons}
use Rattle.kex_code.specs.Codes.{Begins}
use Rattle.kex_model.specs.Moves.{Move, accept, read, choose, forced, go}
use Rattle.kex_model.specs.Labelled.{Shape, place, parts, size_of, tip, Grown, with_prefix}
use Rattle.kex_machine.specs.Advancing.{first_accepting, at_end, left_or_right, EachPlace}
use Rattle.kex_sst.specs.declared.parts.Part.{Part}
use Rattle.kex_sst.specs.declared.parts.Part.TheVariants.{Old}
use Rattle.kex_sst.specs.Parts.{numbered_tree}
use Rattle.kex_paths.specs.Nexts.{inner_of, places_of}
use Rattle.kex_determine.specs.Rows.{is_accepting}
use Rattle.kex_determine.specs.Ways.{RightSide, inner_in_sides, places_in_sides, EachSide, AreForks, either, onward, from_sides, from_here, IsOnWay}

head_of : {A : Type 0} (xs : List A) (k : ℕ) (d : A) → k < length xs → drop k xs ≡ get_or xs k d ∷ drop (k + 1) xs
head_of xs k d lt = let e : suc k ≡ k + 1 = omega arith in drop-cons xs k d lt ∙ ap (λ n. get_or xs k d ∷ drop n xs) e

longer : {A : Type 0} (xs : List A) (k : ℕ) (x : A) (ys : List A) → drop k xs ≡ x ∷ ys → k < length xs
longer [] zero x ys e = cc
longer [] (suc k) x ys e = cc
longer (z ∷ xs) zero x ys e = omega arith
longer (z ∷ xs) (suc k) x ys e = let h = longer xs k x ys e in omega arith

-- what a leaf says: it is this place, and the next node is the first side's
pub record AtLeaf (m : ℕ) (shape : List Bool) (leaves : List ℕ) (here : Shape ℕ) (sides : List RightSide) (k leaf : ℕ) : Type 0 where
  pub spot : ℕ
  pub is : here ≡ place spot
  pub inner : drop (k + 1) shape ≡ inner_in_sides sides
  pub places : drop (leaf + 1) leaves ≡ places_in_sides sides
  pub within : leaf < length leaves
  pub read_there : get_or leaves leaf 0 ≡ spot
  pub fits : spot < m

pub at_leaf : (m : ℕ) (shape : List Bool) (leaves : List ℕ) (here : Shape ℕ) (sides : List RightSide) (k leaf : ℕ) → k < length shape → get_or shape k false ≡ false → drop k shape ≡ inner_of here ++ inner_in_sides sides → drop leaf leaves ≡ places_of here ++ places_in_sides sides → EachPlace m here → AtLeaf m shape leaves here sides k leaf
at_leaf m shape leaves (place p) sides k leaf lt e inner places below =
    let within : leaf < length leaves = longer leaves leaf p (places_in_sides sides) places in
    let a = sym (head_of shape k false lt) ∙ inner in
    let b = sym (head_of leaves leaf 0 within) ∙ places in
    record { spot = p; is = refl; inner = cc; places = cc; within = within; read_there = cc; fits = below }
at_leaf m shape leaves (parts l r) sides k leaf lt e inner places below = let a = sym (head_of shape k false lt) ∙ inner in let bad : true ≡ false = cc in absurd (clash bad)
  where
    clash : true ≡ false → ⊥
    clash e = cc

pub at_fork : (m : ℕ) (shape : List Bool) (here : Shape ℕ) (sides : List RightSide) (k : ℕ) → k < length shape → get_or shape k false ≡ true → drop k shape ≡ inner_of here ++ inner_in_sides sides → (l r : Shape ℕ) × (here ≡ parts l r) × (drop (k + 1) shape ≡ inner_of l ++ (inner_of r ++ inner_in_sides sides))
at_fork m shape (place p) sides k lt e inner = let a = sym (head_of shape k false lt) ∙ inner in let bad : true ≡ false = cc in absurd (clash bad)
  where
    clash : true ≡ false → ⊥
    clash e = cc
at_fork m shape (parts l r) sides k lt e inner =
    let a : get_or shape k false ∷ drop (k + 1) shape ≡ true ∷ ((inner_of l ++ inner_of r) ++ inner_in_sides sides) = sym (head_of shape k false lt) ∙ inner in
    let b : drop (k + 1) shape ≡ (inner_of l ++ inner_of r) ++ inner_in_sides sides = cc in
    (l, r, refl, b ∙ append_assoc (inner_of l) (inner_of r) (inner_in_sides sides))

ends_there : (m : Move ℕ) → is_accepting m ≡ true → (p : ℕ) → at_end {A = Part} m p ≡ Some (record { label = []; tree = tip p })
ends_there accept e p = refl
ends_there (read s t) e p = cc
ends_there (choose l r) e p = cc
ends_there (forced x t) e p = cc
ends_there (go f t) e p = cc

ends_not : (m : Move ℕ) → is_accepting m ≡ false → (p : ℕ) → at_end {A = Part} m p ≡ None
ends_not accept e p = cc
ends_not (read s t) e p = refl
ends_not (choose l r) e p = refl
ends_not (forced x t) e p = refl
ends_not (go f t) e p = refl

either_assoc : (a b c : Option (List Part)) → either (either a b) c ≡ either a (either b c)
either_assoc None b c = refl
either_assoc (Some way) b c = refl

onward_behind : (way : List ℕ) (k : ℕ) (a : Option (Grown Part ℕ)) → onward way (with_prefix (Old k ∷ []) a) ≡ onward (way ++ k ∷ []) a
onward_behind way k None = refl
onward_behind way k (Some a) = ap (λ z. Some z) (sym (append_assoc (map (λ i. Old i) way) (Old k ∷ []) a.label) ∙ ap (λ z. z ++ a.label) (sym (map-append (λ i. Old i) way (k ∷ []))))

onward_picked : (way : List ℕ) (a b : Option (Grown Part ℕ)) → onward way (left_or_right a b) ≡ either (onward way a) (onward way b)
onward_picked way None b = refl
onward_picked way (Some a) b = refl

forks_more : (way x : List ℕ) (forks : List ℕ) (sides : List RightSide) → AreForks way forks sides → AreForks (way ++ x) forks sides
forks_more way x forks [] h = h
forks_more way x forks (s ∷ rest) (more, e, (tail, f), deeper) = (more, e, (tail ++ x, ap (λ z. z ++ x) f ∙ append_assoc s.before tail x), deeper)

take_front : (way before : List ℕ) → Begins way before → take (length before) way ≡ before
take_front way before (more, e) = ap (take (length before)) e ∙ front before more
  where
    front : (xs ys : List ℕ) → take (length xs) (xs ++ ys) ≡ xs
    front [] ys = refl
    front (x ∷ xs) ys = ap (λ z. x ∷ z) (front xs ys)

module _ (moves : ℕ → Move ℕ) (m : ℕ) (shape : List Bool) (leaves : List ℕ) (whole : Option (List Part)) where
  abbrev On : ℕ → ℕ → List ℕ → List ℕ → Type 0
  On k leaf way forks = IsOnWay moves m shape leaves whole k leaf way forks

  pub leaf_of : (k leaf : ℕ) (way forks : List ℕ) → k < length shape → get_or shape k false ≡ false → (o : On k leaf way forks) → AtLeaf m shape leaves o.here o.sides k leaf
  leaf_of k leaf way forks lt e o = at_leaf m shape leaves o.here o.sides k leaf lt e o.inner o.places o.below

  -- a leaf that accepts
  pub found : (k leaf : ℕ) (way forks : List ℕ) (o : On k leaf way forks) → AtLeaf m shape leaves o.here o.sides k leaf → is_accepting (moves (get_or leaves leaf 0)) ≡ true → whole ≡ Some (map (λ i. Old i) way)
  found k leaf way forks o h acc =
      let e = ends_there (moves h.spot) (ap (λ p. is_accepting (moves p)) (sym h.read_there) ∙ acc) h.spot in
      o.answer
      ∙ ap (λ s. from_here moves k way s o.sides) h.is
      ∙ ap (λ a. either (onward way a) (from_sides moves (k + 1) o.sides)) e
      ∙ ap (λ z. Some z) (append-nil (map (λ i. Old i) way))

  -- past a leaf that doesn't
  past : (k leaf : ℕ) (way forks : List ℕ) (o : On k leaf way forks) → AtLeaf m shape leaves o.here o.sides k leaf → is_accepting (moves (get_or leaves leaf 0)) ≡ false → whole ≡ from_sides moves (k + 1) o.sides
  past k leaf way forks o h acc =
      let e = ends_not (moves h.spot) (ap (λ p. is_accepting (moves p)) (sym h.read_there) ∙ acc) h.spot in
      o.answer ∙ ap (λ s. from_here moves k way s o.sides) h.is ∙ ap (λ a. either (onward way a) (from_sides moves (k + 1) o.sides)) e

  -- no side is left
  pub none_left : (k leaf : ℕ) (way : List ℕ) (o : On k leaf way []) → AtLeaf m shape leaves o.here o.sides k leaf → is_accepting (moves (get_or leaves leaf 0)) ≡ false → whole ≡ None
  none_left k leaf way o h acc = past k leaf way [] o h acc ∙ by o.sides o.forked
    where
      by : (sides : List RightSide) → AreForks way [] sides → from_sides moves (k + 1) sides ≡ None
      by [] f = refl
      by (x ∷ rest) (more, e, front, f) = absurd (no_more more e)
        where
          no_more : (more : List ℕ) → [] ≡ more ++ length x.before ∷ [] → ⊥
          no_more [] e = cc
          no_more (y ∷ ys) e = cc

  -- the side of the deepest fork is next
  pub next_side : (k leaf : ℕ) (way forks more : List ℕ) (count : ℕ) → forks ≡ more ++ count ∷ [] → (o : On k leaf way forks) → AtLeaf m shape leaves o.here o.sides k leaf → is_accepting (moves (get_or leaves leaf 0)) ≡ false → On (k + 1) (leaf + 1) (take count way ++ k ∷ []) more
  next_side k leaf way forks more count e o h acc = by o.sides o.forked o.each h.inner h.places (past k leaf way forks o h acc)
    where
      by : (sides : List RightSide) → AreForks way forks sides → EachSide m sides → drop (k + 1) shape ≡ inner_in_sides sides → drop (leaf + 1) leaves ≡ places_in_sides sides → whole ≡ from_sides moves (k + 1) sides → On (k + 1) (leaf + 1) (take count way ++ k ∷ []) more
      by [] f each inner places answer = absurd (some_fork more (sym f ∙ e))
        where
          some_fork : (more : List ℕ) → [] ≡ more ++ count ∷ [] → ⊥
          some_fork [] e = cc
          some_fork (y ∷ ys) e = cc
      by (x ∷ rest) (others, f, front, deeper) each inner places answer =
          let same = one_end others more (length x.before) count (sym f ∙ e) in
          let back : take count way ≡ x.before = ap (λ n. take n way) (sym same.1) ∙ take_front way x.before front in
          let one : (k + 1) - 1 ≡ k = omega arith in
          record {
            here = x.shape;
            sides = rest;
            inner = inner;
            places = places;
            below = each.0;
            each = each.1;
            forked = subst (λ w. AreForks (w ++ k ∷ []) more rest) (sym back) (subst (λ z. AreForks (x.before ++ k ∷ []) z rest) same.0 (forks_more x.before (k ∷ []) others rest deeper));
            answer = answer ∙ ap₂ (λ w n. either (onward (w ++ n ∷ []) (first_accepting moves (numbered_tree (k + 1) x.shape))) (from_sides moves (k + 1 + size_of x.shape) rest)) (sym back) one;
          }
        where
          one_end : (xs ys : List ℕ) (a b : ℕ) → xs ++ a ∷ [] ≡ ys ++ b ∷ [] → (xs ≡ ys) × (a ≡ b)
          one_end [] [] a b e = (refl, cc)
          one_end [] (y ∷ []) a b e = let bad : ⊥ = cc in absurd bad
          one_end [] (y ∷ (z ∷ ys)) a b e = let bad : ⊥ = cc in absurd bad
          one_end (x ∷ []) [] a b e = let bad : ⊥ = cc in absurd bad
          one_end (x ∷ (z ∷ xs)) [] a b e = let bad : ⊥ = cc in absurd bad
          one_end (x ∷ xs) (y ∷ ys) a b e = let f : xs ++ a ∷ [] ≡ ys ++ b ∷ [] = cc in let g : x ≡ y = cc in let r = one_end xs ys a b f in (ap₂ (λ u v. u ∷ v) g r.0, r.1)

  -- into the left side of a fork
  pub into_fork : (k leaf : ℕ) (way forks : List ℕ) → k < length shape → get_or shape k false ≡ true → On k leaf way forks → On (k + 1) leaf (way ++ k ∷ []) (forks ++ length way ∷ [])
  into_fork k leaf way forks lt e o =
      let f = at_fork m shape o.here o.sides k lt e o.inner in
      by f.0 f.1 f.2 f.3
    where
      by : (l r : Shape ℕ) → o.here ≡ parts l r → drop (k + 1) shape ≡ inner_of l ++ (inner_of r ++ inner_in_sides o.sides) → On (k + 1) leaf (way ++ k ∷ []) (forks ++ length way ∷ [])
      by l r is inner =
          let below : EachPlace m l × EachPlace m r = subst (λ z. EachPlace m z) is o.below in
          let la = first_accepting moves (numbered_tree (k + 1) l) in
          let ra = first_accepting moves (numbered_tree (k + 1 + size_of l) r) in
          let beyond : from_sides moves (k + size_of (parts l r)) o.sides ≡ from_sides moves (k + 1 + size_of l + size_of r) o.sides = ap (λ n. from_sides moves n o.sides) (omega arith) in
          let left : first_accepting moves (numbered_tree (suc k) l) ≡ la = ap (λ n. first_accepting moves (numbered_tree n l)) (omega arith) in
          let right : first_accepting moves (numbered_tree (suc (k + size_of l)) r) ≡ ra = ap (λ n. first_accepting moves (numbered_tree n r)) (omega arith) in
          let edge : k + size_of l ≡ (k + 1 + size_of l) - 1 = omega arith in
          record {
            here = l;
            sides = record { before = way; shape = r } ∷ o.sides;
            inner = inner;
            places = o.places ∙ ap (λ s. places_of s ++ places_in_sides o.sides) is ∙ append_assoc (places_of l) (places_of r) (places_in_sides o.sides);
            below = below.0;
            each = (below.1, o.each);
            forked = (forks, refl, (k ∷ [], refl), o.forked);
            answer =
                o.answer
                ∙ ap (λ s. from_here moves k way s o.sides) is
                ∙ ap₂ (λ a b. either a b) (onward_picked way (with_prefix (Old k ∷ []) (first_accepting moves (numbered_tree (suc k) l))) (with_prefix (Old (k + size_of l) ∷ []) (first_accepting moves (numbered_tree (suc (k + size_of l)) r)))
                ∙ ap₂ (λ a b. either a b) (onward_behind way k (first_accepting moves (numbered_tree (suc k) l)) ∙ ap (onward (way ++ k ∷ [])) left) (onward_behind way (k + size_of l) (first_accepting moves (numbered_tree (suc (k + size_of l)) r)) ∙ ap₂ (λ n a. onward (way ++ n ∷ []) a) edge right)) beyond
                ∙ either_assoc (onward (way ++ k ∷ []) la) (onward (way ++ ((k + 1 + size_of l) - 1) ∷ []) ra) (from_sides moves (k + 1 + size_of l + size_of r) o.sides);
          }

  -- the walk is never past the last node
  pub not_past : (k leaf : ℕ) (way forks : List ℕ) → On k leaf way forks → k < length shape
  not_past k leaf way forks o = by o.here o.inner
    where
      by : (s : Shape ℕ) → drop k shape ≡ inner_of s ++ inner_in_sides o.sides → k < length shape
      by (place p) e = longer shape k false (inner_in_sides o.sides) e
      by (parts l r) e = longer shape k true ((inner_of l ++ inner_of r) ++ inner_in_sides o.sides) e

  pub on_as : (k leaf leaf' : ℕ) (way way' forks forks' : List ℕ) → leaf' ≡ leaf → way' ≡ way → forks' ≡ forks → On k leaf way forks → On k leaf' way' forks'
  on_as k leaf leaf' way way' forks forks' e f h o = rw (e, f, h) o
