-- Which leaves are left of a shape.
use Rattle.std.proofs.Common.{◌≡◌, ℕ, zero, suc, ◌<◌, Bool, true, false, List, [], ◌∷◌, ◌++◌, inl, inr, ⊎_elim, Option, Some, None, length, map, refl, sym, ap, ap₂, subst, ◌∙◌, append-nil, arith, if◌then◌else◌}
use Rattle.std.specs.Prelude.{◌==◌, IfSome, IsSome, MatchBool, slice_get}
use Rattle.std.proofs.lemmas.Bool.Decides.{nat_tests}
use Rattle.std.proofs.lemmas.List.{map-append}
use Rattle.kex_code.specs.declared.symbol.Symbol.{Symbol}
use Rattle.kex_code.specs.Codes.{IsAmong, Before}
use Rattle.kex_model.specs.Moves.{Move, Waits}
use Rattle.kex_model.specs.Labelled.{Labelled, tip, fork, leaves_of, Shape, place, parts, shape_of, Grown, with_prefix, fork_of}
use Rattle.kex_model.specs.States.{AllDifferent, IsState}
use Rattle.kex_model.specs.Survivors.{CodedPlace, LeadsToEnd, Rising, Survives}
use Rattle.kex_model.proofs.Orders.{not_both, at_most_both}
use Rattle.kex_model.proofs.Shapes.{parted_rises}
use Rattle.kex_model.proofs.Tables.{some_same}
use Rattle.kex_machine.specs.Nodes.{Graph, node_moves}
use Rattle.kex_machine.specs.Covering.{restrict, restrict_if}
use Rattle.kex_paths.specs.KeptLeaves.{parts_of, restrict_shape}
use Rattle.kex_paths.specs.Nexts.{Outline, IsOfShape, places_of}
use Rattle.kex_paths.proofs.LeftTrees.{lists_same}
use Rattle.kex_cover.specs.Pairs.{IsCoveredBy, IsUncoveredBy}
use Rattle.kex_cover.specs.Optimal.{IsLeftState, has_number, has_place}

pub some_at : {A : Type 0} (xs : List A) (i : ℕ) → i < length xs → (x : A) × (slice_get xs i ≡ Some x)
some_at [] i lt = absurd (omega (arith, lt))
some_at (x ∷ xs) zero lt = (x, refl)
some_at (x ∷ xs) (suc i) lt = some_at xs i (omega (arith, lt))

-- a tree has one shape
pub shape_same : (tree : Outline) (s t : Shape ℕ) → IsOfShape tree s → IsOfShape tree t → s ≡ t
shape_same tree s t is it = lists_same s t (sym is.0 ∙ it.0) (sym is.1 ∙ it.1)

-- what is there
pub some_is : {A : Type 0} (r : Option A) → (r ≡ None → ⊥) → IsSome r
some_is None h = absurd (h refl)
some_is (Some x) h = refl

pub has_some : {A : Type 0} (P : A → Type 0) (r : Option A) (x : A) → IfSome r P → r ≡ Some x → P x
has_some P None x h e = let bad : ⊥ = cc in absurd bad
has_some P (Some y) x h e = subst P (some_same y x e) h

-- ---- numbers of a list

pub equal_by : (x p : ℕ) → (x == p) ≡ true → x ≡ p
equal_by x p e = grind (arith, nat_tests)

pub apart_by : (x p : ℕ) → (x == p) ≡ false → x ≡ p → ⊥
apart_by x p e f = grind (arith, nat_tests)

pub among_number : (xs : List ℕ) (p : ℕ) → has_number xs p ≡ true → IsAmong xs p
among_number [] p e = cc
among_number (x ∷ xs) p e = by (x == p) refl (among_number xs p)
  where
    by : (b : Bool) → (x == p) ≡ b → (has_number xs p ≡ true → IsAmong xs p) → IsAmong (x ∷ xs) p
    by true h rest = inl (equal_by x p h)
    by false h rest = inr (rest (ap (λ z. if z then true else has_number xs p) (sym h) ∙ e))

pub number_among : (xs : List ℕ) (p : ℕ) → IsAmong xs p → has_number xs p ≡ true
number_among [] p i = absurd i
number_among (x ∷ xs) p i = by (x == p) refl (number_among xs p)
  where
    by : (b : Bool) → (x == p) ≡ b → (IsAmong xs p → has_number xs p ≡ true) → has_number (x ∷ xs) p ≡ true
    by true h rest = ap (λ z. if z then true else has_number xs p) h
    by false h rest = ap (λ z. if z then true else has_number xs p) h ∙ rest (⊎_elim (λ e. absurd (apart_by x p h e)) (λ j. j) i)

-- a test that is true of these numbers alone
pub same_number : (xs : List ℕ) (p : ℕ) (b : Bool) → (b ≡ true → IsAmong xs p) → (IsAmong xs p → b ≡ true) → b ≡ has_number xs p
same_number xs p true real all = sym (number_among xs p (real refl))
same_number xs p false real all = by (has_number xs p) refl
  where
    by : (z : Bool) → has_number xs p ≡ z → false ≡ has_number xs p
    by true e = all (among_number xs p e) ∙ sym e
    by false e = sym e

-- ---- the places that are left

abbrev pub select : (ℕ → Bool) → List ℕ → List ℕ
select keep [] = []
select keep (x ∷ xs) = if keep x then x ∷ select keep xs else select keep xs

abbrev pub places_if : Option (Shape ℕ) → List ℕ
places_if None = []
places_if (Some s) = places_of s

joined_places : (a b : Option (Shape ℕ)) → places_if (parts_of a b) ≡ places_if a ++ places_if b
joined_places None None = refl
joined_places (Some l) None = sym (append-nil (places_of l))
joined_places None (Some r) = refl
joined_places (Some l) (Some r) = refl

module _ (keep : ℕ → Bool) where
  select-append : (xs ys : List ℕ) → select keep (xs ++ ys) ≡ select keep xs ++ select keep ys
  select-append [] ys = refl
  select-append (x ∷ xs) ys = by (keep x) (select-append xs ys)
    where
      by : (b : Bool) → select keep (xs ++ ys) ≡ select keep xs ++ select keep ys → (if b then x ∷ select keep (xs ++ ys) else select keep (xs ++ ys)) ≡ (if b then x ∷ select keep xs else select keep xs) ++ select keep ys
      by true rest = ap (λ z. x ∷ z) rest
      by false rest = rest

  select_in : (xs : List ℕ) (p : ℕ) → IsAmong (select keep xs) p → IsAmong xs p × (keep p ≡ true)
  select_in [] p i = absurd i
  select_in (x ∷ xs) p i = by (keep x) refl i (select_in xs p)
    where
      by : (b : Bool) → keep x ≡ b → IsAmong (if b then x ∷ select keep xs else select keep xs) p → (IsAmong (select keep xs) p → IsAmong xs p × (keep p ≡ true)) → IsAmong (x ∷ xs) p × (keep p ≡ true)
      by true e i rest = ⊎_elim (λ f. (inl f, ap keep (sym f) ∙ e)) (λ j. let r = rest j in (inr r.0, r.1)) i
      by false e i rest = let r = rest i in (inr r.0, r.1)

  in_select : (xs : List ℕ) (p : ℕ) → IsAmong xs p → keep p ≡ true → IsAmong (select keep xs) p
  in_select [] p i e = absurd i
  in_select (x ∷ xs) p i e = by (keep x) refl (λ j. in_select xs p j e)
    where
      by : (b : Bool) → keep x ≡ b → (IsAmong xs p → IsAmong (select keep xs) p) → IsAmong (if b then x ∷ select keep xs else select keep xs) p
      by true h rest = ⊎_elim (λ f. inl f) (λ j. inr (rest j)) i
      by false h rest = ⊎_elim (λ f. let bad : true ≡ false = sym e ∙ ap keep (sym f) ∙ h in absurd (cc)) (λ j. rest j) i

  tip_places : (b : Bool) (p : ℕ) → places_if (if b then Some (place p) else None) ≡ (if b then p ∷ [] else [])
  tip_places true p = refl
  tip_places false p = refl

  left_places : (s : Shape ℕ) → places_if (restrict_shape keep s) ≡ select keep (places_of s)
  left_places (place p) = tip_places (keep p) p
  left_places (parts l r) = joined_places (restrict_shape keep l) (restrict_shape keep r) ∙ ap₂ (λ u v. u ++ v) (left_places l) (left_places r) ∙ sym (select-append (places_of l) (places_of r))

  pub left_real : (s k : Shape ℕ) → restrict_shape keep s ≡ Some k → (p : ℕ) → IsAmong (places_of k) p → IsAmong (places_of s) p × (keep p ≡ true)
  left_real s k e p i = select_in (places_of s) p (subst (λ z. IsAmong z p) (ap places_if (sym e) ∙ left_places s) i)

  pub left_all : (s k : Shape ℕ) → restrict_shape keep s ≡ Some k → (p : ℕ) → IsAmong (places_of s) p → keep p ≡ true → IsAmong (places_of k) p
  left_all s k e p i h = subst (λ z. IsAmong z p) (sym (left_places s) ∙ ap places_if e) (in_select (places_of s) p i h)

  -- where a place is kept something is left
  pub some_left : (s : Shape ℕ) (p : ℕ) → IsAmong (places_of s) p → keep p ≡ true → (k : Shape ℕ) × (restrict_shape keep s ≡ Some k)
  some_left s p i h = by (restrict_shape keep s) refl
    where
      by : (r : Option (Shape ℕ)) → restrict_shape keep s ≡ r → (k : Shape ℕ) × (restrict_shape keep s ≡ Some k)
      by None e = absurd (subst (λ z. IsAmong z p) (sym (left_places s) ∙ ap places_if e) (in_select (places_of s) p i h))
      by (Some k) e = (k, e)

-- the same is left where the same places are kept
pub same_shape_left : (keep other : ℕ → Bool) (s : Shape ℕ) → ((p : ℕ) → IsAmong (places_of s) p → keep p ≡ other p) → restrict_shape keep s ≡ restrict_shape other s
same_shape_left keep other (place p) h = ap (λ z. if z then Some (place p) else None) (h p (inl refl))
same_shape_left keep other (parts l r) h = ap₂ (λ u v. parts_of u v) (same_shape_left keep other l (λ p i. h p (left p i))) (same_shape_left keep other r (λ p i. h p (right (places_of l) p i)))
  where
    left : (p : ℕ) → IsAmong (places_of l) p → IsAmong (places_of l ++ places_of r) p
    left p i = first (places_of l) i
      where
        first : (xs : List ℕ) → IsAmong xs p → IsAmong (xs ++ places_of r) p
        first [] j = absurd j
        first (x ∷ xs) j = ⊎_elim (λ e. inl e) (λ m. inr (first xs m)) j

    right : (xs : List ℕ) (p : ℕ) → IsAmong (places_of r) p → IsAmong (xs ++ places_of r) p
    right [] p i = i
    right (x ∷ xs) p i = inr (right xs p i)

module _ {A : Type 0} (keep other : ℕ → Bool) (same : (p : ℕ) → keep p ≡ other p) where
  pub same_left : (t : Labelled A ℕ) → restrict keep t ≡ restrict other t
  same_left (tip p) = ap (λ z. if z then Some (record { label = []; tree = tip p }) else None) (same p)
  same_left (fork x l y r) = ap₂ (λ u v. fork_of (with_prefix x u) (with_prefix y v)) (same_left l) (same_left r)

  pub same_left_if : (a : Option (Grown A ℕ)) → restrict_if keep a ≡ restrict_if other a
  same_left_if None = refl
  same_left_if (Some g) = ap (λ z. with_prefix g.label z) (same_left g.tree)

-- ---- what is left of a state

first_place : (s : Shape ℕ) → (p : ℕ) × (back : List ℕ) × (places_of s ≡ p ∷ back)
first_place (place p) = (p, [], refl)
first_place (parts l r) = let f = first_place l in (f.0, f.1 ++ places_of r, ap (λ z. z ++ places_of r) f.2)

-- which places of a list the places before them don't cover
abbrev pub AreUncoveredIn : Graph → (ℕ → Bool) → List ℕ → Type 0
AreUncoveredIn g keep xs = (front : List ℕ) (p : ℕ) (back : List ℕ) → xs ≡ front ++ p ∷ back → MatchBool (keep p) (IsUncoveredBy g p front) (IsCoveredBy g p front)

stands_there : (front back : List ℕ) (p : ℕ) → IsAmong (front ++ p ∷ back) p
stands_there [] back p = inl refl
stands_there (x ∷ front) back p = inr (stands_there front back p)

module _ (g : Graph) (keep : ℕ → Bool) (s : Shape ℕ) (told : AreUncoveredIn g keep (places_of s)) where
  -- the first leaf is kept
  pub first_left : ((p : ℕ) → IsAmong (places_of s) p → LeadsToEnd (node_moves g.nodes) p) → (k : Shape ℕ) × (restrict_shape keep s ≡ Some k)
  first_left leads =
      let f = first_place s in
      let here : IsAmong (places_of s) f.0 = subst (λ z. IsAmong z f.0) (sym f.2) (inl refl) in
      some_left keep s f.0 here (by f.0 (leads f.0 here) (keep f.0) refl (told [] f.0 f.1 f.2))
    where
      by : (p : ℕ) → LeadsToEnd (node_moves g.nodes) p → (b : Bool) → keep p ≡ b → MatchBool (keep p) (IsUncoveredBy g p []) (IsCoveredBy g p []) → keep p ≡ true
      by p (ks, end, walk, ends) true e h = e
      by p (ks, end, walk, ends) false e h =
          let covered : IsCoveredBy g p [] = subst (λ z. MatchBool z (IsUncoveredBy g p []) (IsCoveredBy g p [])) e h in
          let other = covered _ (ks, end, walk, ends, refl) in
          absurd other.1

  pub left_state : (k : Shape ℕ) → restrict_shape keep s ≡ Some k → IsLeftState g (record { whole = s; left = k })
  left_state k e = record {
    tells = λ front p back is. subst (λ z. MatchBool z (IsUncoveredBy g p front) (IsCoveredBy g p front)) (alike p (subst (λ z. IsAmong z p) (sym is) (stands_there front back p))) (told front p back is);
    left_is = sym (same_shape_left keep (has_place k) s alike) ∙ e;
  }
    where
      alike : (p : ℕ) → IsAmong (places_of s) p → keep p ≡ has_place k p
      alike p i = same_number (places_of k) p (keep p) (λ h. left_all keep s k e p i h) (λ j. (left_real keep s k e p j).1)

-- ---- the leaves of a text's tree

-- the places of a shape are those of the leaves
pub leaf_places : (t : Labelled Symbol ℕ) (c : List Symbol) → places_of (shape_of t) ≡ map (λ x. x.at) (leaves_of t c)
leaf_places (tip p) c = refl
leaf_places (fork u l v r) c = ap₂ (λ x y. x ++ y) (leaf_places l (c ++ u)) (leaf_places r (c ++ v)) ∙ sym (map-append (λ x. x.at) (leaves_of l (c ++ u)) (leaves_of r (c ++ v)))

pub of_place : (xs : List (CodedPlace ℕ)) (p : ℕ) → IsAmong (map (λ z. z.at) xs) p → (x : CodedPlace ℕ) × IsAmong xs x × (x.at ≡ p)
of_place [] p i = absurd i
of_place (y ∷ xs) p i = ⊎_elim (λ e. (y, inl refl, e)) (λ j. let r = of_place xs p j in (r.0, inr r.1, r.2)) i

pub no_before : (c : List Symbol) → Before c c → ⊥
no_before c h = not_both c c h h

module _ (moves : ℕ → Move ℕ) (start : ℕ) where
  apart : (w : List ℕ) (xs : List (CodedPlace ℕ)) → Rising xs → ((x : CodedPlace ℕ) → IsAmong xs x → Survives moves start w x.at x.code) → AllDifferent (map (λ z. z.at) xs)
  apart w [] rises each = tt
  apart w (x ∷ xs) rises each = (twice, apart w xs rises.1 (λ y i. each y (inr i)))
    where
      twice : IsAmong (map (λ z. z.at) xs) x.at → ⊥
      twice i =
          let (y, there, same) = of_place xs x.at i in
          let here = each x (inl refl) in
          let other : Survives moves start w x.at y.code = subst (λ z. Survives moves start w z y.code) same (each y (inr there)) in
          let one : x.code ≡ y.code = at_most_both x.code y.code (here.least y.code other.reached) (other.least x.code here.reached) in
          no_before y.code (subst (λ z. Before z y.code) one (rises.0 y there))

  pub state_leaves : (s : Shape ℕ) → IsState moves start s → AllDifferent (places_of s) × ((p : ℕ) → IsAmong (places_of s) p → Waits moves p × LeadsToEnd moves p)
  state_leaves s (w, (c, t, has, is)) = (
    subst AllDifferent (sym places) (apart w (leaves_of t c) (parted_rises t c has.parted) has.lists.each),
    (λ p i.
        let r = of_place (leaves_of t c) p (subst (λ z. IsAmong z p) places i) in
        let live = has.lists.each r.0 r.1 in
        (subst (λ z. Waits moves z) r.2 live.reached.1.waits, subst (λ z. LeadsToEnd moves z) r.2 live.alive)),
  )
    where
      places : places_of s ≡ map (λ z. z.at) (leaves_of t c)
      places = ap places_of (sym is) ∙ leaf_places t c
