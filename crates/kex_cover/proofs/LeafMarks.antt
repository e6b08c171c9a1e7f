-- Marks of the leaves that those before them don't cover, leaf by leaf.
use Rattle.std.proofs.Common.{◌≡◌, ℕ, zero, suc, ◌+◌, ◌<◌, ◌≤◌, Bool, true, false, List, [], ◌∷◌, ◌++◌, inl, inr, ⊎_elim, Some, length, get_or, set, replicate, take, refl, sym, ap, subst, ◌∙◌, arith}
use Rattle.std.specs.Prelude.{slice_get, MatchBool, ◌==◌, if◌then◌else◌}
use Rattle.std.proofs.lemmas.Bool.{cases_lt}
use Rattle.kex_code.specs.Codes.{IsAmong}
use Rattle.kex_model.specs.States.{AllDifferent}
use Rattle.kex_model.specs.Survivors.{LeadsToEnd}
use Rattle.kex_machine.specs.Nodes.{Graph, node_moves}
use Rattle.kex_cover.specs.Keeping.{AreToldTo, AreTold, AskedAt, AsksMoreAt, HasPairsUpTo, ToldAt}
use Rattle.kex_cover.specs.Optimal.{AsksAtMost, AsksMore, has_number}
use Rattle.kex_cover.proofs.LeftLeaves.{apart_by, equal_by, number_among}
use Rattle.kex_cover.specs.Pairs.{HasMorePairs, IsCoveredBy, IsUncoveredBy}

-- ---- a member of a list, and those before it

pub here_at : {A : Type 0} (front back : List A) (p : A) → slice_get (front ++ p ∷ back) (length front) ≡ Some p
here_at [] back p = refl
here_at (x ∷ front) back p = here_at front back p

among_at : {A : Type 0} (xs : List A) (i : ℕ) (x : A) → slice_get xs i ≡ Some x → IsAmong xs x
among_at [] i x e = cc
among_at (y ∷ xs) zero x e = inl (cc)
among_at (y ∷ xs) (suc i) x e = inr (among_at xs i x e)

-- in a list without repetition a member is at one place
pub one_place : {A : Type 0} (xs : List A) (i j : ℕ) (x : A) → AllDifferent xs → slice_get xs i ≡ Some x → slice_get xs j ≡ Some x → i ≡ j
one_place [] i j x d e f = cc
one_place (y ∷ xs) zero zero x d e f = refl
one_place (y ∷ xs) zero (suc j) x d e f = absurd (d.0 (among_at xs j y (f ∙ sym e)))
one_place (y ∷ xs) (suc i) zero x d e f = absurd (d.0 (among_at xs i y (e ∙ sym f)))
one_place (y ∷ xs) (suc i) (suc j) x d e f = ap suc (one_place xs i j x d.1 e f)

pub record Splits (xs : List ℕ) (i : ℕ) : Type 0 where
  pub front : List ℕ
  pub at : ℕ
  pub back : List ℕ
  pub whole : xs ≡ front ++ at ∷ back
  pub long : length front ≡ i

pub split_at : (xs : List ℕ) (i : ℕ) → i < length xs → Splits xs i
split_at [] i lt = absurd (omega (arith, lt))
split_at (x ∷ xs) zero lt = record { front = []; at = x; back = xs; whole = refl; long = refl }
split_at (x ∷ xs) (suc i) lt = let s = split_at xs i (omega (arith, lt)) in record { front = x ∷ s.front; at = s.at; back = s.back; whole = ap (λ z. x ∷ z) s.whole; long = ap suc s.long }

pub front_is : (xs front back : List ℕ) (p i : ℕ) → xs ≡ front ++ p ∷ back → length front ≡ i → take i xs ≡ front
front_is xs front back p i e f = ap (λ z. take z xs) (sym f) ∙ ap (take (length front)) e ∙ take_front front
  where
    take_front : (ys : List ℕ) → take (length ys) (ys ++ p ∷ back) ≡ ys
    take_front [] = refl
    take_front (y ∷ ys) = ap (λ z. y ∷ z) (take_front ys)

pub item_is : (xs front back : List ℕ) (p i d : ℕ) → xs ≡ front ++ p ∷ back → length front ≡ i → get_or xs i d ≡ p
item_is xs front back p i d e f = ap (λ z. get_or xs z d) (sym f) ∙ ap (λ z. get_or z (length front) d) e ∙ there front
  where
    there : (ys : List ℕ) → get_or (ys ++ p ∷ back) (length ys) d ≡ p
    there [] = refl
    there (y ∷ ys) = there ys

pub front_among : (front back : List ℕ) (p q : ℕ) → IsAmong front q → IsAmong (front ++ p ∷ back) q
front_among [] back p q i = absurd i
front_among (x ∷ front) back p q i = ⊎_elim (λ e. inl e) (λ j. inr (front_among front back p q j)) i

pub take_among : (n : ℕ) (xs : List ℕ) (p : ℕ) → IsAmong (take n xs) p → IsAmong xs p
take_among zero [] p i = absurd i
take_among zero (x ∷ xs) p i = absurd i
take_among (suc n) [] p i = absurd i
take_among (suc n) (x ∷ xs) p i = ⊎_elim (λ e. inl e) (λ j. inr (take_among n xs p j)) i

-- ---- marks

marked_same : (xs : List Bool) (p : ℕ) → p < length xs → get_or (set xs p true) p false ≡ true
marked_same [] p lt = absurd (omega (arith, lt))
marked_same (x ∷ xs) zero lt = refl
marked_same (x ∷ xs) (suc p) lt = marked_same xs p (omega (arith, lt))

marked_other : (xs : List Bool) (p q : ℕ) → (q ≡ p → ⊥) → get_or (set xs q true) p false ≡ get_or xs p false
marked_other [] p q h = refl
marked_other (x ∷ xs) zero zero h = absurd (h refl)
marked_other (x ∷ xs) zero (suc q) h = refl
marked_other (x ∷ xs) (suc p) zero h = refl
marked_other (x ∷ xs) (suc p) (suc q) h = marked_other xs p q (λ e. h (ap suc e))

pub none_marked_yet : (n p : ℕ) → get_or (replicate n false) p false ≡ false
none_marked_yet zero p = refl
none_marked_yet (suc n) zero = refl
none_marked_yet (suc n) (suc p) = none_marked_yet n p

module _ (g : Graph) where
  pub told_none : (leaves : List ℕ) (n : ℕ) (marks : List Bool) → marks ≡ replicate n false → AreToldTo g 0 leaves marks
  told_none leaves n marks e = record {
    tells = λ front p back is lt. absurd (omega (arith, lt));
    later = λ front p back is le. ap (λ z. get_or z p false) e ∙ none_marked_yet n p;
  }

  module _ (leaves : List ℕ) (n : ℕ) (marks : List Bool) (so_far : AreToldTo g n leaves marks) where
    -- a leaf that is covered stays without a mark
    pub told_covered : ToldAt g leaves n true → AreToldTo g (n + 1) leaves marks
    told_covered told = record {
      tells = λ front p back is lt. ⊎_elim
          (λ less. so_far.tells front p back is less)
          (λ more.
          let here : length front ≡ n = omega (arith, lt, more) in
          subst (λ z. MatchBool z (IsUncoveredBy g p front) (IsCoveredBy g p front)) (sym (so_far.later front p back is (omega (arith, here)))) (told front p back is here))
          (cases_lt (length front) n);
      later = λ front p back is le. so_far.later front p back is (omega (arith, le));
    }

    -- one that isn't is marked
    pub told_uncovered : (q : ℕ) → slice_get leaves n ≡ Some q → AllDifferent leaves → q < length marks → ToldAt g leaves n false → AreToldTo g (n + 1) leaves (set marks q true)
    told_uncovered q at different within told = record {
      tells = λ front p back is lt. ⊎_elim
          (λ less. subst (λ z. MatchBool z (IsUncoveredBy g p front) (IsCoveredBy g p front)) (sym (marked_other marks p q (other front p back is (λ e. omega (arith, e, less))))) (so_far.tells front p back is less))
          (λ more.
          let here : length front ≡ n = omega (arith, lt, more) in
          let same : q ≡ p = one_item (slice_get leaves n) q p at (ap (slice_get leaves) (sym here) ∙ ap (λ z. slice_get z (length front)) is ∙ here_at front back p) in
          subst (λ z. MatchBool z (IsUncoveredBy g p front) (IsCoveredBy g p front)) (sym (subst (λ z. get_or (set marks z true) p false ≡ true) (sym same) (marked_same marks p (subst (λ z. z < length marks) same within)))) (told front p back is here))
          (cases_lt (length front) n);
      later = λ front p back is le. marked_other marks p q (other front p back is (λ e. omega (arith, e, le))) ∙ so_far.later front p back is (omega (arith, le));
    }
      where
        one_item : (o : _) (x y : ℕ) → o ≡ Some x → o ≡ Some y → x ≡ y
        one_item o x y e f = let both : Some x ≡ Some y = sym e ∙ f in cc

        other : (front : List ℕ) (p : ℕ) (back : List ℕ) → leaves ≡ front ++ p ∷ back → (length front ≡ n → ⊥) → q ≡ p → ⊥
        other front p back is apart e = apart (one_place leaves (length front) n p different (ap (λ z. slice_get z (length front)) is ∙ here_at front back p) (at ∙ ap (λ z. Some z) e))

  -- at the end the marks are right for each leaf
  pub told_all : (leaves : List ℕ) (n : ℕ) (marks : List Bool) → length leaves ≤ n → AreToldTo g n leaves marks → AreTold g leaves marks
  told_all leaves n marks le h = λ front p back is. h.tells front p back is (let lt = within front p back in omega (arith, lt, le, ap length is))
    where
      within : (front : List ℕ) (p : ℕ) (back : List ℕ) → length front < length (front ++ p ∷ back)
      within [] p back = omega arith
      within (x ∷ front) p back = let lt = within front p back in omega (arith, lt)

  -- ---- how much is asked

  -- the tests of the first n leaves
  abbrev pub AskedTo : ℕ → List ℕ → ℕ → Type 0
  AskedTo most leaves n = (front : List ℕ) (p : ℕ) (back : List ℕ) → leaves ≡ front ++ p ∷ back → length front < n → (front ≡ [] → ⊥) → HasPairsUpTo g most p front

  pub asked_more : (most : ℕ) (leaves : List ℕ) (n : ℕ) → AskedTo most leaves n → AskedAt g most leaves n → AskedTo most leaves (n + 1)
  asked_more most leaves n h here = λ front p back is lt some. ⊎_elim (λ less. h front p back is less some) (λ more. here front p back is (omega (arith, lt, more)) some) (cases_lt (length front) n)

  pub asked_all : (most : ℕ) (leaves : List ℕ) (n : ℕ) → length leaves ≤ n → AskedTo most leaves n → AsksAtMost g most leaves
  asked_all most leaves n le h = λ front p back is some. h front p back is (let lt = within front p back in omega (arith, lt, le, ap length is)) some
    where
      within : (front : List ℕ) (p : ℕ) (back : List ℕ) → length front < length (front ++ p ∷ back)
      within [] p back = omega arith
      within (x ∷ front) p back = let lt = within front p back in omega (arith, lt)

  pub more_at : (most : ℕ) (leaves : List ℕ) (n : ℕ) → n < length leaves → AsksMoreAt g most leaves n → AsksMore g most leaves
  more_at most leaves n lt h = let s = split_at leaves n lt in let r = h s.front s.at s.back s.whole s.long in (s.front, s.at, s.back, s.whole, r.0, r.1)

  -- ---- one leaf

  empty_front : (front : List ℕ) → length front ≡ 0 → front ≡ []
  empty_front [] e = refl
  empty_front (x ∷ front) e = absurd (omega (arith, e))

  -- the first leaf isn't covered
  pub first_told : (leaves : List ℕ) → ((p : ℕ) → IsAmong leaves p → LeadsToEnd (node_moves g.nodes) p) → ToldAt g leaves 0 false
  first_told leaves leads = λ front p back is long.
      let (ks, end, walk, ends) = leads p (subst (λ z. IsAmong z p) (sym is) (stands front back p)) in
      (_, (ks, end, walk, ends, refl), λ q i on. subst (λ z. IsAmong z q) (empty_front front long) i)
    where
      stands : (front back : List ℕ) (p : ℕ) → IsAmong (front ++ p ∷ back) p
      stands [] back p = inl refl
      stands (x ∷ front) back p = inr (stands front back p)

  pub first_asked : (most : ℕ) (leaves : List ℕ) → AskedAt g most leaves 0
  first_asked most leaves = λ front p back is long some. absurd (some (empty_front front long))

  pub told_here : (leaves : List ℕ) (i d : ℕ) (answer : Bool) → MatchBool answer (IsCoveredBy g (get_or leaves i d) (take i leaves)) (IsUncoveredBy g (get_or leaves i d) (take i leaves)) → ToldAt g leaves i answer
  told_here leaves i d answer h = λ front p back is long. subst (λ z. MatchBool answer (IsCoveredBy g z front) (IsUncoveredBy g z front)) (item_is leaves front back p i d is long) (subst (λ z. MatchBool answer (IsCoveredBy g (get_or leaves i d) z) (IsUncoveredBy g (get_or leaves i d) z)) (front_is leaves front back p i is long) h)

  pub asked_here : (most : ℕ) (leaves : List ℕ) (i d : ℕ) → HasPairsUpTo g most (get_or leaves i d) (take i leaves) → AskedAt g most leaves i
  asked_here most leaves i d h = λ front p back is long some. subst (λ z. HasPairsUpTo g most z front) (item_is leaves front back p i d is long) (subst (λ z. HasPairsUpTo g most (get_or leaves i d) z) (front_is leaves front back p i is long) h)

  pub more_here : (most : ℕ) (leaves : List ℕ) (i d : ℕ) → 0 < i → HasMorePairs g (get_or leaves i d) (take i leaves) most → AsksMoreAt g most leaves i
  more_here most leaves i d lt h = λ front p back is long. (
    (λ e. omega (arith, lt, long, ap length e)),
    subst (λ z. HasMorePairs g z front most) (item_is leaves front back p i d is long) (subst (λ z. HasMorePairs g (get_or leaves i d) z most) (front_is leaves front back p i is long) h),
  )

-- ---- marks of places

number_other : (xs : List ℕ) (x p : ℕ) → (x == p) ≡ false → has_number (xs ++ x ∷ []) p ≡ has_number xs p
number_other [] x p e = ap (λ z. if z then true else false) e
number_other (y ∷ xs) x p e = ap (λ z. if y == p then true else z) (number_other xs x p e)

-- the marks are those of these places
abbrev pub MarkNumbers : List ℕ → List Bool → Type 0
MarkNumbers xs marks = (p : ℕ) → get_or marks p false ≡ has_number xs p

pub numbers_none : (xs : List ℕ) (n : ℕ) (marks : List Bool) → marks ≡ replicate n false → MarkNumbers (take 0 xs) marks
numbers_none xs n marks e p = ap (λ z. get_or z p false) e ∙ none_marked_yet n p ∙ sym (none xs)
  where
    none : (xs : List ℕ) → has_number (take 0 xs) p ≡ false
    none [] = refl
    none (x ∷ xs) = refl

pub numbers_more : (xs : List ℕ) (x : ℕ) (marks : List Bool) → MarkNumbers xs marks → x < length marks → MarkNumbers (xs ++ x ∷ []) (set marks x true)
numbers_more xs x marks h lt p = by (x == p) refl
  where
    by : (b : Bool) → (x == p) ≡ b → get_or (set marks x true) p false ≡ has_number (xs ++ x ∷ []) p
    by true e =
        let same : x ≡ p = equal_by x p e in
        subst (λ z. get_or (set marks z true) p false ≡ has_number (xs ++ z ∷ []) p) (sym same) (marked_same marks p (subst (λ z. z < length marks) same lt) ∙ sym (number_among (xs ++ p ∷ []) p (last xs)))
      where
        last : (ys : List ℕ) → IsAmong (ys ++ p ∷ []) p
        last [] = inl refl
        last (y ∷ ys) = inr (last ys)
    by false e = marked_other marks p x (apart_by x p e) ∙ h p ∙ sym (number_other xs x p e)
