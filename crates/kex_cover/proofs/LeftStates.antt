-- What is left of a machine's states, state by state.
use Rattle.std.proofs.Common.{◌≡◌, ℕ, zero, suc, ◌+◌, ◌<◌, ◌≤◌, Bool, List, [], ◌∷◌, ◌++◌, inl, inr, ⊎_elim, Option, Some, None, length, take, refl, sym, ap, subst, ◌∙◌, length-append, arith}
use Rattle.std.specs.Prelude.{slice_get, MatchOption}
use Rattle.std.proofs.lemmas.List.{map-append}
use Rattle.std.proofs.lemmas.Option.{slice_get_within}
use Rattle.kex_code.specs.Codes.{IsAmong}
use Rattle.kex_model.specs.Labelled.{Shape, place, parts}
use Rattle.kex_model.specs.States.{AllDifferent}
use Rattle.kex_model.specs.Survivors.{LeadsToEnd}
use Rattle.kex_model.proofs.Shapes.{among-append}
use Rattle.kex_model.proofs.Tables.{some_same, get_more, get_last, get_pushed}
use Rattle.kex_machine.specs.Nodes.{Graph, node_moves}
use Rattle.kex_machine.specs.Advancing.{EachPlace}
use Rattle.kex_paths.specs.KeptLeaves.{restrict_shape}
use Rattle.kex_paths.specs.Nexts.{Outline, IsOfShape, places_of}
use Rattle.kex_paths.specs.Spellings.{IsTreeSound}
use Rattle.kex_determine.specs.Determined.{AreStateTrees}
use Rattle.kex_cover.specs.Keeping.{AreLeftTrees, AreStates, EachAsksUpTo, IsLeftTree, IsStateTree, OneAsksMore}
use Rattle.kex_cover.specs.Optimal.{AsksAtMost, AsksMore, IsLeftState, LeftState}
use Rattle.kex_cover.specs.Searches.{AreWaiting}
use Rattle.kex_cover.proofs.LeftLeaves.{shape_same, some_at, AreUncoveredIn, first_left, left_state, state_leaves}

-- ---- a tree

each_place : (m : ℕ) (s : Shape ℕ) (p : ℕ) → EachPlace m s → IsAmong (places_of s) p → p < m
each_place m (place q) p h i = ⊎_elim (λ e. subst (λ z. z < m) e h) (λ j. absurd j) i
each_place m (parts l r) p h i = ⊎_elim (λ j. each_place m l p h.0 j) (λ j. each_place m r p h.1 j) (among-append (places_of l) (places_of r) p i)

-- the places of a tree are numbers of nodes
pub sound_places : (g : Graph) (inner : List Bool) (places : List ℕ) → IsTreeSound g inner places → (p : ℕ) → IsAmong places p → p < length g.nodes
sound_places g inner places sound p i = each_place (length g.nodes) sound.shape p sound.in_range (subst (λ z. IsAmong z p) sound.places_are i)

module _ (g : Graph) (tree : Outline) (sound : IsTreeSound tree.machine tree.shape tree.leaves) (state : IsStateTree g tree) where
  same_shape : sound.shape ≡ state.1.0
  same_shape = shape_same tree sound.shape state.1.0 (sound.inner_is, sound.places_are) state.1.1

  -- its leaves wait, each once
  pub leaves_wait : AreWaiting g tree.leaves
  leaves_wait p i =
      let j : IsAmong (places_of state.1.0) p = subst (λ z. IsAmong z p) state.1.1.1 i in
      let within : EachPlace (length g.nodes) state.1.0 = subst (λ z. EachPlace (length z.nodes) state.1.0) state.0 (subst (EachPlace (length tree.machine.nodes)) same_shape sound.in_range) in
      (each_place (length g.nodes) state.1.0 p within j, ((state_leaves (node_moves g.nodes) g.start state.1.0 state.1.2).1 p j).0)

  pub leaves_differ : AllDifferent tree.leaves
  leaves_differ = subst AllDifferent (sym state.1.1.1) (state_leaves (node_moves g.nodes) g.start state.1.0 state.1.2).0

-- what comes of a tree by marks of its leaves
abbrev pub ComesLeft : (ℕ → Bool) → Outline → Option Outline → Type 0
ComesLeft keep tree r = (s : Shape ℕ) → IsOfShape tree s → MatchOption r (restrict_shape keep s ≡ None) (λ t. (k : Shape ℕ) × (restrict_shape keep s ≡ Some k) × IsOfShape t k)

module _ (g : Graph) (tree : Outline) (state : IsStateTree g tree) (keep : ℕ → Bool) (told : AreUncoveredIn g keep tree.leaves) where
  told_of : (s : Shape ℕ) → IsOfShape tree s → AreUncoveredIn g keep (places_of s)
  told_of s is = λ front p back e. told front p back (is.1 ∙ e)

  leads : (p : ℕ) → IsAmong (places_of state.1.0) p → LeadsToEnd (node_moves g.nodes) p
  leads p i = ((state_leaves (node_moves g.nodes) g.start state.1.0 state.1.2).1 p i).1

  -- something is left
  pub some_comes : (r : Option Outline) → ComesLeft keep tree r → r ≡ None → ⊥
  some_comes None h e =
      let k = first_left g keep state.1.0 (told_of state.1.0 state.1.1) leads in
      let bad : None ≡ Some k.0 = sym (h state.1.0 state.1.1) ∙ k.1 in
      cc
  some_comes (Some t) h e = cc

  pub comes_left : (r : Option Outline) (t : Outline) → ComesLeft keep tree r → r ≡ Some t → t.machine ≡ g → IsLeftTree g tree t
  comes_left None t h e m = let bad : ⊥ = cc in absurd bad
  comes_left (Some u) t h e m = (m, (λ s is. let k = h s is in (k.0, subst (λ z. IsOfShape z k.0) (some_same u t e) k.2, left_state g keep s (told_of s is) k.0 k.1)))

-- ---- lists

take_next : {A : Type 0} (xs : List A) (n : ℕ) (x : A) → slice_get xs n ≡ Some x → take (n + 1) xs ≡ take n xs ++ x ∷ []
take_next {A} xs n x e = let more : suc n ≡ n + 1 = omega arith in subst (λ z. take z xs ≡ take n xs ++ x ∷ []) more (by xs n e)
  where
    by : (ys : List A) (m : ℕ) → slice_get ys m ≡ Some x → take (suc m) ys ≡ take m ys ++ x ∷ []
    by [] m h = cc
    by (y ∷ ys) zero h = let same : y ≡ x = cc in ap (λ z. z ∷ []) same
    by (y ∷ ys) (suc m) h = ap (λ z. y ∷ z) (by ys m h)

take_all : {A : Type 0} (xs : List A) (n : ℕ) → length xs ≤ n → take n xs ≡ xs
take_all [] zero le = refl
take_all [] (suc n) le = refl
take_all (x ∷ xs) zero le = absurd (omega (arith, le))
take_all (x ∷ xs) (suc n) le = ap (λ z. x ∷ z) (take_all xs n (omega (arith, le)))

take_none : {A : Type 0} (xs : List A) → take 0 xs ≡ []
take_none [] = refl
take_none (x ∷ xs) = refl

among_item : {A : Type 0} (xs : List A) (i : ℕ) (x : A) → slice_get xs i ≡ Some x → IsAmong xs x
among_item [] i x e = cc
among_item (y ∷ xs) zero x e = inl (cc)
among_item (y ∷ xs) (suc i) x e = inr (among_item xs i x e)

module _ (g : Graph) (shapes : List (Shape ℕ)) (trees : List Outline) (are : AreStateTrees g shapes trees) where
  -- the shape of a tree
  pub shape_at : (n : ℕ) (tree : Outline) → slice_get trees n ≡ Some tree → (s : Shape ℕ) × (slice_get shapes n ≡ Some s) × (tree.machine ≡ g) × IsOfShape tree s
  shape_at n tree at =
      let s = some_at shapes n (omega (arith, slice_get_within trees n tree at, are.count)) in
      let t = are.each n s.0 s.1 in
      let same : t.0 ≡ tree = some_same t.0 tree (sym t.1 ∙ at) in
      (s.0, s.1, subst (λ z. z.machine ≡ g) same t.2, subst (λ z. IsOfShape z s.0) same t.3)

  pub tree_state : AreStates g shapes → (n : ℕ) (tree : Outline) → slice_get trees n ≡ Some tree → IsStateTree g tree
  tree_state states n tree at = let s = shape_at n tree at in (s.2, (s.0, s.3, states s.0 (among_item shapes n s.0 s.1)))

  -- one tree more
  pub left_more : (n : ℕ) (tree left : Outline) (lefts : List Outline) → slice_get trees n ≡ Some tree → AreLeftTrees g (take n shapes) lefts → IsLeftTree g tree left → AreLeftTrees g (take (n + 1) shapes) (lefts ++ left ∷ [])
  left_more n tree left lefts at h k =
      let s = shape_at n tree at in
      let l = k.1 s.0 s.3 in
      let new : LeftState = record { whole = s.0; left = l.0 } in record {
        states = h.states ++ new ∷ [];
        wholes_are = map-append (λ x. x.whole) h.states (new ∷ []) ∙ ap (λ z. z ++ s.0 ∷ []) h.wholes_are ∙ sym (take_next shapes n s.0 s.1);
        count = omega (arith, h.count, length-append lefts (left ∷ []), length-append h.states (new ∷ []));
        each = λ i x e. ⊎_elim
            (λ old. let r = h.each i x old in (r.0, get_more lefts (left ∷ []) i r.0 r.1, r.2, r.3, r.4))
            (λ last. (left, ap (λ z. slice_get (lefts ++ left ∷ []) z) (last.0 ∙ sym h.count) ∙ get_last lefts left, k.0, subst (λ z. IsOfShape left z.left) last.1 l.1, subst (λ z. IsLeftState g z) last.1 l.2))
            (get_pushed h.states new i x e);
      }

  pub asks_more : (most n : ℕ) (tree : Outline) → slice_get trees n ≡ Some tree → EachAsksUpTo g most (take n shapes) → AsksAtMost g most tree.leaves → EachAsksUpTo g most (take (n + 1) shapes)
  asks_more most n tree at h k = λ s i. let x = shape_at n tree at in ⊎_elim
      (λ j. h s j)
      (λ j. ⊎_elim (λ e. subst (λ z. AsksAtMost g most (places_of z)) e (subst (AsksAtMost g most) x.3.1 k)) (λ m. absurd m) j)
      (among-append (take n shapes) (x.0 ∷ []) s (subst (λ z. IsAmong z s) (take_next shapes n x.0 x.1) i))

  pub one_asks : (most n : ℕ) (tree : Outline) → slice_get trees n ≡ Some tree → AsksMore g most tree.leaves → OneAsksMore g most shapes
  one_asks most n tree at k = let x = shape_at n tree at in (x.0, among_item shapes n x.0 x.1, subst (AsksMore g most) x.3.1 k)

  pub left_whole : (n : ℕ) (lefts : List Outline) → length trees ≤ n → AreLeftTrees g (take n shapes) lefts → AreLeftTrees g shapes lefts
  left_whole n lefts le h = subst (λ z. AreLeftTrees g z lefts) (take_all shapes n (omega (arith, le, are.count))) h

  pub asks_whole : (most n : ℕ) → length trees ≤ n → EachAsksUpTo g most (take n shapes) → EachAsksUpTo g most shapes
  asks_whole most n le h = subst (EachAsksUpTo g most) (take_all shapes n (omega (arith, le, are.count))) h

pub none_left_yet : (g : Graph) (shapes : List (Shape ℕ)) (lefts : List Outline) → lefts ≡ [] → AreLeftTrees g (take 0 shapes) lefts
none_left_yet g shapes lefts e = record {
  states = [];
  wholes_are = sym (take_none shapes);
  count = ap length e;
  each = λ i s at. no_item i s at;
}
  where
    no_item : {B : Type 0} (i : ℕ) (s : LeftState) → slice_get [] i ≡ Some s → B
    no_item i s at = let bad : ⊥ = cc in absurd bad

pub none_asks_yet : (g : Graph) (most : ℕ) (shapes : List (Shape ℕ)) → EachAsksUpTo g most (take 0 shapes)
none_asks_yet g most shapes = λ s i. absurd (subst (λ z. IsAmong z s) (take_none shapes) i)
