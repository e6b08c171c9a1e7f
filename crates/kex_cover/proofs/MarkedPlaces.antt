-- Marks of the places that a byte leads to, and the lists of those that wait.
use Rattle.std.proofs.Common.{◌≡◌, ℕ, zero, suc, ◌+◌, ◌<◌, ◌≤◌, true, false, List, [], ◌∷◌, ◌++◌, ◌⊎◌, inl, inr, ⊎_elim, length, get_or, take, refl, sym, ap, subst, ◌∙◌, arith, true≢false}
use Rattle.std.specs.Prelude.{IfOk, Result, Ok, Err}
use Rattle.std.proofs.Math.Seq.{take-suc}
use Rattle.std.proofs.lemmas.Bool.{cases_eq}
use Rattle.kex_code.specs.Codes.{IsAmong}
use Rattle.kex_model.specs.Moves.{Move, accept, Step, took, Allows, reads, goes_left, goes_right, goes_forced, goes, target_of, Walk, Waits}
use Rattle.kex_model.proofs.Shapes.{among-append, among_left, among_right}
use Rattle.kex_machine.specs.declared.MNode.{MNode}
use Rattle.kex_machine.specs.Nodes.{Graph, node_moves, MoveBelow, StaysWithin}
use Rattle.kex_frontier.specs.Rows.{has_mark, IsHighestBelow, AlsoMarks, IsByteStep}
use Rattle.kex_frontier.proofs.RowSteps.{byte_step, is_byte_way}
use Rattle.kex_cover.specs.Pairs.{Falls, IsReachedBy, ArePlacesAfter, IsPlaceSetOf}
use Rattle.kex_cover.specs.Searches.{AreWaiting, AreWithin, AreMarksOf, IsListOf, IsMarkedAfter, HasEnd}

-- what holds of a result
pub onward : {T E : Type 0} (P Q : T → Type 0) (r : Result T E) → ((x : T) → P x → Q x) → IfOk r P → IfOk r Q
onward P Q (Ok x) f h = f x h
onward P Q (Err e) f h = tt

-- one place more of a list
pub one_more : (xs : List ℕ) (i : ℕ) → i < length xs → take (i + 1) xs ≡ take i xs ++ get_or xs i 0 ∷ []
one_more xs i lt = let e : suc i ≡ i + 1 = omega arith in subst (λ z. take z xs ≡ take i xs ++ get_or xs i 0 ∷ []) e (take-suc xs i 0 lt)

pub get_among : (xs : List ℕ) (i : ℕ) → i < length xs → IsAmong xs (get_or xs i 0)
get_among [] i lt = absurd (omega (arith, lt))
get_among (x ∷ xs) zero lt = inl refl
get_among (x ∷ xs) (suc i) lt = inr (get_among xs i (omega (arith, lt)))

pub take_whole : (xs : List ℕ) (i : ℕ) → length xs ≤ i → take i xs ≡ xs
take_whole [] zero le = refl
take_whole [] (suc i) le = refl
take_whole (x ∷ xs) zero le = absurd (omega (arith, le))
take_whole (x ∷ xs) (suc i) le = ap (λ z. x ∷ z) (take_whole xs i (omega (arith, le)))

-- a step from the row of some places marks what is reached from them
pub stepped : (nodes : List MNode) (b : ℕ) (from row next : List ℕ) → AreMarksOf from row → IsByteStep nodes b row next → IsMarkedAfter nodes from b next
stepped nodes b from row next h k = record {
  real = λ q m. let r = k.real q m in (r.0, h.real r.0 r.2, (r.1, byte_step (node_moves nodes r.0) b r.1 r.3, r.4));
  all = λ q (p, i, (t, a, w)). k.all p t q (h.all p i) (is_byte_way a) w;
}

-- a list that falls, and a lower number after it
pub falls_more : (xs : List ℕ) (n : ℕ) → Falls xs → ((y : ℕ) → IsAmong xs y → n < y) → Falls (xs ++ n ∷ [])
falls_more [] n h low = ((λ y i. absurd i), tt)
falls_more (x ∷ xs) n h low = ((λ y i. ⊎_elim (λ j. h.0 y j) (λ j. ⊎_elim (λ e. subst (λ z. z < x) e (low x (inl refl))) (λ a. absurd a) j) (among-append xs (n ∷ []) y i)), falls_more xs n h.1 (λ y i. low y (inr i)))

-- the places from `left` on that are marked and wait
pub record IsListedFrom (nodes : List MNode) (row : List ℕ) (left : ℕ) (xs : List ℕ) : Type 0 where
  pub falls : Falls xs
  pub real : (q : ℕ) → IsAmong xs q → (left ≤ q) × (q < length nodes) × (has_mark row q ≡ true) × Waits (node_moves nodes) q
  pub all : (q : ℕ) → left ≤ q → q < length nodes → has_mark row q ≡ true → Waits (node_moves nodes) q → IsAmong xs q

module _ (nodes : List MNode) (row : List ℕ) where
  pub listed_none : IsListedFrom nodes row (length nodes) []
  listed_none = record { falls = tt; real = λ q i. absurd i; all = λ q le lt. absurd (omega (arith, le, lt)) }

  lower : (left n q : ℕ) → n ≤ q → (q ≡ n → ⊥) → n < q
  lower left n q le ne = grind arith

  either : (left q : ℕ) → (left ≤ q) ⊎ (q < left)
  either left q = grind arith

  pub listed_more : (left n : ℕ) (xs : List ℕ) → IsListedFrom nodes row left xs → IsHighestBelow row left n → n < length nodes → Waits (node_moves nodes) n → IsListedFrom nodes row n (xs ++ n ∷ [])
  listed_more left n xs h top lt waits = record {
    falls = falls_more xs n h.falls (λ y i. let r = h.real y i in let less = top.below in omega (arith, r.0, less));
    real = λ q i. ⊎_elim (λ j. let r = h.real q j in (let less = top.below in omega (arith, r.0, less), r.1, r.2, r.3)) (λ j. ⊎_elim (λ e. (omega (arith, e), subst (λ z. z < length nodes) e lt, subst (λ z. has_mark row z ≡ true) e top.marked, subst (λ z. Waits (node_moves nodes) z) e waits)) (λ a. absurd a) j) (among-append xs (n ∷ []) q i);
    all = λ q le below m w. ⊎_elim (λ e. among_right xs (n ∷ []) q (inl (sym e))) (λ ne. ⊎_elim (λ far. among_left xs (n ∷ []) q (h.all q far below m w)) (λ near. absurd (true≢false (sym m ∙ top.highest q (lower left n q le ne) near))) (either left q)) (cases_eq q n);
  }

  pub listed_past : (left n : ℕ) (xs : List ℕ) → IsListedFrom nodes row left xs → IsHighestBelow row left n → (Waits (node_moves nodes) n → ⊥) → IsListedFrom nodes row n xs
  listed_past left n xs h top busy = record {
    falls = h.falls;
    real = λ q i. let r = h.real q i in (let less = top.below in omega (arith, r.0, less), r.1, r.2, r.3);
    all = λ q le below m w. ⊎_elim (λ e. absurd (busy (subst (λ z. Waits (node_moves nodes) z) e w))) (λ ne. ⊎_elim (λ far. h.all q far below m w) (λ near. absurd (true≢false (sym m ∙ top.highest q (lower left n q le ne) near))) (either left q)) (cases_eq q n);
  }

  pub listed_all : (left : ℕ) (xs : List ℕ) → IsListedFrom nodes row left xs → ((n : ℕ) → n < left → has_mark row n ≡ false) → IsListOf nodes row xs
  listed_all left xs h none = record {
    falls = h.falls;
    real = λ q i. let r = h.real q i in (r.1, r.2, r.3);
    all = λ q lt m w. ⊎_elim (λ far. h.all q far lt m w) (λ near. absurd (true≢false (sym m ∙ none q near))) (either left q);
  }

step_within : (c : ℕ) (v : Move ℕ) (k : Step ℕ) → MoveBelow c v → Allows v k → target_of k < c
step_within c v k h (reads i) = h
step_within c v k h goes_left = h.0
step_within c v k h goes_right = h.1
step_within c v k h goes_forced = h
step_within c v k h goes = h

pub walk_within : (nodes : List MNode) → StaysWithin nodes → (ks : List (Step ℕ)) (s t : ℕ) → s < length nodes → Walk (node_moves nodes) s ks t → t < length nodes
walk_within nodes within [] s t lt w = subst (λ z. z < length nodes) w lt
walk_within nodes within (k ∷ ks) s t lt w = walk_within nodes within ks (target_of k) t (step_within (length nodes) (node_moves nodes s) k (within s lt) w.0) w.1

module _ (g : Graph) (within : StaysWithin g.nodes) where
  -- the marked places that wait are the set
  pub set_marked : (from row xs : List ℕ) (b : ℕ) → AreWithin (length g.nodes) from → IsMarkedAfter g.nodes from b row → IsListOf g.nodes row xs → ArePlacesAfter g from b xs
  set_marked from row xs b small h k = record {
    falls = k.falls;
    real = λ q i. let r = k.real q i in (h.real q r.1, r.2);
    all = λ q way w. k.all q (lt q way) (h.all q way) w;
  }
    where
      lt : (q : ℕ) → IsReachedBy g from b q → q < length g.nodes
      lt q (p, i, (t, a, (ks, walk, quiet))) = walk_within g.nodes within ks t q (step_within (length g.nodes) (node_moves g.nodes p) (took b t) (within p (small p i)) a) walk

pub marked_none : (row : List ℕ) → ((n : ℕ) → has_mark row n ≡ false) → AreMarksOf [] row
marked_none row none = record { real = λ t h. absurd (true≢false (sym h ∙ none t)); all = λ t i. absurd i }

pub marked_more : (xs old new : List ℕ) (p : ℕ) → AreMarksOf xs old → AlsoMarks (p ∷ []) old new → AreMarksOf (xs ++ p ∷ []) new
marked_more xs old new p h k = record {
  real = λ t q. ⊎_elim (λ j. among_left xs (p ∷ []) t (h.real t j)) (λ j. among_right xs (p ∷ []) t j) (k.only t q);
  all = λ t i. ⊎_elim (λ j. k.kept t (h.all t j)) (λ j. k.added t j) (among-append xs (p ∷ []) t i);
}

pub set_listed : (g : Graph) (xs row set : List ℕ) → AreWaiting g xs → AreMarksOf xs row → IsListOf g.nodes row set → IsPlaceSetOf xs set
set_listed g xs row set waits h k = record {
  falls = k.falls;
  real = λ q i. h.real q (k.real q i).1;
  all = λ q i. let w = waits q i in k.all q w.0 (h.all q i) w.1;
}

pub no_end_more : (nodes : List MNode) (xs : List ℕ) (p : ℕ) → (HasEnd nodes xs → ⊥) → (node_moves nodes p ≡ accept → ⊥) → HasEnd nodes (xs ++ p ∷ []) → ⊥
no_end_more nodes xs p none busy (e, i, acc) = ⊎_elim (λ j. none (e, j, acc)) (λ j. ⊎_elim (λ same. busy (subst (λ z. node_moves nodes z ≡ accept) (sym same) acc)) (λ a. a) j) (among-append xs (p ∷ []) e i)
