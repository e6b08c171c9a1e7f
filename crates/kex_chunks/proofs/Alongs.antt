-- Courses along a text, byte by byte and stretch by stretch.
use Rattle.std.proofs.Common.{◌≡◌, ℕ, zero, suc, ◌+◌, ◌<◌, ◌≤◌, List, [], ◌∷◌, ◌++◌, ⊎_elim, Option, Some, None, length, get_or, take, drop, refl, sym, ap, subst, ◌∙◌, arith}
use Rattle.std.specs.Prelude.{slice_get}
use Rattle.std.proofs.lemmas.List.{take_more, drop_more, take-append-drop, length-take-le}
use Rattle.std.proofs.lemmas.Option.{get_or_from_slice_get}
use Rattle.std.proofs.Math.ListN.{set, length-set}
use Rattle.kex_byteset.specs.Classes.{class_at}
use Rattle.kex_sst.specs.declared.summary.Course.{Course}
use Rattle.kex_sst.specs.declared.summary.Course.TheVariants.{Gone, Goes}
use Rattle.kex_sst.specs.declared.table.Transition.{Transition}
use Rattle.kex_sst.specs.Parts.{Change}
use Rattle.kex_sst.specs.Tables.{Transducer, IsTable, transition_of}
use Rattle.kex_sst.specs.Passes.{next_of}
use Rattle.kex_sst.specs.Series.{then_update, with_read}
use Rattle.kex_sst.specs.Summaries.{IsCourseOf, next_course_by, course_along, course_of, courses_from}
use Rattle.kex_sst.proofs.Passes.{by_class}
use Rattle.kex_sst.proofs.Courses.{along_gone, along_more, course_at, course_in_range, courses_count, in_range}
use Rattle.kex_chunks.specs.declared.stretches.Stretch.{Stretch}
use Rattle.kex_chunks.specs.Stretches.{course_in, AreStretches, IsStretch, StopsBefore}
use Rattle.kex_chunks.proofs.MovedLists.{set_there}

-- what a state does on a byte
pub by_byte : (t : Transducer) (state b class : ℕ) → IsTable t → b < 256 → class ≡ class_at t.classes b → next_of t state b ≡ transition_of t state class
by_byte t state b class table lt e = (by_class t state).byte b (omega (arith, table.numbered.long, lt)) ∙ ap (λ z. transition_of t state z) (sym e)

module _ (t : Transducer) (e : Course) (x : List ℕ) (i b now : ℕ) (u : Change) (lt : i < length x) (is : b ≡ get_or x i 0) (h : course_along t 0 e (take i x) ≡ Goes now u) where
  -- along one byte more
  pub along_next : (r : Transition) → next_of t now b ≡ Some r → course_along t 0 e (take (i + 1) x) ≡ Goes r.target (then_update u (with_read b r.update))
  along_next r n =
      ap (λ z. course_along t 0 e z) (take_more x i 0 lt ∙ ap (λ z. take i x ++ z ∷ []) (sym is))
      ∙ along_more t 0 e (take i x) (b ∷ [])
      ∙ ap (λ z. course_along t (0 + length (take i x)) z (b ∷ [])) h
      ∙ ap (λ z. next_course_by z (0 + length (take i x)) b u) n

  -- a byte on which there is no transition
  pub along_stop : next_of t now b ≡ None → course_along t 0 e x ≡ Gone i
  along_stop n =
      let le : i ≤ length x = omega arith in
      let long = length-take-le i x le in
      let here : 0 + length (take i x) ≡ i = omega arith in
      ap (λ z. course_along t 0 e z) (sym (take-append-drop i x) ∙ ap (λ z. take i x ++ z) (drop_more x i 0 lt ∙ ap (λ z. z ∷ drop (i + 1) x) (sym is)))
      ∙ along_more t 0 e (take i x) (b ∷ drop (i + 1) x)
      ∙ ap (λ z. course_along t (0 + length (take i x)) z (b ∷ drop (i + 1) x)) h
      ∙ ap (λ z. course_along t (suc (0 + length (take i x))) (next_course_by z (0 + length (take i x)) b u) (drop (i + 1) x)) n
      ∙ along_gone t (suc (0 + length (take i x))) (0 + length (take i x)) (drop (i + 1) x)
      ∙ ap (λ n. Gone n) here

-- a number below the length is that of an item
pub item_at : {A : Type 0} (xs : List A) (i : ℕ) → i < length xs → (x : A) × (slice_get xs i ≡ Some x)
item_at [] i lt = absurd (omega arith)
item_at (x ∷ xs) zero lt = (x, refl)
item_at (x ∷ xs) (suc i) lt = item_at xs i (omega arith)

pub gone_before : (bound states bytes done : ℕ) (c : Course) → IsCourseOf bytes states c → done + bytes < bound → StopsBefore bound done c
gone_before bound states bytes done (Gone n) h lt = omega (arith, h, lt)
gone_before bound states bytes done (Goes q u) h lt = tt

module _ (t : Transducer) (x : List ℕ) (q : ℕ) (s : Stretch) (lt : q < length t.states) (h : IsStretch t x q s) where
  -- the stretch from a state is its entry
  pub stretch_there : slice_get (courses_from t t.states 0 x) q ≡ Some (course_in s)
  stretch_there =
      let row = item_at t.states q lt in
      let here : 0 + q ≡ q = omega arith in
      course_at t t.states 0 q row.0 x row.1 ∙ ap (λ n. Some (course_of t n row.0.registers x)) here ∙ ap (λ z. Some z) (sym (h row.0 row.1))

  pub stretch_before : IsTable t → (bound done : ℕ) → done + length x < bound → StopsBefore bound done (course_in s)
  stretch_before table bound done room =
      let row = item_at t.states q lt in
      subst (λ z. StopsBefore bound done z) (sym (h row.0 row.1)) (gone_before bound (length t.states) (length x) done (course_of t q row.0.registers x) (course_in_range t table q row.0 x row.1) room)

-- one state more from which nothing was asked for
pub none_more : (met : List (Option Stretch)) → ((q : ℕ) (s : Stretch) → slice_get met q ≡ Some (Some s) → ⊥) → (q : ℕ) (s : Stretch) → slice_get (met ++ None ∷ []) q ≡ Some (Some s) → ⊥
none_more [] h zero s e = cc
none_more [] h (suc q) s e = cc
none_more (x ∷ xs) h zero s e = h 0 s e
none_more (x ∷ xs) h (suc q) s e = none_more xs (λ k. h (suc k)) q s e

-- one stretch more is known
pub stretches_more : (t : Transducer) (x : List ℕ) (met : List (Option Stretch)) (state : ℕ) (s : Stretch) → AreStretches t x met → IsStretch t x state s → AreStretches t x (set met state (Some s))
stretches_more t x met state s h is = record {
  table = h.table;
  count = length-set met state (Some s) ∙ h.count;
  each = λ q r at. ⊎_elim
      (λ e. subst (λ n. IsStretch t x n r) (sym e.0) (subst (λ z. IsStretch t x state z) (sym (same e.1)) is))
      (λ e. h.each q r e)
      (set_there met state q (Some s) (Some r) at);
}
  where
    same : {a b : Stretch} → Some a ≡ Some b → a ≡ b
    same e = cc

-- the courses of a text are in range
pub courses_in_range : (t : Transducer) (x : List ℕ) (done : ℕ) → IsTable t → length x ≡ done → (q : ℕ) (c : Course) → slice_get (courses_from t t.states 0 x) q ≡ Some c → IsCourseOf done (length t.states) c
courses_in_range t x done table e q c at = subst (λ n. IsCourseOf n (length t.states) c) e (subst (λ n. IsCourseOf (length x) n c) (courses_count t table t.states 0 x) ((in_range t x table).each q c at))

-- a state's course comes after those of the states before it
pub courses_next : (t : Transducer) (x : List ℕ) (q : ℕ) (s : Stretch) → IsTable t → q < length t.states → IsStretch t x q s → take q (courses_from t t.states 0 x) ++ course_in s ∷ [] ≡ take (q + 1) (courses_from t t.states 0 x)
courses_next t x q s table lt h =
    let all = courses_from t t.states 0 x in
    let many = courses_count t table t.states 0 x in
    let here : q < length all = omega arith in
    ap (λ z. take q all ++ z ∷ []) (sym (get_or_from_slice_get all q (course_in s) (course_in s) (stretch_there t x q s lt h))) ∙ sym (take_more all q (course_in s) here)
