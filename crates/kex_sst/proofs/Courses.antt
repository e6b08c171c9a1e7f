-- Summaries: those of two texts join, and they say what the table does.
use Rattle.std.proofs.Common.{◌≡◌, ℕ, zero, suc, ◌+◌, ◌<◌, List, [], ◌∷◌, ◌++◌, inl, inr, ⊎_elim, Option, Some, None, map, length, get_or, refl, sym, ap, ap₂, subst, ◌∙◌, append_assoc, append-nil, arith}
use Rattle.std.specs.Prelude.{slice_get}
use Rattle.std.proofs.Math.ListN.{get_or-map}
use Rattle.std.proofs.lemmas.List.{length-map}
use Rattle.kex_code.specs.declared.symbol.Symbol.{Symbol}
use Rattle.kex_code.specs.Codes.{IsAmong, Different}
use Rattle.kex_model.proofs.Shapes.{among-append, among_left, among_right}
use Rattle.kex_sst.specs.declared.parts.Part.{Part}
use Rattle.kex_sst.specs.declared.parts.Part.TheVariants.{Put, Old, Input}
use Rattle.kex_sst.specs.declared.summary.Course.{Course}
use Rattle.kex_sst.specs.declared.summary.Course.TheVariants.{Gone, Goes}
use Rattle.kex_sst.specs.declared.table.Transition.{Transition}
use Rattle.kex_sst.specs.Parts.{Change, EachPart, parts_code, value, olds, olds_in, reads_of}
use Rattle.kex_sst.specs.Tables.{Row, Transducer, IsTable}
use Rattle.kex_sst.specs.Passes.{Pass, pass_after, next_of, next_pass, passes_if}
use Rattle.kex_sst.specs.Series.{read_parts, substitute, then_update, with_read, olds_from, identity, ReadsNothing, series_of}
use Rattle.kex_sst.specs.Summaries.{next_course_by, next_course, course_along, course_of, courses_from, Sum, then_by, then_of, then_sum, passed_by, IsComposed, Determined, DoesAsSaid, IsCopyless, IsCourseOf, IsSumInRange}
use Rattle.kex_sst.proofs.Passes.{passes_none, leads_on}

pub map-same : {A B : Type 0} (f g : A → B) (xs : List A) → ((x : A) → f x ≡ g x) → map f xs ≡ map g xs
map-same f g [] h = refl
map-same f g (x ∷ xs) h = ap₂ (λ y ys. y ∷ ys) (h x) (map-same f g xs h)

pub map-map : {A B C : Type 0} (f : A → B) (g : B → C) (xs : List A) → map g (map f xs) ≡ map (λ x. g (f x)) xs
map-map f g [] = refl
map-map f g (x ∷ xs) = ap (λ ys. g (f x) ∷ ys) (map-map f g xs)

pub substitute-append : (regs : List (List Part)) (xs ys : List Part) → substitute regs (xs ++ ys) ≡ substitute regs xs ++ substitute regs ys
substitute-append regs [] ys = refl
substitute-append regs (Put s ∷ xs) ys = ap (λ z. Put s ∷ z) (substitute-append regs xs ys)
substitute-append regs (Old i ∷ xs) ys = ap (λ z. get_or regs i [] ++ z) (substitute-append regs xs ys) ∙ sym (append_assoc (get_or regs i []) (substitute regs xs) (substitute regs ys))
substitute-append regs (Input ∷ xs) ys = ap (λ z. Input ∷ z) (substitute-append regs xs ys)

substitute-substitute : (r s : List (List Part)) (xs : List Part) → substitute r (substitute s xs) ≡ substitute (map (λ z. substitute r z) s) xs
substitute-substitute r s [] = refl
substitute-substitute r s (Put c ∷ xs) = ap (λ z. Put c ∷ z) (substitute-substitute r s xs)
substitute-substitute r s (Old i ∷ xs) = substitute-append r (get_or s i []) (substitute s xs) ∙ ap₂ (λ y z. y ++ z) (sym (get_or-map (λ z. substitute r z) s i [])) (substitute-substitute r s xs)
substitute-substitute r s (Input ∷ xs) = ap (λ z. Input ∷ z) (substitute-substitute r s xs)

-- two updates and a third after them are the first, and the other two after it
pub then_then_update : (u v w : Change) → then_update (then_update u v) w ≡ then_update u (then_update v w)
then_then_update u v w = ap₂ (λ y z. record { out = y; regs = z })
    (append_assoc u.out (substitute u.regs v.out) (substitute (map (λ z. substitute u.regs z) v.regs) w.out)
    ∙ ap (λ z. u.out ++ z) (ap (λ z. substitute u.regs v.out ++ z) (sym (substitute-substitute u.regs v.regs w.out)) ∙ sym (substitute-append u.regs v.out (substitute v.regs w.out))))
    (map-same (λ xs. substitute (map (λ z. substitute u.regs z) v.regs) xs) (λ xs. substitute u.regs (substitute v.regs xs)) w.regs (λ xs. sym (substitute-substitute u.regs v.regs xs))
    ∙ sym (map-map (λ xs. substitute v.regs xs) (λ xs. substitute u.regs xs) w.regs))

substitute_olds : (pre regs : List (List Part)) → map (λ xs. substitute (pre ++ regs) xs) (olds_from (length pre) (length regs)) ≡ regs
substitute_olds pre [] = refl
substitute_olds pre (r ∷ regs) = ap₂ (λ y z. y ∷ z) (append-nil (get_or (pre ++ r ∷ regs) (length pre) []) ∙ at pre) (more (substitute_olds (pre ++ r ∷ []) regs))
  where
    at : (pre : List (List Part)) → get_or (pre ++ r ∷ regs) (length pre) [] ≡ r
    at [] = refl
    at (p ∷ pre) = at pre

    one_more : (pre : List (List Part)) → length (pre ++ r ∷ []) ≡ suc (length pre)
    one_more [] = refl
    one_more (p ∷ pre) = ap (λ n. suc n) (one_more pre)

    more : map (λ xs. substitute ((pre ++ r ∷ []) ++ regs) xs) (olds_from (length (pre ++ r ∷ [])) (length regs)) ≡ regs → map (λ xs. substitute (pre ++ r ∷ regs) xs) (olds_from (suc (length pre)) (length regs)) ≡ regs
    more h = ap₂ (λ n all. map (λ xs. substitute all xs) (olds_from n (length regs))) (sym (one_more pre)) (sym (append_assoc pre (r ∷ []) regs)) ∙ h

-- after an update the identity changes nothing
pub then_identity : (u : Change) → then_update u (identity (length u.regs)) ≡ u
then_identity u = ap₂ (λ y z. record { out = y; regs = z }) (append-nil u.out) (substitute_olds [] u.regs)

module _ (t : Transducer) where
  pub along_gone : (n m : ℕ) (x : List ℕ) → course_along t n (Gone m) x ≡ Gone m
  along_gone n m [] = refl
  along_gone n m (b ∷ x) = along_gone (suc n) m x

  pub along_more : (n : ℕ) (e : Course) (x y : List ℕ) → course_along t n e (x ++ y) ≡ course_along t (n + length x) (course_along t n e x) y
  along_more n e [] y = let zero : n ≡ n + 0 = omega arith in ap (λ k. course_along t k e y) zero
  along_more n e (b ∷ x) y = let more : suc n + length x ≡ n + suc (length x) = omega arith in along_more (suc n) (next_course t n e b) x y ∙ ap (λ k. course_along t k (course_along t (suc n) (next_course t n e b) x) y) more

  -- after n bytes and an update a text goes on as it does from the state reached
  along_behind : (n j : ℕ) (u v : Change) (q : ℕ) (x : List ℕ) → course_along t (n + j) (Goes q (then_update u v)) x ≡ then_by (Some (course_along t j (Goes q v) x)) n u
  along_behind n j u v q [] = refl
  along_behind n j u v q (b ∷ x) = by (next_of t q b) (λ r. along_behind n (suc j) u (then_update v (with_read b r.update)) r.target x)
    where
      by : (r : Option Transition) → ((r : Transition) → course_along t (n + suc j) (Goes r.target (then_update u (then_update v (with_read b r.update)))) x ≡ then_by (Some (course_along t (suc j) (Goes r.target (then_update v (with_read b r.update))) x)) n u) → course_along t (suc (n + j)) (next_course_by r (n + j) b (then_update u v)) x ≡ then_by (Some (course_along t (suc j) (next_course_by r j b v) x)) n u
      by None on = along_gone (suc (n + j)) (n + j) x ∙ ap (λ e. then_by (Some e) n u) (sym (along_gone (suc j) j x))
      by (Some r) on =
          let more : suc (n + j) ≡ n + suc j = omega arith in
          ap₂ (λ k c. course_along t k (Goes r.target c) x) more (then_then_update u v (with_read b r.update)) ∙ on r

  pub course_at : (ss : List Row) (k q : ℕ) (s : Row) (x : List ℕ) → slice_get ss q ≡ Some s → slice_get (courses_from t ss k x) q ≡ Some (course_of t (k + q) s.registers x)
  course_at [] k q s x e = let bad : ⊥ = cc in absurd bad
  course_at (r ∷ ss) k zero s x e =
      let same : r ≡ s = cc in
      let zero : k ≡ k + 0 = omega arith in
      ap₂ (λ n r. Some (course_of t n r.registers x)) zero same
  course_at (r ∷ ss) k (suc q) s x e =
      let more : suc k + q ≡ k + suc q = omega arith in
      course_at ss (suc k) q s x e ∙ ap (λ n. Some (course_of t n s.registers x)) more

  -- a state of the table, with an update that gives its registers
  pub record IsAt (from q : ℕ) (u : Change) : Type 0 where
    pub row : Row
    pub at : slice_get t.states q ≡ Some row
    pub course : IsComposed from row.registers u

  abbrev pub IsAtIf : ℕ → Course → Type 0
  IsAtIf from (Gone n) = Unit {0}
  IsAtIf from (Goes q u) = IsAt from q u

-- lists that are different, and have nothing in common
different_both : (xs ys : List ℕ) → Different xs → Different ys → ((z : ℕ) → IsAmong xs z → IsAmong ys z → ⊥) → Different (xs ++ ys)
different_both [] ys d e apart = e
different_both (x ∷ xs) ys d e apart = ((λ i. ⊎_elim (λ j. d.0 j) (λ j. apart x (inl refl) j) (among-append xs ys x i)), different_both xs ys d.1 e (λ z i j. apart z (inr i) j))

pub different_left : (xs ys : List ℕ) → Different (xs ++ ys) → Different xs
different_left [] ys d = tt
different_left (x ∷ xs) ys d = ((λ i. d.0 (among_left xs ys x i)), different_left xs ys d.1)

pub different_right : (xs ys : List ℕ) → Different (xs ++ ys) → Different ys
different_right [] ys d = d
different_right (x ∷ xs) ys d = different_right xs ys d.1

pub different_apart : (xs ys : List ℕ) → Different (xs ++ ys) → (z : ℕ) → IsAmong xs z → IsAmong ys z → ⊥
different_apart [] ys d z i j = i
different_apart (x ∷ xs) ys d z i j = ⊎_elim (λ e. d.0 (subst (λ y. IsAmong (xs ++ ys) y) (sym e) (among_right xs ys z j))) (λ k. different_apart xs ys d.1 z k j) i

-- the old registers that lists give these
abbrev given : List (List Part) → List ℕ → List ℕ
given regs [] = []
given regs (i ∷ is) = olds (get_or regs i []) ++ given regs is

given-append : (regs : List (List Part)) (is js : List ℕ) → given regs (is ++ js) ≡ given regs is ++ given regs js
given-append regs [] js = refl
given-append regs (i ∷ is) js = ap (λ z. olds (get_or regs i []) ++ z) (given-append regs is js) ∙ sym (append_assoc (olds (get_or regs i [])) (given regs is) (given regs js))

pub olds-append : (xs ys : List Part) → olds (xs ++ ys) ≡ olds xs ++ olds ys
olds-append [] ys = refl
olds-append (Old i ∷ xs) ys = ap (λ z. i ∷ z) (olds-append xs ys)
olds-append (Put s ∷ xs) ys = olds-append xs ys
olds-append (Input ∷ xs) ys = olds-append xs ys

olds_through : (regs : List (List Part)) (xs : List Part) → olds (substitute regs xs) ≡ given regs (olds xs)
olds_through regs [] = refl
olds_through regs (Put s ∷ xs) = olds_through regs xs
olds_through regs (Input ∷ xs) = olds_through regs xs
olds_through regs (Old i ∷ xs) = olds-append (get_or regs i []) (substitute regs xs) ∙ ap (λ z. olds (get_or regs i []) ++ z) (olds_through regs xs)

olds_in_substitute : (regs lists : List (List Part)) → olds_in (map (λ xs. substitute regs xs) lists) ≡ given regs (olds_in lists)
olds_in_substitute regs [] = refl
olds_in_substitute regs (x ∷ xs) = ap₂ (λ y z. y ++ z) (olds_through regs x) (olds_in_substitute regs xs) ∙ sym (given-append regs (olds x) (olds_in xs))

reads_behind : (u v : Change) → reads_of (then_update u v) ≡ olds u.out ++ given u.regs (reads_of v)
reads_behind u v =
    ap₂ (λ y z. y ++ z) (olds-append u.out (substitute u.regs v.out) ∙ ap (λ z. olds u.out ++ z) (olds_through u.regs v.out)) (olds_in_substitute u.regs v.regs)
    ∙ append_assoc (olds u.out) (given u.regs (olds v.out)) (given u.regs (olds_in v.regs))
    ∙ ap (λ z. olds u.out ++ z) (sym (given-append u.regs (olds v.out) (olds_in v.regs)))

given_among : (regs : List (List Part)) (is : List ℕ) (j : ℕ) → IsAmong (given regs is) j → (i : ℕ) × IsAmong is i × IsAmong (olds (get_or regs i [])) j
given_among regs [] j h = absurd h
given_among regs (i ∷ is) j h = ⊎_elim (λ k. (i, inl refl, k)) (λ k. let r = given_among regs is j k in (r.0, inr r.1, r.2)) (among-append (olds (get_or regs i [])) (given regs is) j h)

-- what one list reads all of them read
among_lists : (regs : List (List Part)) (i j : ℕ) → IsAmong (olds (get_or regs i [])) j → IsAmong (olds_in regs) j
among_lists [] i j h = h
among_lists (r ∷ regs) zero j h = among_left (olds r) (olds_in regs) j h
among_lists (r ∷ regs) (suc i) j h = among_right (olds r) (olds_in regs) j (among_lists regs i j h)

list_different : (regs : List (List Part)) (i : ℕ) → Different (olds_in regs) → Different (olds (get_or regs i []))
list_different [] i d = tt
list_different (r ∷ regs) zero d = different_left (olds r) (olds_in regs) d
list_different (r ∷ regs) (suc i) d = list_different regs i (different_right (olds r) (olds_in regs) d)

-- two lists that read one register are one
one_list : (regs : List (List Part)) (i k j : ℕ) → Different (olds_in regs) → IsAmong (olds (get_or regs i [])) j → IsAmong (olds (get_or regs k [])) j → i ≡ k
one_list [] i k j d h l = absurd h
one_list (r ∷ regs) zero zero j d h l = refl
one_list (r ∷ regs) zero (suc k) j d h l = absurd (different_apart (olds r) (olds_in regs) d j h (among_lists regs k j l))
one_list (r ∷ regs) (suc i) zero j d h l = absurd (different_apart (olds r) (olds_in regs) d j l (among_lists regs i j h))
one_list (r ∷ regs) (suc i) (suc k) j d h l = ap (λ n. suc n) (one_list regs i k j (different_right (olds r) (olds_in regs) d) h l)

given_different : (regs : List (List Part)) (is : List ℕ) → Different (olds_in regs) → Different is → Different (given regs is)
given_different regs [] d e = tt
given_different regs (i ∷ is) d e = different_both (olds (get_or regs i [])) (given regs is) (list_different regs i d) (given_different regs is d e.1) (λ z h k. let r = given_among regs is z k in e.0 (subst (λ n. IsAmong is n) (sym (one_list regs i r.0 z d h r.2)) r.1))

course_behind : (from mid to : ℕ) (u v : Change) → IsComposed from mid u → Different (reads_of v) → length v.regs ≡ to → IsComposed from to (then_update u v)
course_behind from mid to u v h e count = record {
  count = length-map v.regs (λ xs. substitute u.regs xs) ∙ count;
  once = subst (λ z. Different z) (sym (reads_behind u v)) (different_both (olds u.out) (given u.regs (reads_of v)) (different_left (olds u.out) (olds_in u.regs) h.once) (given_different u.regs (reads_of v) (different_right (olds u.out) (olds_in u.regs) h.once) e) (λ z i j. let r = given_among u.regs (reads_of v) z j in different_apart (olds u.out) (olds_in u.regs) h.once z i (among_lists u.regs r.0 z r.2)));
  within = λ i k. ⊎_elim (λ j. h.within i (among_left (olds u.out) (olds_in u.regs) i j)) (λ j. let r = given_among u.regs (reads_of v) i j in h.within i (among_right (olds u.out) (olds_in u.regs) i (among_lists u.regs r.0 i r.2))) (among-append (olds u.out) (given u.regs (reads_of v)) i (subst (λ z. IsAmong z i) (reads_behind u v) k));
}

olds_read : (b : ℕ) (xs : List Part) → olds (read_parts b xs) ≡ olds xs
olds_read b [] = refl
olds_read b (Put s ∷ xs) = olds_read b xs
olds_read b (Old i ∷ xs) = ap (λ z. i ∷ z) (olds_read b xs)
olds_read b (Input ∷ xs) = olds_read b xs

olds_in_read : (b : ℕ) (xs : List (List Part)) → olds_in (map (λ x. read_parts b x) xs) ≡ olds_in xs
olds_in_read b [] = refl
olds_in_read b (x ∷ xs) = ap₂ (λ y z. y ++ z) (olds_read b x) (olds_in_read b xs)

reads_read : (b : ℕ) (u : Change) → reads_of (with_read b u) ≡ reads_of u
reads_read b u = ap₂ (λ y z. y ++ z) (olds_read b u.out) (olds_in_read b u.regs)

-- registers from k on are all different, and lie between k and k + n
olds_among : (k n i : ℕ) → IsAmong (olds_in (olds_from k n)) i → (◌<◌ i (k + n)) × ((i < k) → ⊥)
olds_among k zero i h = absurd h
olds_among k (suc n) i h = ⊎_elim
    (λ e. let lt : i < k + suc n = omega (arith, e) in (lt, (λ below. let bad : ⊥ = omega (arith, e, below) in bad)))
    (λ j. let r = olds_among (suc k) n i j in let lt = r.0 in let above = r.1 in let lt' : i < k + suc n = omega (arith, lt) in (lt', (λ below. above (omega (arith, below))))) h

olds_different : (k n : ℕ) → Different (olds_in (olds_from k n))
olds_different k zero = tt
olds_different k (suc n) = ((λ i. (olds_among (suc k) n k i).1 (omega arith)), olds_different (suc k) n)

olds_count : (k n : ℕ) → length (olds_from k n) ≡ n
olds_count k zero = refl
olds_count k (suc n) = ap (λ m. suc m) (olds_count (suc k) n)

course_begun : (n : ℕ) → IsComposed n n (identity n)
course_begun n = record { count = olds_count 0 n; once = olds_different 0 n; within = λ i h. let lt = (olds_among 0 n i h).0 in omega (arith, lt) }

module _ (t : Transducer) (table : IsTable t) where
  at_next : (from n b : ℕ) (e : Course) → IsAtIf t from e → IsAtIf t from (next_course t n e b)
  at_next from n b (Gone m) h = tt
  at_next from n b (Goes q u) h = by (next_of t q b) refl
    where
      by : (r : Option Transition) → next_of t q b ≡ r → IsAtIf t from (next_course_by r n b u)
      by None e = tt
      by (Some r) e =
          let l = leads_on t table q b r e in
          record { row = l.2.row; at = l.2.at; course = course_behind from h.row.registers l.2.row.registers u (with_read b r.update) h.course (subst (λ z. Different z) (sym (reads_read b r.update)) l.2.update.once) (length-map r.update.regs (λ x. read_parts b x) ∙ l.2.update.count) }

  at_after : (from n : ℕ) (e : Course) (x : List ℕ) → IsAtIf t from e → IsAtIf t from (course_along t n e x)
  at_after from n e [] h = h
  at_after from n e (b ∷ x) h = at_after from (suc n) (next_course t n e b) x (at_next from n b e h)

  at_course : (q : ℕ) (s : Row) (x : List ℕ) → slice_get t.states q ≡ Some s → IsAtIf t s.registers (course_of t q s.registers x)
  at_course q s x e = at_after s.registers 0 (Goes q (identity s.registers)) x (record { row = s; at = e; course = course_begun s.registers })

  course_joins : (q : ℕ) (s : Row) (x y : List ℕ) → slice_get t.states q ≡ Some s → course_of t q s.registers (x ++ y) ≡ then_of (length x) (courses_from t t.states 0 y) (course_of t q s.registers x)
  course_joins q s x y is = (let start : 0 + length x ≡ length x = omega arith in along_more t 0 (Goes q (identity s.registers)) x y ∙ ap (λ k. course_along t k (course_of t q s.registers x) y) start) ∙ by (course_of t q s.registers x) (at_course q s x is)
    where
      by : (e : Course) → IsAtIf t s.registers e → course_along t (length x) e y ≡ then_of (length x) (courses_from t t.states 0 y) e
      by (Gone m) h = along_gone t (length x) m y
      by (Goes p u) h =
          let zero : length x ≡ length x + 0 = omega arith in
          let start : 0 + p ≡ p = omega arith in
          let same : u ≡ then_update u (identity h.row.registers) = sym (then_identity u) ∙ ap (λ k. then_update u (identity k)) h.course.count in
          ap₂ (λ k c. course_along t k (Goes p c) y) zero same
          ∙ along_behind t (length x) 0 u (identity h.row.registers) p y
          ∙ ap (λ o. then_by o (length x) u) (sym (course_at t t.states 0 p h.row y h.at ∙ ap (λ n. Some (course_of t n h.row.registers y)) start))

  pub courses_join : (pre ss : List Row) (x y : List ℕ) → pre ++ ss ≡ t.states → courses_from t ss (length pre) (x ++ y) ≡ map (λ e. then_of (length x) (courses_from t t.states 0 y) e) (courses_from t ss (length pre) x)
  courses_join pre [] x y all = refl
  courses_join pre (s ∷ ss) x y all = ap₂ (λ e es. e ∷ es) (course_joins (length pre) s x y (ap (λ z. slice_get z (length pre)) (sym all) ∙ at pre)) (more (courses_join (pre ++ s ∷ []) ss x y (append_assoc pre (s ∷ []) ss ∙ all)))
    where
      at : (pre : List Row) → slice_get (pre ++ s ∷ ss) (length pre) ≡ Some s
      at [] = refl
      at (p ∷ pre) = at pre

      one_more : (pre : List Row) → length (pre ++ s ∷ []) ≡ suc (length pre)
      one_more [] = refl
      one_more (p ∷ pre) = ap (λ n. suc n) (one_more pre)

      Joins : ℕ → Type 0
      Joins k = courses_from t ss k (x ++ y) ≡ map (λ e. then_of (length x) (courses_from t t.states 0 y) e) (courses_from t ss k x)

      more : Joins (length (pre ++ s ∷ [])) → Joins (suc (length pre))
      more h = subst (λ k. Joins k) (one_more pre) h

length-both : (x y : List ℕ) → length (x ++ y) ≡ length x + length y
length-both [] y = omega arith
length-both (b ∷ x) y = let h = length-both x y in omega (arith, h)

pub determined : (t : Transducer) (x y : List ℕ) → Determined t x y
determined t x y table = ap₂ (λ n es. record { bytes = n; entries = es }) (length-both x y) (courses_join t table [] t.states x y refl)

slice-map : (f : Course → Course) (es : List Course) (q : ℕ) (o : Option Course) → slice_get es q ≡ o → slice_get (map f es) q ≡ elim o as (λ x. Option Course) [ None ↦ None | Some e ↦ Some (f e) ]
slice-map f [] q None e = refl
slice-map f [] q (Some x) e = let bad : ⊥ = cc in absurd bad
slice-map f (y ∷ es) zero None e = let bad : ⊥ = cc in absurd bad
slice-map f (y ∷ es) zero (Some x) e = let same : y ≡ x = cc in ap (λ z. Some (f z)) same
slice-map f (y ∷ es) (suc q) o e = slice-map f es q o e

then_then : (a b c : Sum) (e : Course) → then_of (a.bytes + b.bytes) c.entries (then_of a.bytes b.entries e) ≡ then_of a.bytes (map (λ d. then_of b.bytes c.entries d) b.entries) e
then_then a b c (Gone m) = refl
then_then a b c (Goes q u) = by (slice_get b.entries q) refl
  where
    by : (o : Option Course) → slice_get b.entries q ≡ o → then_of (a.bytes + b.bytes) c.entries (then_by o a.bytes u) ≡ then_by (slice_get (map (λ d. then_of b.bytes c.entries d) b.entries) q) a.bytes u
    by None is = ap (λ z. then_by z a.bytes u) (sym (slice-map (λ d. then_of b.bytes c.entries d) b.entries q None is))
    by (Some (Gone m)) is = ap (λ z. then_by z a.bytes u) (sym (slice-map (λ d. then_of b.bytes c.entries d) b.entries q (Some (Gone m)) is))
    by (Some (Goes p v)) is = last (slice_get c.entries p) ∙ ap (λ z. then_by z a.bytes u) (sym (slice-map (λ d. then_of b.bytes c.entries d) b.entries q (Some (Goes p v)) is))
      where
        last : (o : Option Course) → then_by o (a.bytes + b.bytes) (then_update u v) ≡ then_by (Some (then_by o b.bytes v)) a.bytes u
        last None = refl
        last (Some (Gone m)) = let more : (a.bytes + b.bytes) + m ≡ a.bytes + (b.bytes + m) = omega arith in ap (λ n. Gone n) more
        last (Some (Goes r w)) = ap (λ z. Goes r z) (then_then_update u v w)

pub associative : (a b c : Sum) → then_sum (then_sum a b) c ≡ then_sum a (then_sum b c)
associative a b c =
    let more : (a.bytes + b.bytes) + c.bytes ≡ a.bytes + (b.bytes + c.bytes) = omega arith in
    ap₂ (λ n es. record { bytes = n; entries = es }) more
    (map-map (λ e. then_of a.bytes b.entries e) (λ e. then_of (a.bytes + b.bytes) c.entries e) a.entries
    ∙ map-same (λ e. then_of (a.bytes + b.bytes) c.entries (then_of a.bytes b.entries e)) (λ e. then_of a.bytes (map (λ d. then_of b.bytes c.entries d) b.entries) e) a.entries (then_then a b c))

code-append : (regs : List (List Symbol)) (b : ℕ) (xs ys : List Part) → parts_code regs b (xs ++ ys) ≡ parts_code regs b xs ++ parts_code regs b ys
code-append regs b [] ys = refl
code-append regs b (x ∷ xs) ys = ap (λ z. value regs b x ++ z) (code-append regs b xs ys) ∙ sym (append_assoc (value regs b x) (parts_code regs b xs) (parts_code regs b ys))

-- what an update with its byte spells over what another spells
code_substituted : (regs : List (List Symbol)) (lists : List (List Part)) (b : ℕ) (xs : List Part) → parts_code regs 0 (substitute lists (read_parts b xs)) ≡ parts_code (map (λ z. parts_code regs 0 z) lists) b xs
code_substituted regs lists b [] = refl
code_substituted regs lists b (Put s ∷ xs) = ap (λ z. s ∷ z) (code_substituted regs lists b xs)
code_substituted regs lists b (Old i ∷ xs) = code-append regs 0 (get_or lists i []) (substitute lists (read_parts b xs)) ∙ ap₂ (λ y z. y ++ z) (sym (get_or-map (λ z. parts_code regs 0 z) lists i [])) (code_substituted regs lists b xs)
code_substituted regs lists b (Input ∷ xs) = ap (λ z. Symbol.Byte b ∷ z) (code_substituted regs lists b xs)

pass_behind : (u v : Change) (b q r : ℕ) (p : Pass) → pass_after v b (pass_after u 0 p q) r ≡ pass_after (then_update u (with_read b v)) 0 p r
pass_behind u v b q r p = ap₂ (λ c rs. record { state = r; code = c; registers = rs })
    (append_assoc p.code (parts_code p.registers 0 u.out) (parts_code (map (λ z. parts_code p.registers 0 z) u.regs) b v.out)
    ∙ ap (λ z. p.code ++ z) (ap (λ z. parts_code p.registers 0 u.out ++ z) (sym (code_substituted p.registers u.regs b v.out)) ∙ sym (code-append p.registers 0 u.out (substitute u.regs (read_parts b v.out)))))
    (map-same (λ xs. parts_code (map (λ z. parts_code p.registers 0 z) u.regs) b xs) (λ xs. parts_code p.registers 0 (substitute u.regs (read_parts b xs))) v.regs (λ xs. sym (code_substituted p.registers u.regs b xs))
    ∙ sym (map-map (λ xs. read_parts b xs) (λ xs. parts_code p.registers 0 (substitute u.regs xs)) v.regs)
    ∙ sym (map-map (λ xs. substitute u.regs xs) (λ xs. parts_code p.registers 0 xs) (map (λ xs. read_parts b xs) v.regs)))

module _ (t : Transducer) where
  passes_said : (n : ℕ) (e : Course) (x : List ℕ) (p : Pass) → passes_if t (passed_by e p) x ≡ passed_by (course_along t n e x) p
  passes_said n (Gone m) x p = passes_none t x ∙ ap (λ e. passed_by e p) (sym (along_gone t n m x))
  passes_said n (Goes q u) [] p = refl
  passes_said n (Goes q u) (b ∷ x) p = by (next_of t q b) (λ r. passes_said (suc n) (Goes r.target (then_update u (with_read b r.update))) x p)
    where
      by : (r : Option Transition) → ((r : Transition) → passes_if t (passed_by (Goes r.target (then_update u (with_read b r.update))) p) x ≡ passed_by (course_along t (suc n) (Goes r.target (then_update u (with_read b r.update))) x) p) → passes_if t (next_pass r b (pass_after u 0 p q)) x ≡ passed_by (course_along t (suc n) (next_course_by r n b u) x) p
      by None on = passes_none t x ∙ ap (λ e. passed_by e p) (sym (along_gone t (suc n) n x))
      by (Some r) on = ap (λ z. passes_if t (Some z) x) (pass_behind u r.update b q r.target p) ∙ on r

code_olds : (pre regs : List (List Symbol)) → map (λ xs. parts_code (pre ++ regs) 0 xs) (olds_from (length pre) (length regs)) ≡ regs
code_olds pre [] = refl
code_olds pre (r ∷ regs) = ap₂ (λ y z. y ∷ z) (append-nil (get_or (pre ++ r ∷ regs) (length pre) []) ∙ at pre) (more (code_olds (pre ++ r ∷ []) regs))
  where
    at : (pre : List (List Symbol)) → get_or (pre ++ r ∷ regs) (length pre) [] ≡ r
    at [] = refl
    at (p ∷ pre) = at pre

    one_more : (pre : List (List Symbol)) → length (pre ++ r ∷ []) ≡ suc (length pre)
    one_more [] = refl
    one_more (p ∷ pre) = ap (λ n. suc n) (one_more pre)

    more : map (λ xs. parts_code ((pre ++ r ∷ []) ++ regs) 0 xs) (olds_from (length (pre ++ r ∷ [])) (length regs)) ≡ regs → map (λ xs. parts_code (pre ++ r ∷ regs) 0 xs) (olds_from (suc (length pre)) (length regs)) ≡ regs
    more h = ap₂ (λ n all. map (λ xs. parts_code all 0 xs) (olds_from n (length regs))) (sym (one_more pre)) (sym (append_assoc pre (r ∷ []) regs)) ∙ h

-- what an update spells over what another spells, where the byte that is read is none
code_substitute : (regs : List (List Symbol)) (lists : List (List Part)) (xs : List Part) → parts_code regs 0 (substitute lists xs) ≡ parts_code (map (λ z. parts_code regs 0 z) lists) 0 xs
code_substitute regs lists [] = refl
code_substitute regs lists (Put s ∷ xs) = ap (λ z. s ∷ z) (code_substitute regs lists xs)
code_substitute regs lists (Old i ∷ xs) = code-append regs 0 (get_or lists i []) (substitute lists xs) ∙ ap₂ (λ y z. y ++ z) (sym (get_or-map (λ z. parts_code regs 0 z) lists i [])) (code_substitute regs lists xs)
code_substitute regs lists (Input ∷ xs) = ap (λ z. Symbol.Byte 0 ∷ z) (code_substitute regs lists xs)

-- two updates pass on what one does, and what the other does over the registers that it leaves
pub then_code : (regs : List (List Symbol)) (u v : Change) → parts_code regs 0 (then_update u v).out ≡ parts_code regs 0 u.out ++ parts_code (map (λ z. parts_code regs 0 z) u.regs) 0 v.out
then_code regs u v = code-append regs 0 u.out (substitute u.regs v.out) ∙ ap (λ z. parts_code regs 0 u.out ++ z) (code_substitute regs u.regs v.out)

-- and leave what the other leaves of those
pub then_registers : (regs : List (List Symbol)) (u v : Change) → map (λ z. parts_code regs 0 z) (then_update u v).regs ≡ map (λ z. parts_code (map (λ y. parts_code regs 0 y) u.regs) 0 z) v.regs
then_registers regs u v =
    map-map (λ xs. substitute u.regs xs) (λ xs. parts_code regs 0 xs) v.regs
    ∙ map-same (λ xs. parts_code regs 0 (substitute u.regs xs)) (λ xs. parts_code (map (λ y. parts_code regs 0 y) u.regs) 0 xs) v.regs (λ xs. code_substitute regs u.regs xs)

pub says : (t : Transducer) (x : List ℕ) → DoesAsSaid t x
says t x p =
    let begun : p ≡ pass_after (identity (length p.registers)) 0 p p.state = ap₂ (λ c rs. record { state = p.state; code = c; registers = rs }) (sym (append-nil p.code)) (sym (code_olds [] p.registers)) in
    ap (λ z. passes_if t (Some z) x) begun ∙ passes_said t 0 (Goes p.state (identity (length p.registers))) x p

pub copyless : (t : Transducer) (x : List ℕ) → IsCopyless t x
copyless t x table q q' s u is e =
    let h = subst (λ z. IsAtIf t s.registers z) e (at_course t table q s x is) in
    (h.row, h.at, h.course)

-- what is among one of the lists of registers
listed : (regs : List (List Part)) (i : ℕ) (z : Part) → IsAmong (get_or regs i []) z → (ys : List Part) × IsAmong regs ys × IsAmong ys z
listed [] i z h = absurd h
listed (r ∷ regs) zero z h = (r, inl refl, h)
listed (r ∷ regs) (suc i) z h = let l = listed regs i z h in (l.0, inr l.1, l.2)

-- where the registers read nothing, parts with their byte put in read nothing over them
substitute_written : (b : ℕ) (regs : List (List Part)) (xs : List Part) (z : Part) → ((ys : List Part) → IsAmong regs ys → (x : Part) → IsAmong ys x → ReadsNothing x) → IsAmong (substitute regs (read_parts b xs)) z → ReadsNothing z
substitute_written b regs [] z h i = absurd i
substitute_written b regs (Put s ∷ xs) z h i = ⊎_elim (λ e. subst (λ y. ReadsNothing y) e tt) (λ j. substitute_written b regs xs z h j) i
substitute_written b regs (Input ∷ xs) z h i = ⊎_elim (λ e. subst (λ y. ReadsNothing y) e tt) (λ j. substitute_written b regs xs z h j) i
substitute_written b regs (Old k ∷ xs) z h i = ⊎_elim (λ j. let l = listed regs k z j in h l.0 l.1 z l.2) (λ j. substitute_written b regs xs z h j) (among-append (get_or regs k []) (substitute regs (read_parts b xs)) z i)

among_map : {A B : Type 0} (f : A → B) (xs : List A) (y : B) → IsAmong (map f xs) y → (x : A) × IsAmong xs x × (f x ≡ y)
among_map f [] y h = absurd h
among_map f (x ∷ xs) y h = ⊎_elim (λ e. (x, inl refl, e)) (λ i. let r = among_map f xs y i in (r.0, inr r.1, r.2)) h

-- after an update that reads nothing, one with its byte put in reads nothing either
then_written : (b : ℕ) (u v : Change) → EachPart ReadsNothing u → EachPart ReadsNothing (then_update u (with_read b v))
then_written b u v h = record {
  out = λ z i. ⊎_elim (λ j. h.out z j) (λ j. substitute_written b u.regs v.out z h.regs j) (among-append u.out (substitute u.regs (read_parts b v.out)) z i);
  regs = λ ys i z j.
      let r = among_map (λ xs. substitute u.regs xs) (map (λ xs. read_parts b xs) v.regs) ys i in
      let q = among_map (λ xs. read_parts b xs) v.regs r.0 r.1 in
      let is : substitute u.regs (read_parts b q.0) ≡ ys = ap (λ z. substitute u.regs z) q.2 ∙ r.2 in
      substitute_written b u.regs q.0 z h.regs (subst (λ y. IsAmong y z) (sym is) j);
}

olds_written : (k n : ℕ) (ys : List Part) → IsAmong (olds_from k n) ys → (z : Part) → IsAmong ys z → ReadsNothing z
olds_written k zero ys h z i = absurd h
olds_written k (suc n) ys h z i = ⊎_elim (λ e. ⊎_elim (λ f. subst (λ y. ReadsNothing y) f tt) (λ bad. absurd bad) (subst (λ y. IsAmong y z) (sym e) i)) (λ j. olds_written (suc k) n ys j z i) h

pub identity_written : (n : ℕ) → EachPart ReadsNothing (identity n)
identity_written n = record { out = λ z i. absurd i; regs = λ ys i z j. olds_written 0 n ys i z j }

pub some_below : {A : Type 0} {x : A} (xs : List A) (i : ℕ) → slice_get xs i ≡ Some x → i < length xs
some_below [] i e = let bad : ⊥ = cc in absurd bad
some_below (x ∷ xs) zero e = omega arith
some_below (x ∷ xs) (suc i) e = let h = some_below xs i e in omega (arith, h)

module _ (t : Transducer) (table : IsTable t) where
  next_in_range : (n b : ℕ) (e : Course) → IsCourseOf n (length t.states) e → IsCourseOf (suc n) (length t.states) (next_course t n e b)
  next_in_range n b (Gone m) h = omega (arith, h)
  next_in_range n b (Goes q u) h = by (next_of t q b) refl
    where
      by : (r : Option Transition) → next_of t q b ≡ r → IsCourseOf (suc n) (length t.states) (next_course_by r n b u)
      by None e = omega arith
      by (Some r) e = let l = leads_on t table q b r e in (some_below t.states r.target l.2.at, then_written b u r.update h.1)

  along_in_range : (n : ℕ) (e : Course) (x : List ℕ) → IsCourseOf n (length t.states) e → IsCourseOf (n + length x) (length t.states) (course_along t n e x)
  along_in_range n e [] h = let same : n ≡ n + 0 = omega arith in subst (λ k. IsCourseOf k (length t.states) e) same h
  along_in_range n e (b ∷ x) h =
      let more : suc n + length x ≡ n + suc (length x) = omega arith in
      subst (λ k. IsCourseOf k (length t.states) (course_along t (suc n) (next_course t n e b) x)) more (along_in_range (suc n) (next_course t n e b) x (next_in_range n b e h))

  -- a state's course of a text is in range
  pub course_in_range : (q : ℕ) (s : Row) (x : List ℕ) → slice_get t.states q ≡ Some s → IsCourseOf (length x) (length t.states) (course_of t q s.registers x)
  course_in_range q s x is =
      let from : 0 + length x ≡ length x = omega arith in
      subst (λ k. IsCourseOf k (length t.states) (course_of t q s.registers x)) from (along_in_range 0 (Goes q (identity s.registers)) x (some_below t.states q is, identity_written s.registers))

  pub courses_count : (ss : List Row) (k : ℕ) (x : List ℕ) → length (courses_from t ss k x) ≡ length ss
  courses_count [] k x = refl
  courses_count (s ∷ ss) k x = ap (λ n. suc n) (courses_count ss (suc k) x)

  -- at a place of the courses of states is the course of the state there
  pub course_there : (ss : List Row) (k q : ℕ) (c : Course) (x : List ℕ) → slice_get (courses_from t ss k x) q ≡ Some c → (s : Row) × (slice_get ss q ≡ Some s) × (c ≡ course_of t (k + q) s.registers x)
  course_there [] k q c x e = let bad : ⊥ = cc in absurd bad
  course_there (s ∷ ss) k zero c x e =
      let same : course_of t k s.registers x ≡ c = cc in
      let at : k ≡ k + 0 = omega arith in
      (s, refl, sym same ∙ ap (λ n. course_of t n s.registers x) at)
  course_there (s ∷ ss) k (suc q) c x e =
      let r = course_there ss (suc k) q c x e in
      let more : suc k + q ≡ k + suc q = omega arith in
      (r.0, r.1, r.2 ∙ ap (λ n. course_of t n r.0.registers x) more)

  sum_in_range : (x : List ℕ) (q : ℕ) (c : Course) → slice_get (courses_from t t.states 0 x) q ≡ Some c → IsCourseOf (length x) (length (courses_from t t.states 0 x)) c
  sum_in_range x q c at =
      let r = course_there t.states 0 q c x at in
      let here : 0 + q ≡ q = omega arith in
      subst (λ n. IsCourseOf (length x) n c) (sym (courses_count t.states 0 x))
      (subst (λ d. IsCourseOf (length x) (length t.states) d) (sym (r.2 ∙ ap (λ n. course_of t n r.0.registers x) here)) (course_in_range q r.0 x r.1))

pub in_range : (t : Transducer) (x : List ℕ) → IsSumInRange t x
in_range t x table = record { each = sum_in_range t table x }

-- a series that begins with two updates is the first, and after it the series from the second on
pub series_then : (u v : Change) (vs : List Change) → series_of (then_update u v) vs ≡ then_update u (series_of v vs)
series_then u v [] = refl
series_then u v (w ∷ vs) = ap (λ z. series_of z vs) (then_then_update u v w) ∙ series_then u (then_update v w) vs

pub series_push : (u : Change) (vs : List Change) (w : Change) → series_of u (vs ++ w ∷ []) ≡ then_update (series_of u vs) w
series_push u [] w = refl
series_push u (v ∷ vs) w = series_push (then_update u v) vs w
