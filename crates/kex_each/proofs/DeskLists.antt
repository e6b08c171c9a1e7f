-- Desks side by side, and the lines that they share.
use Rattle.std.proofs.Common.{◌≡◌, ◌≤◌, ◌<◌, ◌+◌, ◌-◌, ◌&&◌, ℕ, zero, suc, Bool, true, false, List, [], ◌∷◌, ◌++◌, length, map, take, drop, get_or, refl, sym, ap, ap₂, subst, ◌∙◌, append_assoc, append-nil, arith}
use Rattle.std.specs.List.{concat}
use Rattle.std.specs.Prelude.{IsErr, OnOk, Result, Ok, Err, is_ok}
use Rattle.std.proofs.lemmas.List.{map-append}
use Rattle.std.proofs.Math.ListN.{set}
use Rattle.kex_pipe.specs.Rounds.{Each}
use Rattle.kex_stage.specs.Stages.{StagePlan}
use Rattle.kex_each.specs.Answers.{PlansAnswerLines}
use Rattle.kex_each.specs.Desks.{AllWorked, DeskState, HavePlans, all_plans, answers_of, lines_between, without_answers, first_plans}

pub each_both : {A B : Type 0} (R : A → B → Type 0) (xs us : List A) (ys vs : List B) → Each R xs ys → Each R us vs → Each R (xs ++ us) (ys ++ vs)
each_both R [] us [] vs h k = k
each_both R (x ∷ xs) us (y ∷ ys) vs h k = (h.0, each_both R xs us ys vs h.1 k)
each_both R [] us (y ∷ ys) vs h k = absurd h
each_both R (x ∷ xs) us [] vs h k = absurd h

-- ---- lines from one place to another

take_more' : {A : Type 0} (n : ℕ) (xs : List A) (d : A) → n < length xs → take (suc n) xs ≡ take n xs ++ get_or xs n d ∷ []
take_more' zero [] d lt = let bad : ⊥ = omega (arith, lt) in absurd bad
take_more' zero (x ∷ xs) d lt = refl
take_more' (suc n) [] d lt = let bad : ⊥ = omega (arith, lt) in absurd bad
take_more' (suc n) (x ∷ xs) d lt = ap (λ z. x ∷ z) (take_more' n xs d (omega (arith, lt)))

drop_at' : {A : Type 0} (n k : ℕ) (xs : List A) (d : A) → get_or (drop n xs) k d ≡ get_or xs (n + k) d
drop_at' zero k xs d = let e : k ≡ 0 + k = omega arith in ap (λ m. get_or xs m d) e
drop_at' (suc n) k [] d = refl
drop_at' (suc n) k (x ∷ xs) d = let e : suc (n + k) ≡ suc n + k = omega arith in drop_at' n k xs d ∙ ap (λ m. get_or (x ∷ xs) m d) e

length_drop' : {A : Type 0} (n : ℕ) (xs : List A) → length (drop n xs) ≡ length xs - n
length_drop' zero xs = omega arith
length_drop' (suc n) [] = omega arith
length_drop' (suc n) (x ∷ xs) = let h = length_drop' n xs in omega (arith, h)

pub between_none : (from : ℕ) (lines : List (List ℕ)) → lines_between from from lines ≡ []
between_none from lines = let none : from - from ≡ 0 = omega arith in ap (λ n. take n (drop from lines)) none

pub between_more : (from i : ℕ) (lines : List (List ℕ)) → from ≤ i → i < length lines → lines_between from (i + 1) lines ≡ lines_between from i lines ++ get_or lines i [] ∷ []
between_more from i lines le lt =
    let n : (i + 1) - from ≡ suc (i - from) = omega (arith, le) in
    let long = length_drop' from lines in
    let within : i - from < length (drop from lines) = omega (arith, long, le, lt) in
    let at : from + (i - from) ≡ i = omega (arith, le) in
    ap (λ k. take k (drop from lines)) n ∙ take_more' (i - from) (drop from lines) [] within ∙ ap (λ z. take (i - from) (drop from lines) ++ z ∷ []) (drop_at' from (i - from) lines [] ∙ ap (λ k. get_or lines k []) at)

none_taken : {A : Type 0} (k : ℕ) → take {A = A} k [] ≡ []
none_taken zero = refl
none_taken (suc k) = refl

none_dropped : {A : Type 0} (k : ℕ) → drop {A = A} k [] ≡ []
none_dropped zero = refl
none_dropped (suc k) = refl

take_both : {A : Type 0} (m n : ℕ) (xs : List A) → take (m + n) xs ≡ take m xs ++ take n (drop m xs)
take_both zero n xs = let e : 0 + n ≡ n = omega arith in ap (λ k. take k xs) e
take_both (suc m) n [] = none_taken (suc m + n) ∙ sym (none_taken n)
take_both (suc m) n (x ∷ xs) = let e : suc m + n ≡ suc (m + n) = omega arith in ap (λ k. take k (x ∷ xs)) e ∙ ap (λ z. x ∷ z) (take_both m n xs)

drop_both : {A : Type 0} (m n : ℕ) (xs : List A) → drop n (drop m xs) ≡ drop (m + n) xs
drop_both zero n xs = let e : n ≡ 0 + n = omega arith in ap (λ k. drop k xs) e
drop_both (suc m) n [] = none_dropped n ∙ sym (none_dropped (suc m + n))
drop_both (suc m) n (x ∷ xs) = let e : suc (m + n) ≡ suc m + n = omega arith in drop_both m n xs ∙ ap (λ k. drop k (x ∷ xs)) e

pub between_both : (from cut to : ℕ) (lines : List (List ℕ)) → from ≤ cut → cut ≤ to → lines_between from to lines ≡ lines_between from cut lines ++ lines_between cut to lines
between_both from cut to lines le le' =
    let n : to - from ≡ (cut - from) + (to - cut) = omega (arith, le, le') in
    let at : from + (cut - from) ≡ cut = omega (arith, le) in
    ap (λ k. take k (drop from lines)) n ∙ take_both (cut - from) (to - cut) (drop from lines) ∙ ap (λ z. take (cut - from) (drop from lines) ++ take (to - cut) z) (drop_both from (cut - from) lines ∙ ap (λ k. drop k lines) at)

pub between_all : (lines : List (List ℕ)) → lines_between 0 (length lines) lines ≡ lines
between_all lines = let n : length lines - 0 ≡ length lines = omega arith in ap (λ k. take k lines) n ∙ all lines
  where
    all : {A : Type 0} (xs : List A) → take (length xs) xs ≡ xs
    all [] = refl
    all (x ∷ xs) = ap (λ z. x ∷ z) (all xs)

-- ---- desks

pub answers_both : (xs ys : List DeskState) → answers_of (xs ++ ys) ≡ answers_of xs ++ answers_of ys
answers_both [] ys = refl
answers_both (d ∷ xs) ys = ap (λ z. d.answers ++ z) (answers_both xs ys) ∙ sym (append_assoc d.answers (answers_of xs) (answers_of ys))

pub plans_front : (ps : List StagePlan) (xs ys : List DeskState) → HavePlans ps (xs ++ ys) → HavePlans ps xs
plans_front ps [] ys h = tt
plans_front ps (d ∷ xs) ys h = (h.0, plans_front ps xs ys h.1)

pub plans_back : (ps : List StagePlan) (xs ys : List DeskState) → HavePlans ps (xs ++ ys) → HavePlans ps ys
plans_back ps [] ys h = h
plans_back ps (d ∷ xs) ys h = plans_back ps xs ys h.1

pub plans_both : (ps : List StagePlan) (xs ys : List DeskState) → HavePlans ps xs → HavePlans ps ys → HavePlans ps (xs ++ ys)
plans_both ps [] ys h k = k
plans_both ps (d ∷ xs) ys h k = (h.0, plans_both ps xs ys h.1 k)

-- desks with the plans of others
pub plans_as : (ps : List StagePlan) (xs ys : List DeskState) → all_plans ys ≡ all_plans xs → HavePlans ps xs → HavePlans ps ys
plans_as ps xs [] e h = tt
plans_as ps [] (y ∷ ys) e h = let bad : y.plans ∷ all_plans ys ≡ [] = e in cc
plans_as ps (x ∷ xs) (y ∷ ys) e h =
    let head : y.plans ≡ x.plans = ap (λ z. first z y.plans) e in
    let tail : all_plans ys ≡ all_plans xs = ap rest e in
    (head ∙ h.0, plans_as ps xs ys tail h.1)
  where
    first : List (List StagePlan) → List StagePlan → List StagePlan
    first [] d = d
    first (z ∷ zs) d = z

    rest : List (List StagePlan) → List (List StagePlan)
    rest [] = []
    rest (z ∷ zs) = zs

pub plans_first : (ps : List StagePlan) (xs : List DeskState) → 0 < length xs → HavePlans ps xs → first_plans xs ≡ ps
plans_first ps [] lt h = let bad : ⊥ = omega (arith, lt) in absurd bad
plans_first ps (d ∷ xs) lt h = h.0

both_true : (a b : Bool) → (a && b) ≡ true → (a ≡ true) × (b ≡ true)
both_true true b e = (refl, e)
both_true false b e = cc

pub both_worked : (a b : Bool) (ls ms : List (List ℕ)) (fs fs' bs bs' : List DeskState) → AllWorked a ls fs fs' → AllWorked b ms bs bs' → AllWorked (a && b) (ls ++ ms) (fs ++ bs) (fs' ++ bs')
both_worked a b ls ms fs fs' bs bs' one other = record {
  same = map-append (λ (d : DeskState). d.plans) fs' bs' ∙ ap₂ (λ y z. y ++ z) one.same other.same ∙ sym (map-append (λ (d : DeskState). d.plans) fs bs);
  answered = λ yes ps h.
      let d = both_true a b yes in
      subst (λ z. PlansAnswerLines ps (ls ++ ms) z) (sym (answers_both fs' bs'))
      (each_both _ ls ms (answers_of fs') (answers_of bs') (one.answered d.0 ps (plans_front ps fs bs h)) (other.answered d.1 ps (plans_back ps fs bs h)));
}

pub one_worked : (done : Bool) (lines : List (List ℕ)) (ds : List DeskState) (d d' : DeskState) → length ds < 2 → 0 < length ds → d ≡ get_or ds 0 d → d'.plans ≡ d.plans → (done ≡ true → PlansAnswerLines d.plans lines d'.answers) → AllWorked done lines ds (set ds 0 d')
one_worked done lines [] d d' few some is same answers = let bad : ⊥ = omega (arith, some) in absurd bad
one_worked done lines (a ∷ b ∷ ds) d d' few some is same answers = let bad : ⊥ = omega (arith, few) in absurd bad
one_worked done lines (a ∷ []) d d' few some is same answers = record {
  same = ap (λ z. z ∷ []) (same ∙ ap (λ (z : DeskState). z.plans) is);
  answered = λ yes ps h.
      let own : d.plans ≡ ps = ap (λ (z : DeskState). z.plans) is ∙ h.0 in
      subst (λ z. PlansAnswerLines ps lines z) (sym (append-nil d'.answers)) (subst (λ z. PlansAnswerLines z lines d'.answers) own (answers yes));
}

-- ---- desks whose answers went

pub cleared_plans : (ps : List StagePlan) (ds : List DeskState) → HavePlans ps ds → HavePlans ps (without_answers ds)
cleared_plans ps [] h = tt
cleared_plans ps (d ∷ ds) h = (h.0, cleared_plans ps ds h.1)

pub cleared_none : (n : ℕ) (ds : List DeskState) → answers_of (drop n (without_answers ds)) ≡ []
cleared_none zero [] = refl
cleared_none zero (d ∷ ds) = cleared_none zero ds
cleared_none (suc n) [] = refl
cleared_none (suc n) (d ∷ ds) = cleared_none n ds

pub cleared_length : (ds : List DeskState) → length (without_answers ds) ≡ length ds
cleared_length [] = refl
cleared_length (d ∷ ds) = ap suc (cleared_length ds)

pub concat_both : (xs ys : List (List ℕ)) → concat (xs ++ ys) ≡ concat xs ++ concat ys
concat_both [] ys = refl
concat_both (x ∷ xs) ys = ap (λ z. x ++ z) (concat_both xs ys) ∙ sym (append_assoc x (concat xs) (concat ys))

pub answers_more : (n : ℕ) (ds : List DeskState) (d : DeskState) → n < length ds → d ≡ get_or ds n d → answers_of (take (n + 1) ds) ≡ answers_of (take n ds) ++ d.answers
answers_more n ds d lt is =
    let one : n + 1 ≡ suc n = omega arith in
    ap (λ k. answers_of (take k ds)) one ∙ ap answers_of (take_more' n ds d lt) ∙ answers_both (take n ds) (get_or ds n d ∷ []) ∙ ap (λ (z : List (List ℕ)). answers_of (take n ds) ++ z) (append-nil (get_or ds n d).answers) ∙ ap (λ (z : DeskState). answers_of (take n ds) ++ z.answers) (sym is)

cleared_at : (i : ℕ) (ds : List DeskState) (d : DeskState) → i < length ds → get_or (without_answers (take i ds) ++ drop i ds) i d ≡ get_or ds i d
cleared_at zero ds d lt = refl
cleared_at (suc i) [] d lt = refl
cleared_at (suc i) (x ∷ ds) d lt = cleared_at i ds d (omega (arith, lt))

cleared_set : (i : ℕ) (ds : List DeskState) (x : DeskState) → i < length ds → x ≡ record (get_or ds i x) { answers = [] } → set (without_answers (take i ds) ++ drop i ds) i x ≡ without_answers (take (suc i) ds) ++ drop (suc i) ds
cleared_set zero [] x lt e = let bad : ⊥ = omega (arith, lt) in absurd bad
cleared_set zero (y ∷ ds) x lt e = ap (λ z. z ∷ ds) e
cleared_set (suc i) [] x lt e = let bad : ⊥ = omega (arith, lt) in absurd bad
cleared_set (suc i) (y ∷ ds) x lt e = ap (λ z. record y { answers = [] } ∷ z) (cleared_set i ds x (omega (arith, lt)) e)

pub same_desk : (i : ℕ) (ds : List DeskState) (d d' : DeskState) → i < length ds → get_or ds i d ≡ get_or ds i d'
same_desk i [] d d' lt = let bad : ⊥ = omega (arith, lt) in absurd bad
same_desk zero (y ∷ ds) d d' lt = refl
same_desk (suc i) (y ∷ ds) d d' lt = same_desk i ds d d' (omega (arith, lt))

pub cleared_more : (i : ℕ) (old now : List DeskState) (x d : DeskState) → i < length old → now ≡ without_answers (take i old) ++ drop i old → d ≡ get_or now i d → x ≡ record d { answers = [] } → set now i x ≡ without_answers (take (i + 1) old) ++ drop (i + 1) old
cleared_more i old now x d lt is at e =
    let one : suc i ≡ i + 1 = omega arith in
    let here : d ≡ get_or old i x = at ∙ ap (λ z. get_or z i d) is ∙ cleared_at i old d lt ∙ same_desk i old d x lt in
    ap (λ z. set z i x) is ∙ cleared_set i old x lt (e ∙ ap (λ (z : DeskState). record z { answers = [] }) here) ∙ ap (λ k. without_answers (take k old) ++ drop k old) one

pub on_ok_true : {A E P : Type 0} (r : Result A E) → OnOk r P → is_ok r ≡ true → P
on_ok_true (Ok x) h e = h
on_ok_true (Err x) h e = cc

pub err_both : {A E : Type 0} (r one other : Result A E) (e : E) → one ≡ Err e → IsErr r → (is_ok one && is_ok other) ≡ is_ok r
err_both (Ok x) one other e is bad = cc
err_both (Err x) one other e is bad = ap (λ z. is_ok z && is_ok other) is

-- ---- the desks of a block

pub each_more : {A B : Type 0} (R : A → B → Type 0) (xs : List A) (ys : List B) (x : A) (y : B) → Each R xs ys → R x y → Each R (xs ++ x ∷ []) (ys ++ y ∷ [])
each_more R xs ys x y h r = each_both R xs (x ∷ []) ys (y ∷ []) h (r, tt)

cleared_same : (ds : List DeskState) → all_plans (without_answers ds) ≡ all_plans ds
cleared_same [] = refl
cleared_same (d ∷ ds) = ap (λ z. d.plans ∷ z) (cleared_same ds)

pub none_worked : (old : List DeskState) → AllWorked true [] old (without_answers old)
none_worked old = record { same = cleared_same old; answered = λ yes ps h. subst (λ z. PlansAnswerLines ps [] z) (sym (cleared_none 0 old)) tt }

pub parts_worked : (done : Bool) (lines : List (List ℕ)) (old busy idle busy' : List DeskState) → without_answers old ≡ busy ++ idle → answers_of idle ≡ [] → AllWorked done lines busy busy' → AllWorked done lines old (busy' ++ idle)
parts_worked done lines old busy idle busy' cut none work = record {
  same = map-append (λ (d : DeskState). d.plans) busy' idle ∙ ap (λ z. z ++ all_plans idle) work.same ∙ sym (map-append (λ (d : DeskState). d.plans) busy idle) ∙ ap all_plans (sym cut) ∙ cleared_same old;
  answered = λ yes ps h.
      let own = plans_front ps busy idle (subst (λ z. HavePlans ps z) cut (cleared_plans ps old h)) in
      subst (λ z. PlansAnswerLines ps lines z) (sym (answers_both busy' idle ∙ ap (λ z. answers_of busy' ++ z) none ∙ append-nil (answers_of busy'))) (work.answered yes ps own);
}

abbrev pub AreDesks : List DeskState → Type 0
AreDesks ds = (0 < length ds) × (length ds ≤ 64) × HavePlans (first_plans ds) ds

plans_long : (ds : List DeskState) → length (all_plans ds) ≡ length ds
plans_long [] = refl
plans_long (d ∷ ds) = ap suc (plans_long ds)

pub same_first : (old new : List DeskState) → 0 < length old → HavePlans (first_plans old) old → all_plans new ≡ all_plans old → (0 < length new) × (first_plans new ≡ first_plans old)
same_first old new some h e =
    let m = plans_long old in
    let n = plans_long new in
    let k = ap length e in
    let lt : 0 < length new = omega (arith, m, n, k, some) in
    (lt, plans_first (first_plans old) new lt (plans_as (first_plans old) old new e h))

pub same_desks : (old new : List DeskState) → AreDesks old → all_plans new ≡ all_plans old → AreDesks new
same_desks old new h e =
    let m = plans_long old in
    let n = plans_long new in
    let k = ap length e in
    let few = h.1 in
    let f = same_first old new h.0 h.2 e in
    (f.0, omega (arith, m, n, k, few), subst (λ z. HavePlans z new) (sym f.1) (plans_as (first_plans old) old new e h.2))

pub map_set : {A B : Type 0} (f : A → B) (xs : List A) (i : ℕ) (x : A) → map f (set xs i x) ≡ set (map f xs) i (f x)
map_set f [] i x = refl
map_set f (y ∷ ys) zero x = refl
map_set f (y ∷ ys) (suc i) x = ap (λ z. f y ∷ z) (map_set f ys i x)

pub map_at : {A B : Type 0} (f : A → B) (xs : List A) (i : ℕ) (d : A) → get_or (map f xs) i (f d) ≡ f (get_or xs i d)
map_at f [] i d = refl
map_at f (y ∷ ys) zero d = refl
map_at f (y ∷ ys) (suc i) d = map_at f ys i d

pub map_long : {A B : Type 0} (f : A → B) (xs : List A) → length (map f xs) ≡ length xs
map_long f [] = refl
map_long f (x ∷ xs) = ap suc (map_long f xs)

pub map_same : {A : Type 0} (xs : List A) → map (λ x. x) xs ≡ xs
map_same [] = refl
map_same (x ∷ xs) = ap (λ z. x ∷ z) (map_same xs)

pub map_drop : {A B : Type 0} (f : A → B) (n : ℕ) (xs : List A) → map f (drop n xs) ≡ drop n (map f xs)
map_drop f zero xs = refl
map_drop f (suc n) [] = refl
map_drop f (suc n) (x ∷ xs) = map_drop f n xs
