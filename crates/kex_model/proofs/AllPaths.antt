-- All paths on a text, found by trying each move for a number of steps. So what survives and what is agreed can be computed.
use Rattle.std.proofs.Common.{◌≡◌, ℕ, zero, suc, ◌==◌, ◌&&◌, ◌||◌, ◌≤◌, ◌<◌, Bool, true, false, if◌then◌else◌, List, [], ◌∷◌, ◌++◌, ◌⊎◌, inl, inr, ⊎_elim, Option, Some, None, is_some, IsTrue, get_or, map, length, refl, sym, ap, subst, ◌∙◌, arith, append_assoc, length-append, eq-eqb}
use Rattle.kex_code.specs.declared.symbol.Symbol.{Symbol}
use Rattle.kex_code.specs.Codes.{bytes_of, Begins, Before, IsAmong}
use Rattle.kex_model.specs.declared.frame.Frame.{Frame}
use Rattle.kex_model.specs.declared.frame.Frame.TheVariants.{Pending, EndOf}
use Rattle.kex_model.specs.Programs.{Grammar}
use Rattle.kex_model.specs.Labelled.{Labelled, leaves_of}
use Rattle.kex_model.specs.Moves.{Move, accept, read, choose, forced, go, to_left, to_right, Step, took, chose, went, Allows, reads, goes_left, goes_right, goes_forced, goes, target_of, code_of, IsWaiting, Walk, Waits}
use Rattle.kex_model.specs.Places.{Place, moves, start_of, steps_of}
use Rattle.kex_model.specs.Trees.{Tree, kind_at, code}
use Rattle.kex_model.specs.Answers.{IsParse, Viable, Says, HasParse, Means, LongestGood}
use Rattle.kex_model.proofs.Derivations.{itself, tree_walk, steps-code, code-bytes}
use Rattle.kex_model.proofs.OpenAnswers.{shorter_front}
use Rattle.kex_model.proofs.AgreedFronts.{viable_front}
use Rattle.kex_model.proofs.Shapes.{among_left, among_right, parted_rises}
use Rattle.kex_model.specs.Survivors.{NoReturn, CodedPlace, IsParted, LeadsToEnd, IsPath, Reaches, IsViable, Survives, HasTree}

-- places are compared

abbrev same_left : Option ℕ → Option ℕ → Bool
same_left None None = true
same_left None (Some n) = false
same_left (Some m) None = false
same_left (Some m) (Some n) = m == n

abbrev same_frame : Frame → Frame → Bool
same_frame (Pending m need left) (Pending n need' left') = (m == n) && ((need == need') && same_left left left')
same_frame (Pending m need left) (EndOf n) = false
same_frame (EndOf m) (Pending n need left) = false
same_frame (EndOf m) (EndOf n) = m == n

abbrev pub same_place : Place → Place → Bool
same_place [] [] = true
same_place [] (g ∷ q) = false
same_place (f ∷ p) [] = false
same_place (f ∷ p) (g ∷ q) = same_frame f g && same_place p q

same : (n : ℕ) → (n == n) ≡ true
same n = eq-eqb n n refl

left_itself : (x : Option ℕ) → same_left x x ≡ true
left_itself None = refl
left_itself (Some n) = same n

frame_itself : (f : Frame) → same_frame f f ≡ true
frame_itself (Pending n need left) = rw (same n, same need) (left_itself left)
frame_itself (EndOf n) = same n

place_itself : (p : Place) → same_place p p ≡ true
place_itself [] = refl
place_itself (f ∷ p) = rw (frame_itself f) (place_itself p)

-- places that compare as different are different
apart : (p q : Place) → same_place p q ≡ false → p ≡ q → ⊥
apart p q e h = let P : Place → Type 0 = λ z. same_place p z ≡ true in let t : same_place p q ≡ true = subst P h (place_itself p) in cc

pub differ : {p q : Place} → p ≡ q → same_place p q ≡ false → ⊥
differ {p = p} {q = q} h e = apart p q e h

abbrev is_in : List Place → Place → Bool
is_in [] p = false
is_in (q ∷ qs) p = same_place q p || is_in qs p

not_in : (qs : List Place) (p : Place) → is_in qs p ≡ false → IsAmong qs p → ⊥
not_in [] p e h = h
not_in (q ∷ qs) p e (inl h) = apart q p (or_left (same_place q p) (is_in qs p) e) h
  where
    or_left : (a b : Bool) → (a || b) ≡ false → a ≡ false
    or_left true b e = e
    or_left false b e = refl
not_in (q ∷ qs) p e (inr h) = not_in qs p (or_right (same_place q p) (is_in qs p) e) h
  where
    or_right : (a b : Bool) → (a || b) ≡ false → b ≡ false
    or_right true b e = cc
    or_right false b e = e

-- no place is entered twice without a byte in between
abbrev pub is_once : List Place → List (Step Place) → Bool
is_once seen [] = true
is_once seen (took b t ∷ ks) = is_once (t ∷ []) ks
is_once seen (chose x t ∷ ks) = if is_in seen t then false else is_once (t ∷ seen) ks
is_once seen (went e t ∷ ks) = if is_in seen t then false else is_once (t ∷ seen) ks

both_hold : (seen : List Place) (t : Place) (b rest : Bool) → is_in seen t ≡ b → (if b then false else rest) ≡ true → (¬ IsAmong seen t) × (rest ≡ true)
both_hold seen t true rest e h = cc
both_hold seen t false rest e h = (not_in seen t e, h)

pub once : (seen : List Place) (ks : List (Step Place)) → is_once seen ks ≡ true → NoReturn seen ks
once seen [] e = tt
once seen (took b t ∷ ks) e = once (t ∷ []) ks e
once seen (chose x t ∷ ks) e = let h = both_hold seen t (is_in seen t) (is_once (t ∷ seen) ks) refl e in (h.0, once (t ∷ seen) ks h.1)
once seen (went x t ∷ ks) e = let h = both_hold seen t (is_in seen t) (is_once (t ∷ seen) ks) refl e in (h.0, once (t ∷ seen) ks h.1)

-- where steps end
abbrev pub end_of : Place → List (Step Place) → Place
end_of p [] = p
end_of p (k ∷ ks) = end_of (target_of k) ks

-- lists of steps that were found, or none where there may be more
abbrev pub Found : Type 0
Found = Option (List (List (Step Place)))

abbrev with_first : Step Place → Found → Found
with_first k None = None
with_first k (Some xs) = Some (map (λ ks. k ∷ ks) xs)

abbrev joint : Found → Found → Found
joint None y = None
joint (Some xs) None = None
joint (Some xs) (Some ys) = Some (xs ++ ys)

abbrev read_on : Bool → Found → Found
read_on true found = found
read_on false found = Some []

abbrev tried : (Place → List ℕ → Found) → Move Place → List ℕ → Found
tried next accept [] = Some ([] ∷ [])
tried next accept (b ∷ w) = Some []
tried next (read set t) [] = Some ([] ∷ [])
tried next (read set t) (b ∷ w) = read_on (get_or set b false) (with_first (took b t) (next t w))
tried next (choose l r) w = joint (with_first (chose to_left l) (next l w)) (with_first (chose to_right r) (next r w))
tried next (forced x t) w = with_first (chose x t) (next t w)
tried next (go e t) w = with_first (went e t) (next t w)

-- the paths from a place on a text
abbrev pub paths : Grammar → ℕ → Place → List ℕ → Found
paths P zero p w = None
paths P (suc n) p w = tried (paths P n) (moves P p) w

-- all of a list, and of what was found
abbrev pub Each : {A : Type 0} → (A → Type 0) → List A → Type 0
Each Q [] = Unit {0}
Each Q (x ∷ xs) = Q x × Each Q xs

pub of_each : {A : Type 0} (Q : A → Type 0) (xs : List A) (x : A) → Each Q xs → IsAmong xs x → Q x
of_each Q [] x h i = absurd i
of_each Q (y ∷ ys) x h (inl e) = subst Q e h.0
of_each Q (y ∷ ys) x h (inr i) = of_each Q ys x h.1 i

abbrev pub IsFound : Found → List (Step Place) → Type 0
IsFound None ks = Unit {0}
IsFound (Some xs) ks = IsAmong xs ks

among_map : (k : Step Place) (xs : List (List (Step Place))) (ks : List (Step Place)) → IsAmong xs ks → IsAmong (map (λ js. k ∷ js) xs) (k ∷ ks)
among_map k [] ks i = absurd i
among_map k (x ∷ xs) ks (inl e) = inl (ap (λ z. k ∷ z) e)
among_map k (x ∷ xs) ks (inr i) = inr (among_map k xs ks i)

found_first : (k : Step Place) (o : Found) (ks : List (Step Place)) → IsFound o ks → IsFound (with_first k o) (k ∷ ks)
found_first k None ks h = tt
found_first k (Some xs) ks h = among_map k xs ks h

found_left : (a b : Found) (ks : List (Step Place)) → IsFound a ks → IsFound (joint a b) ks
found_left None b ks h = tt
found_left (Some xs) None ks h = tt
found_left (Some xs) (Some ys) ks h = among_left xs ys ks h

found_right : (a b : Found) (ks : List (Step Place)) → IsFound b ks → IsFound (joint a b) ks
found_right None b ks h = tt
found_right (Some xs) None ks h = tt
found_right (Some xs) (Some ys) ks h = among_right xs ys ks h

stays : (next : Place → List ℕ → Found) (m : Move Place) → IsWaiting m → IsFound (tried next m []) []
stays next accept h = inl refl
stays next (read set t) h = inl refl
stays next (choose l r) h = absurd h
stays next (forced x t) h = absurd h
stays next (go e t) h = absurd h

steps_on : (next : Place → List ℕ → Found) (m : Move Place) (k : Step Place) (ks : List (Step Place)) → Allows m k → IsFound (next (target_of k) (bytes_of (code_of ks))) ks → IsFound (tried next m (bytes_of (code_of (k ∷ ks)))) (k ∷ ks)
steps_on next m k ks (reads {set = set} {b = b} {s = t} i) h = let P : Bool → Type 0 = λ z. IsFound (read_on z (with_first (took b t) (next t (bytes_of (code_of ks))))) (took b t ∷ ks) in subst P (sym i) (found_first (took b t) (next t (bytes_of (code_of ks))) ks h)
steps_on next m k ks (goes_left {l = l} {r = r}) h = found_left (with_first (chose to_left l) (next l (bytes_of (code_of ks)))) (with_first (chose to_right r) (next r (bytes_of (code_of ks)))) (chose to_left l ∷ ks) (found_first (chose to_left l) (next l (bytes_of (code_of ks))) ks h)
steps_on next m k ks (goes_right {l = l} {r = r}) h = found_right (with_first (chose to_left l) (next l (bytes_of (code_of ks)))) (with_first (chose to_right r) (next r (bytes_of (code_of ks)))) (chose to_right r ∷ ks) (found_first (chose to_right r) (next r (bytes_of (code_of ks))) ks h)
steps_on next m k ks (goes_forced {x = to_left} {s = t}) h = found_first (chose to_left t) (next t (bytes_of (code_of ks))) ks h
steps_on next m k ks (goes_forced {x = to_right} {s = t}) h = found_first (chose to_right t) (next t (bytes_of (code_of ks))) ks h
steps_on next m k ks (goes {e = e} {s = t}) h = found_first (went e t) (next t (bytes_of (code_of ks))) ks h

-- every path is found
pub is_found : (P : Grammar) (n : ℕ) (p q : Place) (ks : List (Step Place)) → Walk (moves P) p ks q → Waits (moves P) q → IsFound (paths P n p (bytes_of (code_of ks))) ks
is_found P zero p q ks walk waits = tt
is_found P (suc n) p q [] walk waits = let Q : Place → Type 0 = λ z. Waits (moves P) z in stays (paths P n) (moves P p) (subst Q (sym walk) waits)
is_found P (suc n) p q (k ∷ ks) walk waits = steps_on (paths P n) (moves P p) k ks walk.0 (is_found P n (target_of k) q ks walk.1 waits)

-- what is found are paths

abbrev pub EachFound : (List (Step Place) → Type 0) → Found → Type 0
EachFound Q None = Unit {0}
EachFound Q (Some xs) = Each Q xs

pub of_found : (Q : List (Step Place) → Type 0) (o : Found) (ks : List (Step Place)) → IsTrue (is_some o) → EachFound Q o → IsFound o ks → Q ks
of_found Q None ks t h i = cc
of_found Q (Some xs) ks t h i = of_each Q xs ks h i

pub record Leads (P : Grammar) (p : Place) (w : List ℕ) (ks : List (Step Place)) : Type 0 where
  pub walk : Walk (moves P) p ks (end_of p ks)
  pub waits : Waits (moves P) (end_of p ks)
  pub reads : bytes_of (code_of ks) ≡ w

each_map : (Q R : List (Step Place) → Type 0) (k : Step Place) (xs : List (List (Step Place))) → ((ks : List (Step Place)) → Q ks → R (k ∷ ks)) → Each Q xs → Each R (map (λ ks. k ∷ ks) xs)
each_map Q R k [] f h = tt
each_map Q R k (x ∷ xs) f h = (f x h.0, each_map Q R k xs f h.1)

each_first : (Q R : List (Step Place) → Type 0) (k : Step Place) (o : Found) → ((ks : List (Step Place)) → Q ks → R (k ∷ ks)) → EachFound Q o → EachFound R (with_first k o)
each_first Q R k None f h = tt
each_first Q R k (Some xs) f h = each_map Q R k xs f h

each_append : (Q : List (Step Place) → Type 0) (xs ys : List (List (Step Place))) → Each Q xs → Each Q ys → Each Q (xs ++ ys)
each_append Q [] ys g h = h
each_append Q (x ∷ xs) ys g h = (g.0, each_append Q xs ys g.1 h)

each_joint : (Q : List (Step Place) → Type 0) (a b : Found) → EachFound Q a → EachFound Q b → EachFound Q (joint a b)
each_joint Q None b g h = tt
each_joint Q (Some xs) None g h = tt
each_joint Q (Some xs) (Some ys) g h = each_append Q xs ys g h

-- a step, and then steps that lead on
abbrev LeadsBy : Grammar → Move Place → List ℕ → List (Step Place) → Type 0
LeadsBy P m w [] = IsWaiting m × (w ≡ [])
LeadsBy P m w (k ∷ ks) = Allows m k × Walk (moves P) (target_of k) ks (end_of (target_of k) ks) × Waits (moves P) (end_of (target_of k) ks) × (bytes_of (code_of (k ∷ ks)) ≡ w)

tried_leads : (P : Grammar) (next : Place → List ℕ → Found) (m : Move Place) (w : List ℕ) → ((p : Place) (v : List ℕ) → EachFound (Leads P p v) (next p v)) → EachFound (LeadsBy P m w) (tried next m w)
tried_leads P next accept [] h = ((tt, refl), tt)
tried_leads P next accept (b ∷ w) h = tt
tried_leads P next (read set t) [] h = ((tt, refl), tt)
tried_leads P next (read set t) (b ∷ w) h = by_flag (get_or set b false) refl
  where
    by_flag : (f : Bool) → get_or set b false ≡ f → EachFound (LeadsBy P (read set t) (b ∷ w)) (read_on f (with_first (took b t) (next t w)))
    by_flag true e = each_first (Leads P t w) (LeadsBy P (read set t) (b ∷ w)) (took b t) (next t w) (λ ks l. (reads e, l.walk, l.waits, ap (λ z. b ∷ z) l.reads)) (h t w)
    by_flag false e = tt
tried_leads P next (choose l r) w h =
    each_joint (LeadsBy P (choose l r) w) (with_first (chose to_left l) (next l w)) (with_first (chose to_right r) (next r w))
    (each_first (Leads P l w) (LeadsBy P (choose l r) w) (chose to_left l) (next l w) (λ ks x. (goes_left, x.walk, x.waits, x.reads)) (h l w))
    (each_first (Leads P r w) (LeadsBy P (choose l r) w) (chose to_right r) (next r w) (λ ks x. (goes_right, x.walk, x.waits, x.reads)) (h r w))
tried_leads P next (forced to_left t) w h = each_first (Leads P t w) (LeadsBy P (forced to_left t) w) (chose to_left t) (next t w) (λ ks x. (goes_forced, x.walk, x.waits, x.reads)) (h t w)
tried_leads P next (forced to_right t) w h = each_first (Leads P t w) (LeadsBy P (forced to_right t) w) (chose to_right t) (next t w) (λ ks x. (goes_forced, x.walk, x.waits, x.reads)) (h t w)
tried_leads P next (go e t) w h = each_first (Leads P t w) (LeadsBy P (go e t) w) (went e t) (next t w) (λ ks x. (goes, x.walk, x.waits, x.reads)) (h t w)

each_more : (Q R : List (Step Place) → Type 0) (o : Found) → ((ks : List (Step Place)) → Q ks → R ks) → EachFound Q o → EachFound R o
each_more Q R None f h = tt
each_more Q R (Some xs) f h = each_of xs h
  where
    each_of : (ys : List (List (Step Place))) → Each Q ys → Each R ys
    each_of [] g = tt
    each_of (y ∷ ys) g = (f y g.0, each_of ys g.1)

pub each_leads : (P : Grammar) (n : ℕ) (p : Place) (w : List ℕ) → EachFound (Leads P p w) (paths P n p w)
each_leads P zero p w = tt
each_leads P (suc n) p w = each_more (LeadsBy P (moves P p) w) (Leads P p w) (tried (paths P n) (moves P p) w) whole (tried_leads P (paths P n) (moves P p) w (each_leads P n))
  where
    whole : (ks : List (Step Place)) → LeadsBy P (moves P p) w ks → Leads P p w ks
    whole [] l = record { walk = refl; waits = l.0; reads = sym l.1 }
    whole (k ∷ ks) l = record { walk = (l.0, l.1); waits = l.2; reads = l.3 }

-- the end of a walk
pub walk_ends : (P : Grammar) (p q : Place) (ks : List (Step Place)) → Walk (moves P) p ks q → end_of p ks ≡ q
walk_ends P p q [] w = w
walk_ends P p q (k ∷ ks) w = walk_ends P (target_of k) q ks w.1

pub path_of : (P : Grammar) (root : ℕ) (w : List ℕ) (ks : List (Step Place)) → Leads P (start_of P root) w ks → is_once (start_of P root ∷ []) ks ≡ true → IsPath (moves P) (start_of P root) w (end_of (start_of P root) ks) ks
path_of P root w ks l e = record { walk = l.walk; waits = l.waits; once = once (start_of P root ∷ []) ks e; reads = l.reads }

pub leads_to_end : {P : Grammar} {p : Place} {w : List ℕ} {ks : List (Step Place)} → Leads P p w ks → moves P (end_of p ks) ≡ accept → LeadsToEnd (moves P) p
leads_to_end {P = P} {p = p} {ks = ks} l e = (ks, end_of p ks, l.walk, e)

-- each path on w is among those that were found
module _ (P : Grammar) (root n : ℕ) (w : List ℕ) where
  abbrev pub found : Found
  found = paths P n (start_of P root) w

  among_found : (p : Place) (ks : List (Step Place)) → IsPath (moves P) (start_of P root) w p ks → IsFound found ks
  among_found p ks h = let Q : List ℕ → Type 0 = λ v. IsFound (paths P n (start_of P root) v) ks in subst Q h.reads (is_found P n (start_of P root) p ks h.walk h.waits)

  -- what holds of the paths found, and where they end, holds of all
  pub of_reached : (Q : Place → List Symbol → Type 0) → IsTrue (is_some found) → EachFound (λ ks. Q (end_of (start_of P root) ks) (code_of ks)) found → (p : Place) (c : List Symbol) → Reaches (moves P) (start_of P root) w p c → Q p c
  of_reached Q t h p c (ks, path, same) =
      let at_end : Q (end_of (start_of P root) ks) (code_of ks) = of_found (λ js. Q (end_of (start_of P root) js) (code_of js)) found ks t h (among_found p ks path) in
      let A : Place → Type 0 = λ z. Q z (code_of ks) in
      let B : List Symbol → Type 0 = λ z. Q p z in
      subst B same (subst A (walk_ends P (start_of P root) p ks path.walk) at_end)

  -- no path at all
  pub not_viable : found ≡ Some [] → IsViable (moves P) (start_of P root) w → ⊥
  not_viable e v = of_reached (λ q d. ⊥) (some_is e) (none_in e) v.0 v.1.0 v.1.1
    where
      some_is : found ≡ Some [] → IsTrue (is_some found)
      some_is e = rw e refl

      none_in : found ≡ Some [] → EachFound (λ ks. ⊥) found
      none_in e = rw e tt

  -- a path that was found, by which a place survives
  pub a_survivor : {ks : List (Step Place)} → IsTrue (is_some found) → Leads P (start_of P root) w ks → is_once (start_of P root ∷ []) ks ≡ true → LeadsToEnd (moves P) (end_of (start_of P root) ks) → EachFound (λ js. end_of (start_of P root) ks ≡ end_of (start_of P root) js → (code_of ks ≡ code_of js) ⊎ Before (code_of ks) (code_of js)) found → Survives (moves P) (start_of P root) w (end_of (start_of P root) ks) (code_of ks)
  a_survivor {ks = ks} t l o alive h = record {
    reached = (ks, path_of P root w ks l o, refl);
    alive = alive;
    least = λ d r. of_reached (λ q c. end_of (start_of P root) ks ≡ q → (code_of ks ≡ c) ⊎ Before (code_of ks) c) t h (end_of (start_of P root) ks) d r refl;
  }

  abbrev pub IsLeaf : List (CodedPlace Place) → List (Step Place) → Type 0
  IsLeaf xs ks = (c : List Symbol) × IsAmong xs (record { at = end_of (start_of P root) ks; code = c })

  -- the tree of the survivors
  pub has_tree : (c : List Symbol) (t : Labelled Symbol Place) → IsTrue (is_some found) → Each (λ x. Survives (moves P) (start_of P root) w x.at x.code) (leaves_of t c) → EachFound (IsLeaf (leaves_of t c)) found → IsParted t → HasTree (moves P) (start_of P root) w c t
  has_tree c t some each all parted = record {
    lists = record {
      each = λ x i. of_each (λ z. Survives (moves P) (start_of P root) w z.at z.code) (leaves_of t c) x each i;
      all = λ p a. of_reached (λ q d. (e : List Symbol) × IsAmong (leaves_of t c) (record { at = q; code = e })) some all p a.0 a.1;
      ordered = parted_rises t c parted;
    };
    parted = parted;
  }

  -- what holds of the codes of the paths found to the end holds of the codes of all parses
  pub of_parse : (Q : List Symbol → Type 0) → IsTrue (is_some found) → EachFound (λ ks. end_of (start_of P root) ks ≡ [] → Q (code_of ks)) found → (s : Tree) → IsParse P root s w → Q (code P (kind_at P root) s)
  of_parse Q t h s x =
      let p = x.derives in
      let ks : List (Step Place) = steps_of P root (kind_at P root) s [] in
      let walk : Walk (moves P) (start_of P root) ks [] = tree_walk P root [] (itself P root) p.tree in
      let codes : code_of ks ≡ code P (kind_at P root) s = steps-code P root [] p.tree in
      let bytes : bytes_of (code_of ks) ≡ w = ap bytes_of codes ∙ code-bytes P p.tree ∙ p.text in
      let F : List ℕ → Type 0 = λ v. IsFound (paths P n (start_of P root) v) ks in
      let at : Q (code_of ks) = of_found (λ js. end_of (start_of P root) js ≡ [] → Q (code_of js)) found ks t h (subst F bytes (is_found P n (start_of P root) [] ks walk tt)) (walk_ends P (start_of P root) [] ks walk) in
      subst Q codes at

-- the longest good front of a text is one whose next byte makes it bad
pub longest_good : (P : Grammar) (root : ℕ) (v : List ℕ) (b : ℕ) (more : List ℕ) → Viable P root v → (Viable P root (v ++ b ∷ []) → ⊥) → LongestGood (Viable P root) (Says P root) (HasParse P root) (Means P root) (v ++ b ∷ more) v
longest_good P root v b more good dead = record {
  front = (b ∷ more, refl);
  good = good;
  longest = λ u front viable. ⊎_elim (λ h. h) (λ far. absurd (dead (past u front viable far))) (within (length u) (length v));
}
  where
    within : (m n : ℕ) → (m ≤ n) ⊎ (n < m)
    within m n = grind arith

    past : (u : List ℕ) → Begins (v ++ b ∷ more) u → Viable P root u → length v < length u → Viable P root (v ++ b ∷ [])
    past u front viable far =
        let here : Begins (v ++ b ∷ more) (v ++ b ∷ []) = (more, sym (append_assoc v (b ∷ []) more)) in
        let q : Begins u (v ++ b ∷ []) = shorter_front (v ++ b ∷ more) (v ++ b ∷ []) u here front (rw length-append (omega (arith, far))) in
        let V : List ℕ → Type 0 = λ z. Viable P root z in
        viable_front (moves P) (start_of P root) (v ++ b ∷ []) q.0 (subst V q.1 viable)
