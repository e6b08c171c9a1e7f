-- The places of a stage in two alike programs: they correspond one to one, and what one leads to without a byte or to the end the other does.
use Rattle.std.proofs.Common.{◌≡◌, ℕ, zero, suc, Bool, true, false, List, [], ◌∷◌, ◌++◌, inl, inr, ⊎_elim, Option, Some, None, length, refl, sym, ap, ◌∙◌, subst}
use Rattle.std.specs.Prelude.{IsTrue}
use Rattle.kex_byteset.specs.Sets.{has}
use Rattle.kex_code.specs.Codes.{IsAmong, Different}
use Rattle.kex_model.specs.Programs.{Grammar}
use Rattle.kex_model.specs.declared.program.Kind.{Kind}
use Rattle.kex_model.specs.declared.program.Kind.TheVariants.{Call}
use Rattle.kex_model.specs.declared.frame.Frame.{Frame}
use Rattle.kex_model.specs.declared.frame.Frame.TheVariants.{Pending, EndOf}
use Rattle.kex_model.specs.Trees.{kind_at, root_of}
use Rattle.kex_model.specs.Moves.{Move, Effect, accept, read, choose, go, Step, took, chose, went, to_left, to_right, Allows, reads, goes_left, goes_right, goes, target_of, symbols_of, code_of, IsWaiting, Walk}
use Rattle.kex_model.specs.Places.{Place, fresh, enter, with_counts, moves_of, moves, start_of, IsPlace, at_start, by_step, by_rest}
use Rattle.kex_model.specs.Survivors.{LeadsToEnd}
use Rattle.kex_desugar.specs.Machines.{HasMore}
use Rattle.kex_rules.specs.Rules.{IsDefined, IsUse, IsWithin, elsewhere, as_last, as_other, last_parts, other_parts}
use Rattle.kex_rules.proofs.Tails.{kind_is}
use Rattle.kex_compile.proofs.NodePairs.{Joins, SameKind, one, lit, class, call, seq, alt, rep, mute, at_register, write_register, set_register, add_register, one_first, one_second}
use Rattle.kex_compile.proofs.Terms.{SameName}
use Rattle.kex_compile.proofs.Alike.{Alike}
use Rattle.kex_compile.proofs.Mates.{Mates}
use Rattle.kex_compile.proofs.SameRules.{G, kinds_on, roots_on, root_within}

-- ---- places by their nodes

-- places of the same frames, with nodes that S pairs
pub data SamePlace (S : ℕ → ℕ → Type 0) : Place → Place → Type 0 where
  empty : SamePlace S [] []
  pending : {n m need : ℕ} {left : Option ℕ} {p q : Place} → S n m → SamePlace S p q → SamePlace S (Pending n need left ∷ p) (Pending m need left ∷ q)
  ends : {n m : ℕ} {p q : Place} → S n m → SamePlace S p q → SamePlace S (EndOf n ∷ p) (EndOf m ∷ q)

-- moves that differ at most in their effects, to places of the same frames
pub data SameMove (S : ℕ → ℕ → Type 0) : Move Place → Move Place → Type 0 where
  accepts : SameMove S accept accept
  reads_on : {s t : List Bool} {p q : Place} → ((b : ℕ) → has s b ≡ has t b) → SamePlace S p q → SameMove S (read s p) (read t q)
  chooses : {p p' q q' : Place} → SamePlace S p q → SamePlace S p' q' → SameMove S (choose p p') (choose q q')
  goes_on : {e f : Effect} {p q : Place} → SamePlace S p q → SameMove S (go e p) (go f q)

module _ (S : ℕ → ℕ → Type 0) where
  pub place_back : (alone : (n n' m : ℕ) → S n m → S n' m → n ≡ n') {p p' q : Place} → SamePlace S p q → SamePlace S p' q → p ≡ p'
  place_back alone empty empty = refl
  place_back alone (pending {n = n} {need = need} {left = left} {p = p} h s) (pending {n = n'} k t) = ap (λ z. Pending z need left ∷ p) (alone _ _ _ h k) ∙ ap (λ z. Pending n' need left ∷ z) (place_back alone s t)
  place_back alone (ends {p = p} h s) (ends {n = n'} k t) = ap (λ z. EndOf z ∷ p) (alone _ _ _ h k) ∙ ap (λ z. EndOf n' ∷ z) (place_back alone s t)

  pub place_forth : (alone : (n m m' : ℕ) → S n m → S n m' → m ≡ m') {p q q' : Place} → SamePlace S p q → SamePlace S p q' → q ≡ q'
  place_forth alone empty empty = refl
  place_forth alone (pending {need = need} {left = left} {q = q} h s) (pending {m = m'} k t) = ap (λ z. Pending z need left ∷ q) (alone _ _ _ h k) ∙ ap (λ z. Pending m' need left ∷ z) (place_forth alone s t)
  place_forth alone (ends {q = q} h s) (ends {m = m'} k t) = ap (λ z. EndOf z ∷ q) (alone _ _ _ h k) ∙ ap (λ z. EndOf m' ∷ z) (place_forth alone s t)

  rest_on : {f : Frame} {p q : Place} → SamePlace S (f ∷ p) q → (g : Frame) × (q' : Place) × (q ≡ g ∷ q') × SamePlace S p q'
  rest_on (pending {m = m} {need = need} {left = left} {q = q} h s) = (Pending m need left, q, refl, s)
  rest_on (ends {m = m} {q = q} h s) = (EndOf m, q, refl, s)

  pub step_on : {m n : Move Place} {k : Step Place} → SameMove S m n → Allows m k → (j : Step Place) × Allows n j × (symbols_of k ≡ symbols_of j) × SamePlace S (target_of k) (target_of j)
  step_on accepts a = elim a [ ]
  step_on (reads_on {q = q} e r) (reads {b = b} i) = (took b q, reads (subst (λ z. IsTrue z) (e b) i), refl, r)
  step_on (chooses {q = q} r r') goes_left = (chose to_left q, goes_left, refl, r)
  step_on (chooses {q' = q} r r') goes_right = (chose to_right q, goes_right, refl, r')
  step_on (goes_on {f = f} {q = q} r) goes = (went f q, goes, refl, r)

  pub step_back : {m n : Move Place} {j : Step Place} → SameMove S m n → Allows n j → (k : Step Place) × Allows m k × (symbols_of k ≡ symbols_of j) × SamePlace S (target_of k) (target_of j)
  step_back accepts a = elim a [ ]
  step_back (reads_on {p = p} e r) (reads {b = b} i) = (took b p, reads (subst (λ z. IsTrue z) (sym (e b)) i), refl, r)
  step_back (chooses {p = p} r r') goes_left = (chose to_left p, goes_left, refl, r)
  step_back (chooses {p' = p} r r') goes_right = (chose to_right p, goes_right, refl, r')
  step_back (goes_on {e = e} {p = p} r) goes = (went e p, goes, refl, r)

  pub waits_on : {m n : Move Place} → SameMove S m n → IsWaiting m → IsWaiting n
  waits_on accepts w = tt
  waits_on (reads_on e r) w = tt
  waits_on (chooses r r') w = absurd w
  waits_on (goes_on r) w = absurd w

  pub waits_back : {m n : Move Place} → SameMove S m n → IsWaiting n → IsWaiting m
  waits_back accepts w = tt
  waits_back (reads_on e r) w = tt
  waits_back (chooses r r') w = absurd w
  waits_back (goes_on r) w = absurd w

  pub end_back : {m n : Move Place} → SameMove S m n → n ≡ accept → m ≡ accept
  end_back accepts e = refl
  end_back (reads_on h r) e = cc
  end_back (chooses r r') e = cc
  end_back (goes_on r) e = cc

  pub end_on : {m n : Move Place} → SameMove S m n → m ≡ accept → n ≡ accept
  end_on accepts e = refl
  end_on (reads_on h r) e = cc
  end_on (chooses r r') e = cc
  end_on (goes_on r) e = cc

  fresh_on : {M G : ℕ → ℕ → Type 0} {k l : Kind} {n m : ℕ} {p q : Place} → SameKind S M G k l → S n m → SamePlace S p q → SamePlace S (fresh n k ∷ p) (fresh m l ∷ q)
  fresh_on one h s = pending h s
  fresh_on lit h s = pending h s
  fresh_on (class e) h s = pending h s
  fresh_on (call e) h s = pending h s
  fresh_on (seq e f) h s = pending h s
  fresh_on (alt e f) h s = pending h s
  fresh_on (rep e) h s = pending h s
  fresh_on (mute e) h s = pending h s
  fresh_on (at_register g e) h s = pending h s
  fresh_on (write_register g) h s = pending h s
  fresh_on (set_register g p) h s = pending h s
  fresh_on (add_register g p) h s = pending h s

-- ---- places of alike programs

module _ (P Q : Grammar) (a : Alike P Q) (known : (name at : ℕ) → IsUse P name at → IsDefined P.definitions name) where
  -- nodes that are paired, of which the first is in a definition
  abbrev pub Partners : ℕ → ℕ → Type 0
  Partners n m = Joins a.pairs n m × IsWithin P n

  -- names of the same bytes, which are defined
  abbrev pub Defined : ℕ → ℕ → Type 0
  Defined k l = SameName P.names Q.names k l × IsDefined P.definitions k

  last_within : (n m : ℕ) (k : Kind) → kind_at P n ≡ k → IsWithin P n → IsAmong (last_parts k) m → IsWithin P m
  last_within n m k e (d, p, i, s) j = (d, p, i, as_last s (subst (λ z. IsAmong (last_parts z) m) (sym e) j))

  other_within : (n m : ℕ) (k : Kind) → kind_at P n ≡ k → IsWithin P n → IsAmong (other_parts k) m → IsWithin P m
  other_within n m k e (d, p, i, s) j = (d, elsewhere, i, as_other s (subst (λ z. IsAmong (other_parts z) m) (sym e) j))

  within_on : {k l : Kind} (n : ℕ) → kind_at P n ≡ k → IsWithin P n → ((name : ℕ) → k ≡ Call name → IsDefined P.definitions name) → SameKind (Joins a.pairs) (SameName P.names Q.names) (G P Q a) k l → SameKind Partners Defined (G P Q a) k l
  within_on n e w d one = one
  within_on n e w d lit = lit
  within_on n e w d (class h) = class h
  within_on n e w d (call {k = k} h) = call (h, d k refl)
  within_on n e w d (seq {l = l} {r = r} g h) = seq (g, other_within n l _ e w (inl refl)) (h, last_within n r _ e w (inl refl))
  within_on n e w d (alt {l = l} {r = r} g h) = alt (g, last_within n l _ e w (inl refl)) (h, last_within n r _ e w (inr (inl refl)))
  within_on n e w d (rep {n = m} h) = rep (h, other_within n m _ e w (inl refl))
  within_on n e w d (mute {n = m} h) = mute (h, other_within n m _ e w (inl refl))
  within_on n e w d (at_register {n = m} g h) = at_register g (h, other_within n m _ e w (inl refl))
  within_on n e w d (write_register g) = write_register g
  within_on n e w d (set_register g p) = set_register g p
  within_on n e w d (add_register g p) = add_register g p

  called : (n m name : ℕ) → Partners n m → kind_at P n ≡ Call name → IsDefined P.definitions name
  called n m name (j, w) e =
      let x = a.match _ j.1 in
      known name x.node.at (inl (n, w, (x.node, x.is, sym (kind_is P n x.node x.is) ∙ e, refl)))

  pub partners_on : (n m : ℕ) → Partners n m → SameKind Partners Defined (G P Q a) (kind_at P n) (kind_at Q m)
  partners_on n m h = within_on n refl h.1 (λ name e. called n m name h e) (kinds_on P Q a n m h.0)

  pub enter_on : (n m : ℕ) {p q : Place} → Partners n m → SamePlace Partners p q → SamePlace Partners (enter P n ∷ p) (enter Q m ∷ q)
  enter_on n m h s = fresh_on Partners (partners_on _ _ h) h s

  pub root_on : (name name' : ℕ) → Defined name name' → Partners (root_of P name) (root_of Q name')
  root_on name name' (h, d) = (roots_on P Q a name name' h d, root_within P Q a name name' h d)

  kind_moves : {k l : Kind} (n m need : ℕ) (left : Option ℕ) {p q : Place} → Partners n m → SameKind Partners Defined (G P Q a) k l → SamePlace Partners p q → SameMove Partners (moves_of P n (with_counts k need left) p) (moves_of Q m (with_counts l need left) q)
  kind_moves n m need left h one s = goes_on s
  kind_moves n m need left h lit s = goes_on s
  kind_moves n m need left h (class e) s = reads_on e s
  kind_moves n m need left h (call e) s = goes_on (enter_on _ _ (root_on _ _ e) s)
  kind_moves n m need left h (seq e f) s = goes_on (enter_on _ _ e (enter_on _ _ f s))
  kind_moves n m need left h (alt e f) s = chooses (enter_on _ _ e s) (enter_on _ _ f s)
  kind_moves n m (suc need) left h (rep e) s = goes_on (enter_on _ _ e (pending h s))
  kind_moves n m zero None h (rep {lazy = false} e) s = chooses (enter_on _ _ e (pending h s)) s
  kind_moves n m zero None h (rep {lazy = true} e) s = chooses s (enter_on _ _ e (pending h s))
  kind_moves n m zero (Some zero) h (rep e) s = goes_on s
  kind_moves n m zero (Some (suc left)) h (rep {lazy = false} e) s = chooses (enter_on _ _ e (pending h s)) s
  kind_moves n m zero (Some (suc left)) h (rep {lazy = true} e) s = chooses s (enter_on _ _ e (pending h s))
  kind_moves n m need left h (mute e) s = goes_on (enter_on _ _ e (ends h s))
  kind_moves n m need left h (at_register g e) s = goes_on (enter_on _ _ e (ends h s))
  kind_moves n m need left h (write_register g) s = goes_on s
  kind_moves n m need left h (set_register g p) s = goes_on s
  kind_moves n m need left h (add_register g p) s = goes_on s

  pub moves_on : {p q : Place} → SamePlace Partners p q → SameMove Partners (moves P p) (moves Q q)
  moves_on empty = accepts
  moves_on (pending {n = n} {m = m} {need = need} {left = left} h s) = kind_moves n m need left h (partners_on n m h) s
  moves_on (ends h s) = goes_on s

  pub walk_on : (ks : List (Step Place)) (p t q : Place) → Walk (moves P) p ks t → SamePlace Partners p q → (js : List (Step Place)) × (u : Place) × Walk (moves Q) q js u × SamePlace Partners t u × (code_of ks ≡ code_of js) × Mates (SamePlace Partners) ks js
  walk_on [] p t q w s = ([], q, refl, subst (λ z. SamePlace Partners z q) w s, refl, tt)
  walk_on (k ∷ ks) p t q (al, w) s =
      let x = step_on Partners (moves_on s) al in
      let y = walk_on ks (target_of k) t (target_of x.0) w x.3 in
      (x.0 ∷ y.0, y.1, (x.1, y.2), y.3, ap (λ z. z ++ code_of ks) x.2 ∙ ap (λ z. symbols_of x.0 ++ z) y.4, (x.2, x.3, y.5))

  pub walk_back : (js : List (Step Place)) (p q u : Place) → Walk (moves Q) q js u → SamePlace Partners p q → (ks : List (Step Place)) × (t : Place) × Walk (moves P) p ks t × SamePlace Partners t u × (code_of ks ≡ code_of js) × Mates (SamePlace Partners) ks js
  walk_back [] p q u w s = ([], p, refl, subst (λ z. SamePlace Partners p z) w s, refl, tt)
  walk_back (j ∷ js) p q u (al, w) s =
      let x = step_back Partners (moves_on s) al in
      let y = walk_back js (target_of x.0) (target_of j) u w x.3 in
      (x.0 ∷ y.0, y.1, (x.1, y.2), y.3, ap (λ z. z ++ code_of y.0) x.2 ∙ ap (λ z. symbols_of j ++ z) y.4, (x.2, x.3, y.5))

  module _ (root root' : ℕ) (same : Partners root root') where
    pub place_on : {p : Place} → IsPlace P root p → (q : Place) × SamePlace Partners p q × IsPlace Q root' q
    place_on at_start = (start_of Q root', enter_on root root' same empty, at_start)
    place_on (by_step k is al) =
        let x = place_on is in
        let y = step_on Partners (moves_on x.1) al in
        (target_of y.0, y.3, by_step y.0 x.2 y.1)
    place_on (by_rest is) =
        let x = place_on is in
        let y = rest_on Partners x.1 in
        (y.1, y.3, by_rest (subst (λ z. IsPlace Q root' z) y.2 x.2))

    pub one_partner : (n m m' : ℕ) → Partners n m → Partners n m' → m ≡ m'
    one_partner n m m' h k = one_second P.nodes Q.nodes (SameName P.names Q.names) (G P Q a) a.low a.high a.pairs a.match a.rising n m m' h.0 k.0

    pub one_partner_back : (n n' m : ℕ) → Partners n m → Partners n' m → n ≡ n'
    one_partner_back n n' m h k = one_first P.nodes Q.nodes (SameName P.names Q.names) (G P Q a) a.low a.high a.pairs a.match a.rising n n' m h.0 k.0

    pub end_ahead : LeadsToEnd (moves P) (start_of P root) → LeadsToEnd (moves Q) (start_of Q root')
    end_ahead (ks, e, w, done) =
        let x = walk_on ks (start_of P root) e (start_of Q root') w (enter_on root root' same empty) in
        (x.0, x.1, x.2, end_on Partners (moves_on x.3) done)

    -- partners of different places, which are different
    record PartnersOf (ps : List Place) : Type 0 where
      places : List Place
      long : length places ≡ length ps
      each : (q : Place) → IsAmong places q → IsPlace Q root' q
      source : (q : Place) → IsAmong places q → (p : Place) × IsAmong ps p × SamePlace Partners p q
      different : Different ps → Different places

    places_on : (ps : List Place) → ((p : Place) → IsAmong ps p → IsPlace P root p) → PartnersOf ps
    places_on [] all = record { places = []; long = refl; each = λ q i. absurd i; source = λ q i. absurd i; different = λ d. tt }
    places_on (p ∷ ps) all =
        let x = place_on (all p (inl refl)) in
        let rest = places_on ps (λ z i. all z (inr i)) in
        record {
          places = x.0 ∷ rest.places;
          long = ap suc rest.long;
          each = λ q i. ⊎_elim (λ e. subst (λ z. IsPlace Q root' z) e x.2) (λ j. rest.each q j) i;
          source = λ q i. ⊎_elim (λ e. (p, inl refl, subst (λ z. SamePlace Partners p z) e x.1)) (λ j. let f = rest.source q j in (f.0, inr f.1, f.2)) i;
          different = λ d. ((λ i. let f = rest.source x.0 i in d.0 (subst (λ z. IsAmong ps z) (place_back Partners one_partner_back f.2 x.1) f.1)), rest.different d.1);
        }

    pub more_on : (max : ℕ) → HasMore P root max → HasMore Q root' max
    more_on max h =
        let all = places_on h.places h.each in
        record { places = all.places; more = all.long ∙ h.more; different = all.different h.different; each = all.each }
