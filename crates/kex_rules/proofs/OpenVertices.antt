-- A vertex is taken from what is ahead, and opened.
use Rattle.std.proofs.Common.{◌≡◌, ℕ, ◌<◌, ◌≤◌, ◌+◌, List, [], ◌∷◌, ◌++◌, ◌⊎◌, inl, inr, ⊎_elim, length, get_or, set, replicate, refl, sym, ap, subst, ◌∙◌, length-append, length-set, get_or-set_other, arith}
use Rattle.std.proofs.lemmas.List.{length-replicate}
use Rattle.std.proofs.lemmas.Option.{slice_get_within}
use Rattle.kex_code.specs.Codes.{IsAmong, HasNumber}
use Rattle.kex_model.proofs.Tables.{get_more, get_last, get_pushed}
use Rattle.kex_rules.specs.declared.components.Mark.{Mark}
use Rattle.kex_rules.specs.declared.components.Mark.TheVariants.{Unseen, Open, Closed}
use Rattle.kex_rules.specs.declared.components.Bound.{Bound}
use Rattle.kex_rules.specs.Graphs.{Leads, stays}
use Rattle.kex_rules.specs.Searches.{SameSide, Met, is_closed, is_open, is_ahead, in_hand, IsSearch, AllLead}
use Rattle.kex_rules.proofs.Marks.{same_or_not, number_front, number_cases, number_of, mark_set, unseen_count-open, unseen_count-replicate, fresh_mark}
use Rattle.kex_rules.proofs.Ways.{leads_on, leads_one}

module _ (f : ℕ → List ℕ) (count : ℕ) where
  -- nothing is met
  pub nothing_met : (marks : List Mark) (path ahead : List ℕ) (bounds : List Bound) → marks ≡ replicate count Unseen → path ≡ [] → ahead ≡ [] → bounds ≡ [] → IsSearch f count [] marks path ahead bounds 0
  nothing_met marks path ahead bounds em ep ea eb = rw (em, ep, ea, eb) (record {
    long = length-replicate count Unseen;
    opened = λ v i h. absurd (none_in v i h);
    listed = λ v i e. let n : Unseen ≡ Open i = sym (fresh_mark count v) ∙ e in cc;
    onward = λ u v i j h k le. absurd (none_in u i h);
    back = λ u v i j h k le c. absurd (none_in u i h);
    rising = λ k l b c le h g. absurd (no_bound b k h);
    within = λ k b h. absurd (no_bound b k h);
    first = λ b h. absurd (no_bound b 0 h);
    based = λ v i h. absurd (none_in v i h);
    sourced = λ w q h. absurd (none_in w q h);
    met = λ u i w h e. absurd (none_in u i h);
    falls = λ u a w e i. let n : Unseen ≡ Closed a = sym (fresh_mark count u) ∙ e in cc;
    same = λ u v a e g. let n : Unseen ≡ Closed a = sym (fresh_mark count u) ∙ e in cc;
    fresh = λ u a e. let n : Unseen ≡ Closed a = sym (fresh_mark count u) ∙ e in cc;
    few = omega (arith, unseen_count-replicate count);
  })
    where
      none_in : (v i : ℕ) → HasNumber [] v i → ⊥
      none_in v i h = let lt : i < 0 = slice_get_within [] i v h in omega arith

      no_bound : (b : Bound) (k : ℕ) → HasNumber [] b k → ⊥
      no_bound b k h = let lt : k < 0 = slice_get_within [] k b h in omega arith

  -- the last of what is ahead is taken in hand
  pub taken : (marks : List Mark) (path ahead : List ℕ) (w : ℕ) (bounds : List Bound) (closed : ℕ) → IsSearch f count [] marks path (ahead ++ w ∷ []) bounds closed → ((k : ℕ) (b : Bound) → HasNumber bounds b k → b.ahead ≤ length ahead) → IsSearch f count (w ∷ []) marks path ahead bounds closed
  taken marks path ahead w bounds closed s low = record {
    long = s.long;
    opened = s.opened;
    listed = s.listed;
    onward = s.onward;
    back = s.back;
    rising = s.rising;
    within = λ k b h. ((s.within k b h).0, low k b h);
    first = s.first;
    based = s.based;
    sourced = λ v q h. s.sourced v q (get_more ahead (w ∷ []) q v h);
    met = λ u i v h e. again i v (s.met u i v h e);
    falls = s.falls;
    same = s.same;
    fresh = s.fresh;
    few = s.few;
  }
    where
      again : (i v : ℕ) → Met marks (ahead ++ w ∷ []) bounds [] i v → Met marks ahead bounds (w ∷ []) i v
      again i v (is_closed a e) = is_closed a e
      again i v (is_open j e c) = is_open j e c
      again i v (is_ahead q h c) = ⊎_elim (λ g. is_ahead q g c) (λ g. in_hand (inl g.1)) (get_pushed ahead w q v h)
      again i v (in_hand h) = absurd h

  -- all that is open leads to what is in the last component
  pub all_lead : (marks : List Mark) (path ahead : List ℕ) (bounds : List Bound) (closed : ℕ) (hand : List ℕ) → IsSearch f count hand marks path ahead bounds closed → (top : Bound) (n : ℕ) → length bounds ≡ n + 1 → HasNumber bounds top n → (u i : ℕ) → HasNumber path u i → top.path ≤ i → AllLead f path u
  all_lead marks path ahead bounds closed hand s top n len ht u i hu le v j hv =
      ⊎_elim
      (λ l. s.onward v u j i hv hu l)
      (λ l. s.back u v i j hu hv (omega arith) (λ k b hb _. let lb : k < length bounds = slice_get_within bounds k b hb in let r : b.path ≤ top.path = (s.rising k n b top (omega arith) hb ht).0 in omega arith))
      (at_most j i)
    where
      at_most : (a b : ℕ) → (a ≤ b) ⊎ (b < a)
      at_most a b = grind arith

  -- and to where that leads
  pub all_lead_on : (marks : List Mark) (path ahead : List ℕ) (w : ℕ) (bounds : List Bound) (closed : ℕ) → IsSearch f count [] marks path (ahead ++ w ∷ []) bounds closed → (top : Bound) (n : ℕ) → length bounds ≡ n + 1 → HasNumber bounds top n → top.ahead ≤ length ahead → AllLead f path w
  all_lead_on marks path ahead w bounds closed s top n len ht le v j hv =
      let o = s.sourced w (length ahead) (get_last ahead w) in
      leads_on (all_lead marks path (ahead ++ w ∷ []) bounds closed [] s top n len ht o.0 o.1 o.2 ((o.4 n top ht).0 le) v j hv) (leads_one f o.0 w o.3)

  -- a vertex that is closed is no more in hand
  pub passed : (marks : List Mark) (path ahead : List ℕ) (w : ℕ) (bounds : List Bound) (closed a : ℕ) → IsSearch f count (w ∷ []) marks path ahead bounds closed → get_or marks w Unseen ≡ Closed a → IsSearch f count [] marks path ahead bounds closed
  passed marks path ahead w bounds closed a s e = record {
    long = s.long;
    opened = s.opened;
    listed = s.listed;
    onward = s.onward;
    back = s.back;
    rising = s.rising;
    within = s.within;
    first = s.first;
    based = s.based;
    sourced = s.sourced;
    met = λ u i v h k. again i v (s.met u i v h k);
    falls = s.falls;
    same = s.same;
    fresh = s.fresh;
    few = s.few;
  }
    where
      again : (i v : ℕ) → Met marks ahead bounds (w ∷ []) i v → Met marks ahead bounds [] i v
      again i v (is_closed b g) = is_closed b g
      again i v (is_open j g c) = is_open j g c
      again i v (is_ahead q h c) = is_ahead q h c
      again i v (in_hand (inl g)) = is_closed a (ap (λ z. get_or marks z Unseen) (sym g) ∙ e)
      again i v (in_hand (inr g)) = absurd g

  -- a vertex that wasn't met is opened
  pub opened : (marks : List Mark) (path ahead : List ℕ) (y : ℕ) (bounds : List Bound) (closed : ℕ) (new : Bound) → IsSearch f count (y ∷ []) marks path ahead bounds closed → get_or marks y Unseen ≡ Unseen → y < count → AllLead f path y → new.path ≡ length path → new.ahead ≡ length ahead →
      IsSearch f count [] (set marks y (Open (length path))) (path ++ y ∷ []) (ahead ++ f y) (bounds ++ new ∷ []) closed
  opened marks path ahead y bounds closed new s un lt reach np na = record {
    long = length-set marks y (Open (length path)) ∙ s.long;
    opened = λ v i h. ⊎_elim (λ k. kept v (Open i) (λ e. absurd (clash v i e k)) (s.opened v i k)) (λ k. at v k.1 ∙ ap (λ z. Open z) (sym k.0)) (get_pushed path y i v h);
    listed = λ v i e. ⊎_elim (λ q. let n : Open (length path) ≡ Open i = sym (at v q) ∙ e in let m : length path ≡ i = cc in subst (λ z. HasNumber (path ++ y ∷ []) z i) q (subst (λ z. HasNumber (path ++ y ∷ []) y z) m (get_last path y))) (λ ne. get_more path (y ∷ []) i v (s.listed v i (sym (get_or-set_other marks y v (Open (length path)) Unseen ne) ∙ e))) (same_or_not y v);
    onward = λ u v i j hu hv le. ⊎_elim
        (λ kv. s.onward u v i j (older u i hu (let l : j < length path = slice_get_within path j v kv in omega arith)) kv le)
        (λ kv. ⊎_elim (λ ku. subst (λ z. Leads f u z) kv.1 (reach u i ku)) (λ ku. subst (λ z. Leads f u z) (sym ku.1 ∙ kv.1) stays) (get_pushed path y i u hu))
        (get_pushed path y j v hv);
    back = λ u v i j hu hv le c. ⊎_elim
        (λ kv. s.back u v i j (older u i hu (let l : j < length path = slice_get_within path j v kv in omega arith)) kv le (λ k b hb. c k b (get_more bounds (new ∷ []) k b hb)))
        (λ kv. ⊎_elim
        (λ ku. let l : i < length path = slice_get_within path i u ku in let m : new.path ≤ i = c (length bounds) new (get_last bounds new) (let e : j ≡ length path = kv.0 in omega arith) in absurd (omega arith))
        (λ ku. subst (λ z. Leads f v z) (sym kv.1 ∙ ku.1) stays)
        (get_pushed path y i u hu))
        (get_pushed path y j v hv);
    rising = λ k l b c le hb hc. ⊎_elim
        (λ old. s.rising k l b c le (bound_older k b hb (let m : l < length bounds = slice_get_within bounds l c old in omega arith)) old)
        (λ at_end. ⊎_elim (λ old. (let m = s.within k b old in (let g : b.path ≤ length path = m.0 in let h : new.path ≡ c.path = ap (λ z. z.path) at_end.1 in omega arith, let g : b.ahead ≤ length ahead = m.1 in let h : new.ahead ≡ c.ahead = ap (λ z. z.ahead) at_end.1 in omega arith)))
        (λ too. (let h : b.path ≡ c.path = ap (λ z. z.path) (sym too.1 ∙ at_end.1) in omega arith, let h : b.ahead ≡ c.ahead = ap (λ z. z.ahead) (sym too.1 ∙ at_end.1) in omega arith))
        (get_pushed bounds new k b hb))
        (get_pushed bounds new l c hc);
    within = λ k b h. (let m = low k b h in (let g : b.path ≤ length path = m.0 in omega (arith, length-append path (y ∷ [])), let g : b.ahead ≤ length ahead = m.1 in omega (arith, length-append ahead (f y))));
    first = λ b h. ⊎_elim (λ old. s.first b old) (λ k. ap (λ z. z.path) (sym k.1) ∙ np ∙ no_path path (λ x hx. let g : 0 < length bounds = s.based x 0 hx in let e : 0 ≡ length bounds = k.0 in omega arith)) (get_pushed bounds new 0 b h);
    based = λ v i h. omega (arith, length-append bounds (new ∷ []));
    sourced = λ w q h. ⊎_elim (λ old. from_old w q old) (λ k. from_new w q k.0 k.1) (number_cases ahead (f y) w q h);
    met = λ u i w hu e. ⊎_elim (λ old. met_old i w (slice_get_within path i u old) (s.met u i w old e)) (λ k. met_new i w (subst (λ z. IsAmong (f z) w) (sym k.1) e)) (get_pushed path y i u hu);
    falls = λ u a w e i. let r = s.falls u a w (was_closed u a e) i in (r.0, kept w (Closed r.0) (λ q. let n : Unseen ≡ Closed r.0 = sym un ∙ ap (λ z. get_or marks z Unseen) q ∙ r.1 in cc) r.1, r.2);
    same = λ u v a e g. s.same u v a (was_closed u a e) (was_closed v a g);
    fresh = λ u a e. s.fresh u a (was_closed u a e);
    few = omega (arith, s.few, unseen_count-open marks y (length path) in_marks un, length-append bounds (new ∷ []));
  }
    where
      in_marks : y < length marks
      in_marks = omega (arith, s.long, lt)

      at : (v : ℕ) → y ≡ v → get_or (set marks y (Open (length path))) v Unseen ≡ Open (length path)
      at v e = mark_set marks y v (Open (length path)) in_marks e

      -- another mark stays
      kept : (v : ℕ) (m : Mark) → (y ≡ v → ⊥) → get_or marks v Unseen ≡ m → get_or (set marks y (Open (length path))) v Unseen ≡ m
      kept v m ne e = ⊎_elim (λ q. absurd (ne q)) (λ n. get_or-set_other marks y v (Open (length path)) Unseen n ∙ e) (same_or_not y v)

      clash : (v i : ℕ) → y ≡ v → HasNumber path v i → ⊥
      clash v i e h = let n : Unseen ≡ Open i = sym un ∙ ap (λ z. get_or marks z Unseen) e ∙ s.opened v i h in cc

      was_closed : (u a : ℕ) → get_or (set marks y (Open (length path))) u Unseen ≡ Closed a → get_or marks u Unseen ≡ Closed a
      was_closed u a e = ⊎_elim (λ q. let n : Open (length path) ≡ Closed a = sym (at u q) ∙ e in cc) (λ ne. sym (get_or-set_other marks y u (Open (length path)) Unseen ne) ∙ e) (same_or_not y u)

      older : (u i : ℕ) → HasNumber (path ++ y ∷ []) u i → i < length path → HasNumber path u i
      older u i h l = number_front path (y ∷ []) i u h l

      bound_older : (k : ℕ) (b : Bound) → HasNumber (bounds ++ new ∷ []) b k → k < length bounds → HasNumber bounds b k
      bound_older k b h l = number_front bounds (new ∷ []) k b h l

      low : (k : ℕ) (b : Bound) → HasNumber (bounds ++ new ∷ []) b k → (b.path ≤ length path) × (b.ahead ≤ length ahead)
      low k b h = ⊎_elim (λ old. s.within k b old) (λ g. (let e : new.path ≡ b.path = ap (λ z. z.path) g.1 in omega arith, let e : new.ahead ≡ b.ahead = ap (λ z. z.ahead) g.1 in omega arith)) (get_pushed bounds new k b h)

      no_path : (xs : List ℕ) → ((x : ℕ) → HasNumber xs x 0 → ⊥) → length xs ≡ 0
      no_path [] n = refl
      no_path (x ∷ xs) n = absurd (n x refl)

      from_old : (w q : ℕ) → HasNumber ahead w q → (u i : ℕ) × HasNumber (path ++ y ∷ []) u i × IsAmong (f u) w × ((k : ℕ) (b : Bound) → HasNumber (bounds ++ new ∷ []) b k → SameSide b i q)
      from_old w q h =
          let o = s.sourced w q h in
          let inside : o.1 < length path = slice_get_within path o.1 o.0 o.2 in
          let early : q < length ahead = slice_get_within ahead q w h in
          (o.0, o.1, get_more path (y ∷ []) o.1 o.0 o.2, o.3, (λ k b hb. ⊎_elim (λ old. o.4 k b old) (λ g. let e : new.path ≡ b.path = ap (λ z. z.path) g.1 in let d : new.ahead ≡ b.ahead = ap (λ z. z.ahead) g.1 in ((λ le. absurd (omega arith)), (λ _. omega arith))) (get_pushed bounds new k b hb)))

      from_new : (w q : ℕ) → length ahead ≤ q → IsAmong (f y) w → (u i : ℕ) × HasNumber (path ++ y ∷ []) u i × IsAmong (f u) w × ((k : ℕ) (b : Bound) → HasNumber (bounds ++ new ∷ []) b k → SameSide b i q)
      from_new w q le i = (y, length path, get_last path y, i, (λ k b hb. let m = low k b hb in let g : b.path ≤ length path = m.0 in let d : b.ahead ≤ length ahead = m.1 in ((λ _. g), (λ l. absurd (omega arith)))))

      met_old : (i w : ℕ) → i < length path → Met marks ahead bounds (y ∷ []) i w → Met (set marks y (Open (length path))) (ahead ++ f y) (bounds ++ new ∷ []) [] i w
      met_old i w l (is_closed a e) = is_closed a (kept w (Closed a) (λ q. let n : Unseen ≡ Closed a = sym un ∙ ap (λ z. get_or marks z Unseen) q ∙ e in cc) e)
      met_old i w l (is_open j e c) = is_open j (kept w (Open j) (λ q. let n : Unseen ≡ Open j = sym un ∙ ap (λ z. get_or marks z Unseen) q ∙ e in cc) e) (λ k b hb le. ⊎_elim (λ old. c k b old le) (λ g. let p : new.path ≡ b.path = ap (λ z. z.path) g.1 in absurd (omega arith)) (get_pushed bounds new k b hb))
      met_old i w l (is_ahead q h c) = is_ahead q (get_more ahead (f y) q w h) (λ k b hb le. ⊎_elim (λ old. c k b old le) (λ g. let p : new.path ≡ b.path = ap (λ z. z.path) g.1 in absurd (omega arith)) (get_pushed bounds new k b hb))
      met_old i w l (in_hand (inl q)) = is_open (length path) (at w q) (λ k b hb le. (low k b hb).0)
      met_old i w l (in_hand (inr h)) = absurd h

      met_new : (i w : ℕ) → IsAmong (f y) w → Met (set marks y (Open (length path))) (ahead ++ f y) (bounds ++ new ∷ []) [] i w
      met_new i w h = let r = number_of ahead (f y) w h in is_ahead r.0 r.1 (λ k b hb le. let d : b.ahead ≤ length ahead = (low k b hb).1 in let g : length ahead ≤ r.0 = r.2 in omega arith)

  -- the same, of lists that equal those
  pub opened_as : (marks : List Mark) (path ahead : List ℕ) (y : ℕ) (bounds : List Bound) (closed : ℕ) (new : Bound) (marks' : List Mark) (path' ahead' : List ℕ) (bounds' : List Bound) → IsSearch f count (y ∷ []) marks path ahead bounds closed → get_or marks y Unseen ≡ Unseen → y < count → AllLead f path y → new.path ≡ length path → new.ahead ≡ length ahead →
      marks' ≡ set marks y (Open (length path)) → path' ≡ path ++ y ∷ [] → ahead' ≡ ahead ++ f y → bounds' ≡ bounds ++ new ∷ [] → IsSearch f count [] marks' path' ahead' bounds' closed
  opened_as marks path ahead y bounds closed new marks' path' ahead' bounds' s un lt reach np na em ep ea eb = rw (em, ep, ea, eb) (opened marks path ahead y bounds closed new s un lt reach np na)
