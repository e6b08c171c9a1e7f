-- The marks of a row are spread along all steps without a byte, going through each place once.
use Rattle.std.proofs.Common.{◌≡◌, ℕ, zero, suc, ◌+◌, ◌<◌, ◌≤◌, Bool, true, false, List, [], ◌∷◌, ◌++◌, ◌⊎◌, inl, inr, ⊎_elim, length, refl, sym, ap, ap₂, subst, ◌∙◌, arith, true≢false}
use Rattle.std.proofs.lemmas.Option.{slice_get_past}
use Rattle.std.proofs.lemmas.Bool.{cases_eq}
use Rattle.kex_code.specs.Codes.{bytes_of, IsAmong}
use Rattle.kex_model.specs.Moves.{Move, accept, read, choose, forced, go, quiet, Step, Side, to_left, to_right, symbol_of, chose, went, Allows, reads, goes_left, goes_right, goes_forced, goes, target_of, symbols_of, code_of, Walk}
use Rattle.kex_model.proofs.Walks.{bytes_of-append}
use Rattle.kex_model.proofs.Derivations.{walk-append, code_of-append}
use Rattle.kex_machine.specs.declared.MNode.{MNode}
use Rattle.kex_machine.specs.Nodes.{node_moves, move_of}
use Rattle.kex_frontier.specs.Rows.{has_mark, IsHighestBelow, Unmarks, Opens, IsReachedQuietly, IsClosureOf}

pub marked_or_not : (b : Bool) → (b ≡ true) ⊎ (b ≡ false)
marked_or_not true = inl refl
marked_or_not false = inr refl

-- ---- what was marked

-- ---- steps without a byte

side_bytes : (x : Side) → bytes_of (symbol_of x ∷ []) ≡ []
side_bytes to_left = refl
side_bytes to_right = refl

quiet_step : {S : Type 0} (v : Move S) (m : S) → IsAmong (quiet v) m → (k : Step S) × Allows v k × (target_of k ≡ m) × (bytes_of (symbols_of k) ≡ [])
quiet_step accept m i = absurd i
quiet_step (read set t) m i = absurd i
quiet_step (choose l r) m (inl e) = (chose to_right r, goes_right, e, refl)
quiet_step (choose l r) m (inr (inl e)) = (chose to_left l, goes_left, e, refl)
quiet_step (choose l r) m (inr (inr i)) = absurd i
quiet_step (forced x t) m (inl e) = (chose x t, goes_forced, e, side_bytes x)
quiet_step (forced x t) m (inr i) = absurd i
quiet_step (go f t) m (inl e) = (went f t, goes, e, refl)
quiet_step (go f t) m (inr i) = absurd i

is_quiet : {S : Type 0} {v : Move S} {k : Step S} → Allows v k → bytes_of (symbols_of k) ≡ [] → IsAmong (quiet v) (target_of k)
is_quiet (reads i) e = cc
is_quiet goes_left e = inr (inl refl)
is_quiet goes_right e = inl refl
is_quiet goes_forced e = inl refl
is_quiet goes e = inl refl

none_left : {A : Type 0} (xs ys : List A) → xs ++ ys ≡ [] → (xs ≡ []) × (ys ≡ [])
none_left [] ys e = (refl, e)
none_left (x ∷ xs) ys e = cc

-- a place counts twice if it isn't marked, and once if it is and is fresh
abbrev pub weight : Bool → Bool → ℕ
weight false y = 2
weight true true = 1
weight true false = 0

-- what is left to be done at the first places
abbrev pub left_over : List ℕ → List ℕ → ℕ → ℕ
left_over row fresh zero = 0
left_over row fresh (suc n) = weight (has_mark row n) (has_mark fresh n) + left_over row fresh n

lighter : (a b c d : Bool) → (a ≡ true → c ≡ true) → (d ≡ true → (b ≡ true) ⊎ (a ≡ false)) → weight c d ≤ weight a b
lighter false b false d h k = omega arith
lighter false b true true h k = omega arith
lighter false b true false h k = omega arith
lighter true b false d h k = let e : false ≡ true = h refl in cc
lighter true true true true h k = omega arith
lighter true true true false h k = omega arith
lighter true false true false h k = omega arith
lighter true false true true h k = ⊎_elim (λ e. let bad : false ≡ true = e in cc) (λ e. let bad : true ≡ false = e in cc) (k refl)

-- rows that have gone on
pub record GoesOn (row fresh row' fresh' : List ℕ) : Type 0 where
  pub kept : (n : ℕ) → has_mark row n ≡ true → has_mark row' n ≡ true
  pub only : (n : ℕ) → has_mark fresh' n ≡ true → (has_mark fresh n ≡ true) ⊎ (has_mark row n ≡ false)

less_over : (row fresh row' fresh' : List ℕ) → GoesOn row fresh row' fresh' → (n : ℕ) → left_over row' fresh' n ≤ left_over row fresh n
less_over row fresh row' fresh' g zero = omega arith
less_over row fresh row' fresh' g (suc n) = omega (arith, lighter (has_mark row n) (has_mark fresh n) (has_mark row' n) (has_mark fresh' n) (g.kept n) (g.only n), less_over row fresh row' fresh' g n)

-- where a place that was fresh isn't any more, less is left
pub fewer_over : (row fresh row' fresh' : List ℕ) → GoesOn row fresh row' fresh' → (n k : ℕ) → k < n → has_mark row k ≡ true → has_mark fresh k ≡ true → has_mark fresh' k ≡ false → left_over row' fresh' n < left_over row fresh n
fewer_over row fresh row' fresh' g zero k lt a b c = absurd (omega arith)
fewer_over row fresh row' fresh' g (suc n) k lt a b c = ⊎_elim (λ same. here same) (λ lt. omega (arith, lighter (has_mark row n) (has_mark fresh n) (has_mark row' n) (has_mark fresh' n) (g.kept n) (g.only n), fewer_over row fresh row' fresh' g n k lt a b c)) (last k n lt)
  where
    last : (k n : ℕ) → k < suc n → (k ≡ n) ⊎ (k < n)
    last k n lt = grind arith

    here : k ≡ n → left_over row' fresh' (suc n) < left_over row fresh (suc n)
    here same =
        let was : weight (has_mark row n) (has_mark fresh n) ≡ 1 = ap₂ weight (ap (λ z. has_mark row z) (sym same) ∙ a) (ap (λ z. has_mark fresh z) (sym same) ∙ b) in
        let is : weight (has_mark row' n) (has_mark fresh' n) ≡ 0 = ap₂ weight (g.kept n (ap (λ z. has_mark row z) (sym same) ∙ a)) (ap (λ z. has_mark fresh' z) (sym same) ∙ c) in
        omega (arith, was, is, less_over row fresh row' fresh' g n)

module _ (nodes : List MNode) where
  abbrev f : ℕ → Move ℕ
  f n = node_moves nodes n

  -- after the last node there is nothing to do
  pub past_last : (n : ℕ) → length nodes ≤ n → f n ≡ accept
  past_last n le = ap move_of (slice_get_past nodes n le)

  reached_on : (q n : ℕ) (k : Step ℕ) → IsReachedQuietly nodes q n → Allows (f n) k → bytes_of (symbols_of k) ≡ [] → IsReachedQuietly nodes q (target_of k)
  reached_on q n k (ks, w, e) a s = (ks ++ k ∷ [], walk-append f ks (k ∷ []) q n (target_of k) w (a, refl), ap bytes_of (code_of-append ks (k ∷ [])) ∙ bytes_of-append (code_of ks) (symbols_of k ++ []) ∙ ap₂ (λ x y. x ++ y) e (bytes_of-append (symbols_of k) [] ∙ ap (λ z. z ++ []) s))

  -- the marks are spread, but from the places that are fresh; from the end on none is
  pub record Going (old row fresh : List ℕ) (end : ℕ) : Type 0 where
    pub within : end ≤ length nodes
    pub room : length row ≡ length old
    pub fresh_room : length fresh ≡ length old
    pub kept : (n : ℕ) → has_mark old n ≡ true → has_mark row n ≡ true
    pub real : (n : ℕ) → has_mark row n ≡ true → (m : ℕ) × (has_mark old m ≡ true) × IsReachedQuietly nodes m n
    pub inside : (n : ℕ) → has_mark fresh n ≡ true → has_mark row n ≡ true
    pub closed : (n m : ℕ) → has_mark row n ≡ true → has_mark fresh n ≡ false → IsAmong (quiet (f n)) m → has_mark row m ≡ true
    pub above : (n : ℕ) → end ≤ n → n < length nodes → has_mark fresh n ≡ false

  pub going_on : (old row fresh less new fresh' : List ℕ) (end n end' : ℕ) → Going old row fresh end → IsHighestBelow fresh end n → Unmarks n fresh less → Opens (quiet (f n)) n row less new fresh' end' → end' ≤ length nodes → Going old new fresh' end'
  going_on old row fresh less new fresh' end n end' s top u o le = record {
    within = le;
    room = o.marked.room ∙ s.room;
    fresh_room = o.room ∙ u.room ∙ s.fresh_room;
    kept = λ m e. o.marked.kept m (s.kept m e);
    real = λ m e. ⊎_elim (λ h. s.real m h) (λ i. let r = s.real n marked in let st = quiet_step (f n) m i in (r.0, r.1, subst (λ z. IsReachedQuietly nodes r.0 z) st.2 (reached_on r.0 n st.0 r.2 st.1 st.3))) (o.marked.only m e);
    inside = λ m e. ⊎_elim (λ h. o.marked.kept m (s.inside m (was m h))) (λ h. o.marked.added m h.1) (o.only m e);
    closed = λ q m e g i. ⊎_elim
        (λ at. o.marked.added m (subst (λ z. IsAmong (quiet (f z)) m) at i))
        (λ ne. ⊎_elim
        (λ h. o.marked.kept m (s.closed q m h (⊎_elim (λ x. absurd (true≢false (sym (o.kept q (u.others q ne ∙ x)) ∙ g))) (λ x. x) (marked_or_not (has_mark fresh q))) i))
        (λ h. absurd (true≢false (sym h ∙ g)))
        (o.opened q e))
        (cases_eq q n);
    above = λ q far lt. ⊎_elim (λ e. absurd (high q far lt e)) (λ e. e) (marked_or_not (has_mark fresh' q));
  }
    where
      marked : has_mark row n ≡ true
      marked = s.inside n top.marked

      was : (m : ℕ) → has_mark less m ≡ true → has_mark fresh m ≡ true
      was m h = ⊎_elim (λ at. absurd (true≢false (sym h ∙ ap (λ z. has_mark less z) at ∙ u.gone))) (λ ne. sym (u.others m ne) ∙ h) (cases_eq m n)

      past : (a b : ℕ) → (a ≤ b) ⊎ (b < a)
      past a b = grind arith

      high : (q : ℕ) → end' ≤ q → q < length nodes → has_mark fresh' q ≡ true → ⊥
      high q far lt e =
          let h : has_mark less q ≡ true = o.above q far e in
          ⊎_elim
          (λ at. true≢false (sym h ∙ ap (λ z. has_mark less z) at ∙ u.gone))
          (λ ne. ⊎_elim
          (λ above. true≢false (sym (was q h) ∙ s.above q above lt))
          (λ below. true≢false (sym (was q h) ∙ top.highest q (let r : n ≤ end' = o.rises in beyond q n (omega (arith, far, r)) ne) below))
          (past end q))
          (cases_eq q n)
        where
          beyond : (q n : ℕ) → n ≤ q → (q ≡ n → ⊥) → n < q
          beyond q n le ne = grind arith

  pub going_less : (old row fresh less new fresh' : List ℕ) (end n end' : ℕ) → Going old row fresh end → IsHighestBelow fresh end n → Unmarks n fresh less → Opens (quiet (f n)) n row less new fresh' end' → left_over new fresh' (length nodes) < left_over row fresh (length nodes)
  going_less old row fresh less new fresh' end n end' s top u o =
      fewer_over row fresh new fresh' (record {
        kept = o.marked.kept;
        only = λ m e. ⊎_elim (λ h. inl (was m h)) (λ h. inr h.0) (o.only m e);
      }) (length nodes) n (let w : end ≤ length nodes = s.within in omega (arith, top.below, w)) marked top.marked
      (⊎_elim (λ e. absurd (⊎_elim (λ h. true≢false (sym h ∙ u.gone)) (λ h. true≢false (sym marked ∙ h.0)) (o.only n e))) (λ e. e) (marked_or_not (has_mark fresh' n)))
    where
      marked : has_mark row n ≡ true
      marked = s.inside n top.marked

      was : (m : ℕ) → has_mark less m ≡ true → has_mark fresh m ≡ true
      was m h = ⊎_elim (λ at. absurd (true≢false (sym h ∙ ap (λ z. has_mark less z) at ∙ u.gone))) (λ ne. sym (u.others m ne) ∙ h) (cases_eq m n)

  pub going_ends : (old row fresh : List ℕ) (end : ℕ) → Going old row fresh end → ((n : ℕ) → n < end → has_mark fresh n ≡ false) → IsClosureOf nodes old row
  going_ends old row fresh end s none = record {
    room = s.room;
    real = s.real;
    all = λ m n e (ks, w, q). along ks m n (s.kept m e) w q;
  }
    where
      past : (a b : ℕ) → (a ≤ b) ⊎ (b < a)
      past a b = grind arith

      closed : (n m : ℕ) → has_mark row n ≡ true → IsAmong (quiet (f n)) m → has_mark row m ≡ true
      closed n m e i =
          ⊎_elim
          (λ le. absurd (subst (λ z. IsAmong (quiet z) m) (past_last n le) i))
          (λ lt. s.closed n m e (⊎_elim (λ far. s.above n far lt) (λ near. none n near) (past end n)) i)
          (past (length nodes) n)

      along : (ks : List (Step ℕ)) (m n : ℕ) → has_mark row m ≡ true → Walk f m ks n → bytes_of (code_of ks) ≡ [] → has_mark row n ≡ true
      along [] m n e w q = subst (λ z. has_mark row z ≡ true) w e
      along (k ∷ ks) m n e w q =
          let both = none_left (bytes_of (symbols_of k)) (bytes_of (code_of ks)) (sym (bytes_of-append (symbols_of k) (code_of ks)) ∙ q) in
          along ks (target_of k) n (closed m (target_of k) e (is_quiet w.0 both.0)) w.1 both.1
