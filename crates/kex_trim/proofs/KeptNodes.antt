-- What is kept of a machine goes as it did, and is trimmed.
use Rattle.std.proofs.Common.{◌≡◌, ◌≢◌, ℕ, zero, suc, ◌<◌, ◌≤◌, ◌+◌, Bool, true, false, List, [], ◌∷◌, ◌++◌, ◌⊎◌, inl, inr, ⊎_elim, Some, length, get_or, set, refl, sym, ap, subst, ◌∙◌, length-append, length-set, arith}
use Rattle.std.specs.Prelude.{slice_get, All}
use Rattle.std.proofs.lemmas.List.Elements.{All-get_or, All-from_get_or, All-set}
use Rattle.std.proofs.lemmas.Option.{slice_get_within, slice_get-get_or}
use Rattle.kex_code.specs.Codes.{HasNumber}
use Rattle.kex_model.specs.Moves.{go, nothing, Effect, Move, accept, read, choose, forced, Side, to_left, to_right, Step, took, chose, went, Allows, reads, goes_left, goes_right, goes_forced, goes, target_of, Walk, IsWaiting}
use Rattle.kex_model.specs.Survivors.{LeadsToEnd}
use Rattle.kex_model.specs.Alike.{SameLabel, Alike}
use Rattle.kex_model.proofs.Transfer.{walk_ahead}
use Rattle.kex_model.proofs.Tables.{some_same, get_more, get_last}
use Rattle.kex_machine.specs.declared.MNode.{MNode}
use Rattle.kex_machine.specs.declared.MNode.TheVariants.{Accept, Read, Choice, Forced, Do, Skip}
use Rattle.kex_trim.specs.Ways.{LeadsBelow}
use Rattle.kex_machine.specs.Nodes.{Graph, IsBelow, IsMachineInRange, IsTrimmed, UsesRegisters, effect_of, node_moves, move_of}
use Rattle.kex_machine.proofs.Ranges.{trimmed_by_ends}
use Rattle.kex_trim.specs.Ways.{AreAliveFlags}
use Rattle.kex_trim.specs.Trim.{KeepsMove, still_accepts, still_reads, still_chooses, only_left, only_right, still_forced, still_goes, IsTrimOf, IsNumbering, IsShrunk, choice_left, renumbered_move}

module _ {S T : Type 0} (R : S → T → Type 0) (Lost : S → Type 0) where
  kept_ahead : {m : Move S} {n : Move T} {k : Step S} → KeepsMove R Lost m n → Allows m k → (Lost (target_of k) → ⊥) → (j : Step T) × Allows n j × SameLabel k j × R (target_of k) (target_of j)
  kept_ahead still_accepts a h = elim a [ ]
  kept_ahead (still_reads {t = t} r) (reads {b = b} i) h = (took b t, reads i, refl, r)
  kept_ahead (still_chooses {t = t} r r') goes_left h = (chose to_left t, goes_left, refl, r)
  kept_ahead (still_chooses {t' = t} r r') goes_right h = (chose to_right t, goes_right, refl, r')
  kept_ahead (only_left {t = t} r l) goes_left h = (chose to_left t, goes_forced, refl, r)
  kept_ahead (only_left r l) goes_right h = absurd (h l)
  kept_ahead (only_right l r) goes_left h = absurd (h l)
  kept_ahead (only_right {t = t} l r) goes_right h = (chose to_right t, goes_forced, refl, r)
  kept_ahead (still_forced {x = x} {t = t} r) goes_forced h = (chose x t, goes_forced, refl, r)
  kept_ahead (still_goes {e = e} {t = t} r) goes h = (went e t, goes, refl, r)

  kept_back : {m : Move S} {n : Move T} {j : Step T} → KeepsMove R Lost m n → Allows n j → (k : Step S) × Allows m k × SameLabel k j × R (target_of k) (target_of j)
  kept_back still_accepts a = elim a [ ]
  kept_back (still_reads {s = s} r) (reads {b = b} i) = (took b s, reads i, refl, r)
  kept_back (still_chooses {s = s} r r') goes_left = (chose to_left s, goes_left, refl, r)
  kept_back (still_chooses {s' = s} r r') goes_right = (chose to_right s, goes_right, refl, r')
  kept_back (only_left {s = s} r l) goes_forced = (chose to_left s, goes_left, refl, r)
  kept_back (only_right {s' = s} l r) goes_forced = (chose to_right s, goes_right, refl, r)
  kept_back (still_forced {x = x} {s = s} r) goes_forced = (chose x s, goes_forced, refl, r)
  kept_back (still_goes {e = e} {s = s} r) goes = (went e s, goes, refl, r)

  kept_waits : {m : Move S} {n : Move T} → KeepsMove R Lost m n → IsWaiting m → IsWaiting n
  kept_waits still_accepts w = tt
  kept_waits (still_reads r) w = tt
  kept_waits (still_chooses r r') w = w
  kept_waits (only_left r l) w = w
  kept_waits (only_right l r) w = w
  kept_waits (still_forced r) w = w
  kept_waits (still_goes r) w = w

  kept_waits_back : {m : Move S} {n : Move T} → KeepsMove R Lost m n → IsWaiting n → IsWaiting m
  kept_waits_back still_accepts w = tt
  kept_waits_back (still_reads r) w = tt
  kept_waits_back (still_chooses r r') w = w
  kept_waits_back (only_left r l) w = w
  kept_waits_back (only_right l r) w = w
  kept_waits_back (still_forced r) w = w
  kept_waits_back (still_goes r) w = w

  kept_ends : {m : Move S} {n : Move T} → KeepsMove R Lost m n → m ≡ accept → n ≡ accept
  kept_ends still_accepts e = refl
  kept_ends (still_reads r) e = cc
  kept_ends (still_chooses r r') e = cc
  kept_ends (only_left r l) e = cc
  kept_ends (only_right l r) e = cc
  kept_ends (still_forced r) e = cc
  kept_ends (still_goes r) e = cc

  kept_ends_back : {m : Move S} {n : Move T} → KeepsMove R Lost m n → n ≡ accept → m ≡ accept
  kept_ends_back still_accepts e = refl
  kept_ends_back (still_reads r) e = cc
  kept_ends_back (still_chooses r r') e = cc
  kept_ends_back (only_left r l) e = cc
  kept_ends_back (only_right l r) e = cc
  kept_ends_back (still_forced r) e = cc
  kept_ends_back (still_goes r) e = cc

-- what is kept is alike
pub alike_kept : {S T : Type 0} (f : S → Move S) (g : T → Move T) (R : S → T → Type 0) → ((s : S) (t : T) → R s t → KeepsMove R (λ q. LeadsToEnd f q → ⊥) (f s) (g t)) → ((s : S) (t t' : T) → R s t → R s t' → t ≡ t') → ((s s' : S) (t : T) → R s t → R s' t → s ≡ s') → Alike f g R
alike_kept f g R keeps one one_back = record {
  ahead = λ s t k r a e. kept_ahead R (λ q. LeadsToEnd f q → ⊥) (keeps s t r) a (λ lost. lost e);
  back = λ s t j r a. kept_back R (λ q. LeadsToEnd f q → ⊥) (keeps s t r) a;
  waits = λ s t r w. kept_waits R (λ q. LeadsToEnd f q → ⊥) (keeps s t r) w;
  waits_back = λ s t r w. kept_waits_back R (λ q. LeadsToEnd f q → ⊥) (keeps s t r) w;
  ends = λ s t r e. kept_ends R (λ q. LeadsToEnd f q → ⊥) (keeps s t r) e;
  ends_back = λ s t r e. kept_ends_back R (λ q. LeadsToEnd f q → ⊥) (keeps s t r) e;
  one = one;
  one_back = one_back;
}

module _ (nodes : List MNode) (alive : List Bool) (kept numbers : List ℕ) (is : AreAliveFlags nodes alive) (num : IsNumbering alive kept numbers) where
  abbrev f : ℕ → Move ℕ
  f n = node_moves nodes n

  abbrev Lost : ℕ → Type 0
  Lost q = LeadsToEnd f q → ⊥

  numbered_at : (s : ℕ) → s < length nodes → get_or alive s false ≡ true → HasNumber kept s (get_or numbers s 0)
  numbered_at s lt e = num.all s e

  -- what leads to the end has a number
  has_number : (s : ℕ) → s < length nodes → LeadsToEnd f s → HasNumber kept s (get_or numbers s 0)
  has_number s lt e = numbered_at s lt (is.all s lt e)

  lost : (s : ℕ) → s < length nodes → get_or alive s false ≡ false → Lost s
  lost s lt e l = let bad : false ≡ true = sym e ∙ is.all s lt l in cc

  pub choice : (a b : Bool) (l r : ℕ) → get_or alive l false ≡ a → get_or alive r false ≡ b → l < length nodes → r < length nodes → (LeadsToEnd f l ⊎ LeadsToEnd f r) → KeepsMove (HasNumber kept) Lost (choose l r) (choice_left a b (get_or numbers l 0) (get_or numbers r 0))
  choice true true l r ea eb fl fr some = still_chooses (numbered_at l fl ea) (numbered_at r fr eb)
  choice true false l r ea eb fl fr some = only_left (numbered_at l fl ea) (lost r fr eb)
  choice false b l r ea eb fl fr some = only_right (lost l fl ea) (⊎_elim (λ h. absurd (lost l fl ea h)) (λ h. has_number r fr h) some)

  by_move : (m : MNode) → LeadsBelow (length nodes) m → ((move_of (Some m) ≡ accept) ⊎ ((k : Step ℕ) × Allows (move_of (Some m)) k × LeadsToEnd f (target_of k))) → KeepsMove (HasNumber kept) Lost (move_of (Some m)) (renumbered_move alive numbers (move_of (Some m)))
  by_move Accept b h = still_accepts
  by_move (Read set t) b (inl e) = cc
  by_move (Read set t) b (inr (k, a, e)) = still_reads (has_number t b (side a e))
    where
      side : {k : Step ℕ} → Allows (read set t) k → LeadsToEnd f (target_of k) → LeadsToEnd f t
      side (reads i) e = e
  by_move (Choice l r) b (inl e) = cc
  by_move (Choice l r) b (inr (k, a, e)) = choice (get_or alive l false) (get_or alive r false) l r refl refl b.0 b.1 (side a e)
    where
      side : {k : Step ℕ} → Allows (choose l r) k → LeadsToEnd f (target_of k) → LeadsToEnd f l ⊎ LeadsToEnd f r
      side goes_left e = inl e
      side goes_right e = inr e
  by_move (Forced x t) b (inl e) = cc
  by_move (Forced x t) b (inr (k, a, e)) = still_forced (has_number t b (side a e))
    where
      side : {k : Step ℕ} → Allows (move_of (Some (Forced x t))) k → LeadsToEnd f (target_of k) → LeadsToEnd f t
      side goes_forced e = e
  by_move (Do x t) b (inl e) = cc
  by_move (Do x t) b (inr (k, a, e)) = still_goes (has_number t b (side a e))
    where
      side : {k : Step ℕ} → Allows (move_of (Some (Do x t))) k → LeadsToEnd f (target_of k) → LeadsToEnd f t
      side goes e = e
  by_move (Skip t) b (inl e) = cc
  by_move (Skip t) b (inr (k, a, e)) = still_goes (has_number t b (side a e))
    where
      side : {k : Step ℕ} → Allows (move_of (Some (Skip t))) k → LeadsToEnd f (target_of k) → LeadsToEnd f t
      side goes e = e

  -- a node that is kept, by the new numbers
  pub kept_node : All (LeadsBelow (length nodes)) nodes → (s : ℕ) → s < length nodes → LeadsToEnd f s → KeepsMove (HasNumber kept) Lost (f s) (renumbered_move alive numbers (f s))
  kept_node range s lt (ks, e, w, a) =
      let m = get_or nodes s Accept in
      let here : f s ≡ move_of (Some m) = ap (λ z. move_of z) (slice_get-get_or nodes s Accept lt) in
      subst (λ z. KeepsMove (HasNumber kept) Lost z (renumbered_move alive numbers z)) (sym here) (by_move m (All-get_or (LeadsBelow (length nodes)) nodes s Accept lt range) (steps here ks w))
    where
      steps : {v : Move ℕ} → f s ≡ v → (ks : List (Step ℕ)) → Walk f s ks e → (v ≡ accept) ⊎ ((k : Step ℕ) × Allows v k × LeadsToEnd f (target_of k))
      steps {v} here [] w = inl (sym here ∙ ap f w ∙ a)
      steps {v} here (k ∷ ks) w = inr (k, subst (λ z. Allows z k) here w.0, (ks, e, w.1, a))

-- while nodes are taken out and put in their new order
pub record Shrinking (nodes rest made : List MNode) (alive : List Bool) (kept numbers : List ℕ) (t : ℕ) : Type 0 where
  pub long : length rest ≡ length nodes
  pub below : All (LeadsBelow (length nodes)) rest
  pub same : (s u : ℕ) → HasNumber kept s u → t ≤ u → node_moves rest s ≡ node_moves nodes s
  pub count : length made ≡ t
  pub each : (s u : ℕ) → HasNumber kept s u → u < t → node_moves made u ≡ renumbered_move alive numbers (node_moves nodes s)

pub shrinking_end : (nodes rest made : List MNode) (alive : List Bool) (kept numbers : List ℕ) → Shrinking nodes rest made alive kept numbers (length kept) → IsShrunk nodes made alive kept numbers
shrinking_end nodes rest made alive kept numbers h = record { count = h.count; each = λ s t n. h.each s t n (slice_get_within kept t s n) }

moves_set_other : (ms : List MNode) (i j : ℕ) (m : MNode) → (j ≢ i) → node_moves (set ms i m) j ≡ node_moves ms j
moves_set_other [] i j m apart = refl
moves_set_other (x ∷ ms) zero zero m apart = absurd (apart refl)
moves_set_other (x ∷ ms) zero (suc j) m apart = refl
moves_set_other (x ∷ ms) (suc i) zero m apart = refl
moves_set_other (x ∷ ms) (suc i) (suc j) m apart = moves_set_other ms i j m (λ e. apart (ap suc e))

moves_at_end : (made : List MNode) (m : MNode) (u : ℕ) → u ≡ length made → node_moves (made ++ m ∷ []) u ≡ move_of (Some m)
moves_at_end made m u e = ap (λ z. move_of (slice_get (made ++ m ∷ []) z)) e ∙ ap (λ z. move_of z) (get_last made m)

moves_before : (made : List MNode) (m : MNode) (u : ℕ) → u < length made → node_moves (made ++ m ∷ []) u ≡ node_moves made u
moves_before made m u lt = let g = slice_get-get_or made u Accept lt in ap (λ z. move_of z) (get_more made (m ∷ []) u (get_or made u Accept) g ∙ sym g)

pub shrinking_more : (nodes rest made : List MNode) (alive : List Bool) (kept numbers : List ℕ) (t s : ℕ) (node new : MNode) → Shrinking nodes rest made alive kept numbers t → IsNumbering alive kept numbers → HasNumber kept s t → move_of (Some node) ≡ node_moves rest s → move_of (Some new) ≡ renumbered_move alive numbers (move_of (Some node)) → Shrinking nodes (set rest s Accept) (made ++ new ∷ []) alive kept numbers (t + 1)
shrinking_more nodes rest made alive kept numbers t s node new h num at is made_is = record {
  long = length-set rest s Accept ∙ h.long;
  below = All-set (LeadsBelow (length nodes)) rest s Accept tt h.below;
  same = λ s' u g le. moves_set_other rest s s' Accept (λ e. let same : u ≡ t = sym (num.once s' u g) ∙ ap (λ z. get_or numbers z 0) e ∙ num.once s t at in absurd (omega arith)) ∙ h.same s' u g (omega arith);
  count = let c : length made ≡ t = h.count in omega (arith, length-append made (new ∷ []));
  each = λ s' u g lt. ⊎_elim
      (λ e. moves_at_end made new u (sym e ∙ sym h.count) ∙ made_is ∙ ap (λ z. renumbered_move alive numbers z) (is ∙ h.same s t at (omega arith) ∙ ap (λ z. node_moves nodes z) (some_same s s' (sym at ∙ ap (λ z. slice_get kept z) e ∙ g))))
      (λ l. moves_before made new u (let c : length made ≡ t = h.count in omega arith) ∙ h.each s' u g l)
      (last_or_less t u lt);
}
  where
    last_or_less : (n s : ℕ) → s < n + 1 → (n ≡ s) ⊎ (s < n)
    last_or_less n s lt = grind arith

-- the numbers to which nodes lead, of all numbers in range
leads_of : (n r : ℕ) (m : MNode) → IsBelow n r m → LeadsBelow n m
leads_of n r Accept b = b
leads_of n r (Read set t) b = b
leads_of n r (Choice l k) b = b
leads_of n r (Forced x t) b = b
leads_of n r (Do e t) b = b.0
leads_of n r (Skip t) b = b

pub leads_below : (ms : List MNode) (r : ℕ) → All (IsBelow (length ms) r) ms → All (LeadsBelow (length ms)) ms
leads_below ms r h = λ k d lt. leads_of (length ms) r (get_or ms k d) (h k d lt)

-- the machine that is made
module _ (g : Graph) (range : IsMachineInRange g.start g.nodes g.registers) (alive : List Bool) (kept numbers : List ℕ) (made : List MNode) (is : AreAliveFlags g.nodes alive) (num : IsNumbering alive kept numbers) (shrunk : IsShrunk g.nodes made alive kept numbers) (starts : get_or alive g.start false ≡ true) where
  abbrev new : Graph
  new = record { start = get_or numbers g.start 0; nodes = made; stage = g.stage; registers = g.registers }

  within : (s : ℕ) → get_or alive s false ≡ true → s < length g.nodes
  within s e = subst (λ z. s < z) is.long (in_flags alive s e)
    where
      in_flags : (alive : List Bool) (s : ℕ) → get_or alive s false ≡ true → s < length alive
      in_flags [] s e = cc
      in_flags (x ∷ alive) zero e = omega arith
      in_flags (x ∷ alive) (suc s) e = let l : s < length alive = in_flags alive s e in omega arith

  at_number : (s : ℕ) → get_or alive s false ≡ true → HasNumber kept s (get_or numbers s 0)
  at_number s e = num.all s e

  keeps_at : (s t : ℕ) → HasNumber kept s t → KeepsMove (HasNumber kept) (λ q. LeadsToEnd (node_moves g.nodes) q → ⊥) (node_moves g.nodes s) (node_moves made t)
  keeps_at s t h =
      let a = num.each s t h in
      subst (λ z. KeepsMove (HasNumber kept) (λ q. LeadsToEnd (node_moves g.nodes) q → ⊥) (node_moves g.nodes s) z) (sym (shrunk.each s t h)) (kept_node g.nodes alive kept numbers is num (leads_below g.nodes g.registers range.below) s (within s a) (is.ends s a))

  pub is_trim : IsTrimOf g new
  is_trim = record {
    kept = kept;
    count = sym shrunk.count;
    each = λ s t h. let a = num.each s t h in (is.ends s a, within s a);
    all = λ s lt e. (get_or numbers s 0, at_number s (is.all s lt e));
    once = λ s t t' h h'. sym (num.once s t h) ∙ num.once s t' h';
    start = at_number g.start starts;
    keeps = keeps_at;
    stage = refl;
    registers = refl;
  }

  below_forced : {v : Move ℕ} {x : Side} {t : ℕ} {Lost : ℕ → Type 0} → KeepsMove (HasNumber kept) Lost v (forced x t) → t < length kept
  below_forced (only_left {s = s} r l) = slice_get_within kept _ s r
  below_forced (only_right {s' = s} l r) = slice_get_within kept _ s r
  below_forced (still_forced {s = s} r) = slice_get_within kept _ s r

  below_by : (m : MNode) {v : Move ℕ} {Lost : ℕ → Type 0} → KeepsMove (HasNumber kept) Lost v (move_of (Some m)) → LeadsBelow (length kept) m
  below_by Accept k = tt
  below_by (Read set n) (still_reads {s = s} r) = slice_get_within kept n s r
  below_by (Choice l r) (still_chooses {s = s} {s' = s'} a b) = (slice_get_within kept l s a, slice_get_within kept r s' b)
  below_by (Forced x n) k = below_forced k
  below_by (Do e n) (still_goes {s = s} r) = slice_get_within kept n s r
  below_by (Skip n) (still_goes {s = s} r) = slice_get_within kept n s r

  -- what a kept node does uses the registers that there are
  uses_by : (m : MNode) {e : Effect} {t : ℕ} → IsBelow (length g.nodes) g.registers m → move_of (Some m) ≡ go e t → UsesRegisters g.registers e
  uses_by Accept b e = cc
  uses_by (Read set n) b e = cc
  uses_by (Choice l r) b e = cc
  uses_by (Forced x n) b e = cc
  uses_by (Do d n) {e = e} b h = let is : effect_of d ≡ e = cc in subst (λ z. UsesRegisters g.registers z) is b.1
  uses_by (Skip n) {e = e} b h = let is : nothing ≡ e = cc in subst (λ z. UsesRegisters g.registers z) is tt

  uses_at : (s : ℕ) {e : Effect} {t : ℕ} → s < length g.nodes → node_moves g.nodes s ≡ go e t → UsesRegisters g.registers e
  uses_at s lt h = uses_by (get_or g.nodes s Accept) (All-get_or (IsBelow (length g.nodes) g.registers) g.nodes s Accept lt range.below) (sym (ap (λ z. move_of z) (slice_get-get_or g.nodes s Accept lt)) ∙ h)

  kept_effect : {v : Move ℕ} {e : Effect} {t : ℕ} {Lost : ℕ → Type 0} → KeepsMove (HasNumber kept) Lost v (go e t) → (s : ℕ) × (v ≡ go e s)
  kept_effect (still_goes {s = s} r) = (s, refl)

  all_below : (m : MNode) (s : ℕ) {Lost : ℕ → Type 0} → s < length g.nodes → KeepsMove (HasNumber kept) Lost (node_moves g.nodes s) (move_of (Some m)) → LeadsBelow (length kept) m → IsBelow (length kept) g.registers m
  all_below Accept s lt k b = b
  all_below (Read set n) s lt k b = b
  all_below (Choice l r) s lt k b = b
  all_below (Forced x n) s lt k b = b
  all_below (Do e n) s lt k b = let h = kept_effect k in (b, uses_at s lt h.1)
  all_below (Skip n) s lt k b = b

  pub in_range : IsMachineInRange (get_or numbers g.start 0) made g.registers
  in_range = record {
    start_in = subst (λ z. get_or numbers g.start 0 < z) (sym shrunk.count) (slice_get_within kept (get_or numbers g.start 0) g.start (at_number g.start starts));
    below = subst (λ z. All (IsBelow z g.registers) made) (sym shrunk.count) (All-from_get_or (IsBelow (length kept) g.registers) made Accept below_at);
    count = omega (arith, shrunk.count, num.few, is.long, range.count);
  }
    where
      below_at : (t : ℕ) → t < length made → IsBelow (length kept) g.registers (get_or made t Accept)
      below_at t lt =
          let fits : t < length kept = omega (arith, shrunk.count) in
          let s = get_or kept t 0 in
          let at = slice_get-get_or kept t 0 fits in
          let k = subst (λ z. KeepsMove (HasNumber kept) (λ q. LeadsToEnd (node_moves g.nodes) q → ⊥) (node_moves g.nodes s) (move_of z)) (slice_get-get_or made t Accept lt) (keeps_at s t at) in
          all_below (get_or made t Accept) s (within s (num.each s t at)) k (below_by (get_or made t Accept) k)

  pub is_trimmed : IsTrimmed new
  is_trimmed = trimmed_by_ends new (λ t lt.
      let fits : t < length kept = omega (arith, shrunk.count) in
      let s = get_or kept t 0 in
      let at : HasNumber kept s t = slice_get-get_or kept t 0 fits in
      let e = is.ends s (num.each s t at) in
      let x = walk_ahead (node_moves g.nodes) (node_moves made) (HasNumber kept) like e.0 s e.1 t e.2 ([], e.1, refl, e.3) at in
      (x.0, x.1, x.2, like.ends e.1 x.1 x.3 e.3))
    where
      like : Alike (node_moves g.nodes) (node_moves made) (HasNumber kept)
      like = alike_kept (node_moves g.nodes) (node_moves made) (HasNumber kept) keeps_at (λ s t t' h h'. sym (num.once s t h) ∙ num.once s t' h') (λ s s' n p q. some_same s s' (sym p ∙ q))
