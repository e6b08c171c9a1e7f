-- From where the end is reached: marks that spread against the ways.
use Rattle.std.proofs.Common.{◌≡◌, ◌≢◌, ℕ, zero, suc, ◌<◌, ◌≤◌, ◌+◌, Bool, true, false, if◌then◌else◌, List, [], ◌∷◌, ◌++◌, ◌⊎◌, inl, inr, ⊎_elim, Some, IsTrue, length, get_or, set, refl, sym, ap, subst, ◌∙◌, length-append, length-set, get_or-set_same, get_or-set_other, arith}
use Rattle.std.specs.Prelude.{All}
use Rattle.std.specs.List.{list_any}
use Rattle.std.proofs.lemmas.List.Elements.{All-get_or}
use Rattle.std.proofs.lemmas.Option.{slice_get-get_or, slice_get_cases}
use Rattle.kex_code.specs.Codes.{IsAmong}
use Rattle.kex_model.specs.Moves.{Move, accept, read, choose, forced, go, to_left, to_right, Step, took, chose, went, Allows, reads, goes_left, goes_right, goes_forced, goes, target_of, Walk}
use Rattle.kex_model.specs.Survivors.{LeadsToEnd}
use Rattle.kex_machine.specs.declared.MNode.{MNode}
use Rattle.kex_machine.specs.declared.MNode.TheVariants.{Accept, Read, Choice, Forced, Do, Skip}
use Rattle.kex_trim.specs.Ways.{LeadsBelow}
use Rattle.kex_machine.specs.Nodes.{node_moves, move_of}
use Rattle.kex_trim.specs.Ways.{successors, AddsToLists, IsReverse, unmarked_count, Marks, AreAliveFlags}
use Rattle.kex_model.proofs.Shapes.{among-append as among-cases, among_left, among_right}

pub same_or_not : (a b : ℕ) → (a ≡ b) ⊎ (b ≢ a)
same_or_not a b = grind arith

any_byte : (set : List Bool) → list_any (λ b. b) set ≡ true → (b : ℕ) × IsTrue (get_or set b false)
any_byte [] e = cc
any_byte (true ∷ set) e = (0, refl)
any_byte (false ∷ set) e = let r = any_byte set e in (suc r.0, r.1)

some_byte : (set : List Bool) (b : ℕ) → IsTrue (get_or set b false) → list_any (λ b. b) set ≡ true
some_byte [] b i = cc
some_byte (true ∷ set) b i = refl
some_byte (false ∷ set) zero i = cc
some_byte (false ∷ set) (suc b) i = some_byte set b i

-- a way is a step
pub successor_step : {S : Type 0} (v : Move S) (t : S) → IsAmong (successors v) t → (k : Step S) × Allows v k × (target_of k ≡ t)
successor_step accept t i = absurd i
successor_step (read set u) t i = by (list_any (λ b. b) set) refl i
  where
    by : (x : Bool) → list_any (λ b. b) set ≡ x → IsAmong (if x then u ∷ [] else []) t → (k : Step _) × Allows (read set u) k × (target_of k ≡ t)
    by true e (inl same) = let b = any_byte set e in (took b.0 u, reads b.1, same)
    by true e (inr i) = absurd i
    by false e i = absurd i
successor_step (choose l r) t (inl e) = (chose to_left l, goes_left, e)
successor_step (choose l r) t (inr (inl e)) = (chose to_right r, goes_right, e)
successor_step (choose l r) t (inr (inr i)) = absurd i
successor_step (forced x u) t (inl e) = (chose x u, goes_forced, e)
successor_step (forced x u) t (inr i) = absurd i
successor_step (go e u) t (inl same) = (went e u, goes, same)
successor_step (go e u) t (inr i) = absurd i

pub is_successor : {S : Type 0} {v : Move S} {k : Step S} → Allows v k → IsAmong (successors v) (target_of k)
is_successor (reads {set = set} {b = b} {s = s} i) = subst (λ z. IsAmong (if z then s ∷ [] else []) s) (sym (some_byte set b i)) (inl refl)
is_successor goes_left = inl refl
is_successor goes_right = inr (inl refl)
is_successor goes_forced = inl refl
is_successor goes = inl refl

successor_in : (k : ℕ) (m : MNode) (t : ℕ) → LeadsBelow k m → IsAmong (successors (move_of (Some m))) t → t < k
successor_in k Accept t b i = absurd i
successor_in k (Read set n) t b i = by (list_any (λ b. b) set) i
  where
    by : (x : Bool) → IsAmong (if x then n ∷ [] else []) t → t < k
    by true (inl e) = subst (λ z. z < k) e b
    by true (inr i) = absurd i
    by false i = absurd i
successor_in k (Choice l r) t b (inl e) = subst (λ z. z < k) e b.0
successor_in k (Choice l r) t b (inr (inl e)) = subst (λ z. z < k) e b.1
successor_in k (Choice l r) t b (inr (inr i)) = absurd i
successor_in k (Forced x n) t b (inl e) = subst (λ z. z < k) e b
successor_in k (Forced x n) t b (inr i) = absurd i
successor_in k (Do x n) t b (inl e) = subst (λ z. z < k) e b
successor_in k (Do x n) t b (inr i) = absurd i
successor_in k (Skip n) t b (inl e) = subst (λ z. z < k) e b
successor_in k (Skip n) t b (inr i) = absurd i

pub successor_below : (nodes : List MNode) → All (LeadsBelow (length nodes)) nodes → (n : ℕ) → n < length nodes → (t : ℕ) → IsAmong (successors (node_moves nodes n)) t → t < length nodes
successor_below nodes all n lt t i = successor_in (length nodes) (get_or nodes n Accept) t (All-get_or (LeadsBelow (length nodes)) nodes n Accept lt all) (subst (λ z. IsAmong (successors (move_of z)) t) (slice_get-get_or nodes n Accept lt) i)

-- one list gets one more
pub adds_one : (old : List (List ℕ)) (t s : ℕ) → t < length old → AddsToLists (t ∷ []) s old (set old t (get_or old t [] ++ s ∷ []))
adds_one old t s lt = record {
  long = length-set old t longer;
  kept = λ u x i. ⊎_elim (λ e. subst (λ z. IsAmong z x) (sym (at u e)) (among_left (get_or old t []) (s ∷ []) x (subst (λ z. IsAmong (get_or old z []) x) (sym e) i))) (λ ne. subst (λ z. IsAmong z x) (sym (get_or-set_other old t u longer [] ne)) i) (same_or_not t u);
  added = λ u i. ⊎_elim (λ e. subst (λ z. IsAmong z s) (sym (at u e)) (among_right (get_or old t []) (s ∷ []) s (inl refl))) (λ x. absurd x) i;
  only = λ u x i. ⊎_elim (λ e. ⊎_elim (λ j. inl (subst (λ z. IsAmong (get_or old z []) x) e j)) (λ j. ⊎_elim (λ f. inr (inl e, f)) (λ y. absurd y) j) (among-cases (get_or old t []) (s ∷ []) x (subst (λ z. IsAmong z x) (at u e) i))) (λ ne. inl (subst (λ z. IsAmong z x) (get_or-set_other old t u longer [] ne) i)) (same_or_not t u);
}
  where
    longer : List ℕ
    longer = get_or old t [] ++ s ∷ []

    at : (u : ℕ) → t ≡ u → get_or (set old t longer) u [] ≡ longer
    at u e = ap (λ z. get_or (set old t longer) z []) (sym e) ∙ get_or-set_same old t longer [] lt

pub adds_both : (ts us : List ℕ) (s : ℕ) (old mid new : List (List ℕ)) → AddsToLists ts s old mid → AddsToLists us s mid new → AddsToLists (ts ++ us) s old new
adds_both ts us s old mid new a b = record {
  long = b.long ∙ a.long;
  kept = λ t x i. b.kept t x (a.kept t x i);
  added = λ t i. ⊎_elim (λ j. b.kept t s (a.added t j)) (λ j. b.added t j) (among-cases ts us t i);
  only = λ t x i. ⊎_elim (λ j. ⊎_elim (λ k. inl k) (λ k. inr (among_left ts us t k.0, k.1)) (a.only t x j)) (λ j. inr (among_right ts us t j.0, j.1)) (b.only t x i);
}

-- what leads where, of the first n nodes
pub record Reversed (nodes : List MNode) (n : ℕ) (into : List (List ℕ)) : Type 0 where
  pub long : length into ≡ length nodes
  pub real : (t s : ℕ) → IsAmong (get_or into t []) s → IsAmong (successors (node_moves nodes s)) t
  pub all : (t s : ℕ) → s < n → IsAmong (successors (node_moves nodes s)) t → IsAmong (get_or into t []) s

-- past the last node there is no way
no_successor : (nodes : List MNode) (s t : ℕ) → length nodes ≤ s → IsAmong (successors (node_moves nodes s)) t → ⊥
no_successor nodes s t le i = ⊎_elim (λ h. let lt : s < length nodes = h.1 in absurd (omega arith)) (λ h. subst (λ z. IsAmong (successors (move_of z)) t) h.1 i) (slice_get_cases nodes s).1

unmarked-set : (xs : List Bool) (n : ℕ) → n < length xs → get_or xs n false ≡ false → unmarked_count xs ≡ suc (unmarked_count (set xs n true))
unmarked-set [] n lt e = absurd (omega arith)
unmarked-set (true ∷ xs) zero lt e = cc
unmarked-set (false ∷ xs) zero lt e = refl
unmarked-set (true ∷ xs) (suc n) lt e = unmarked-set xs n (omega arith) e
unmarked-set (false ∷ xs) (suc n) lt e = ap suc (unmarked-set xs n (omega arith) e)

pub flag_read : (xs : List Bool) (n : ℕ) (d e : Bool) → n < length xs → get_or xs n d ≡ get_or xs n e
flag_read [] n d e lt = absurd (omega arith)
flag_read (x ∷ xs) zero d e lt = refl
flag_read (x ∷ xs) (suc n) d e lt = flag_read xs n d e (omega arith)

pub marks_one : (old : List Bool) (stack : List ℕ) (n : ℕ) → n < length old → get_or old n false ≡ false → Marks (n ∷ []) old stack (set old n true) (stack ++ n ∷ [])
marks_one old stack n lt e = record {
  long = length-set old n true;
  kept = λ m h. ⊎_elim (λ q. at m q) (λ ne. get_or-set_other old n m true false ne ∙ h) (same_or_not n m);
  marked = λ m i. ⊎_elim (λ q. at m q) (λ x. absurd x) i;
  only = λ m h. ⊎_elim (λ q. inr (inl q)) (λ ne. inl (sym (get_or-set_other old n m true false ne) ∙ h)) (same_or_not n m);
  stacked = λ m h. ⊎_elim (λ q. inr (among_right stack (n ∷ []) m (inl q))) (λ ne. inl (sym (get_or-set_other old n m true false ne) ∙ h)) (same_or_not n m);
  still = λ m i. among_left stack (n ∷ []) m i;
  from = λ m i. among-cases stack (n ∷ []) m i;
  sum = omega (arith, unmarked-set old n lt e, length-append stack (n ∷ []));
}
  where
    at : (m : ℕ) → n ≡ m → get_or (set old n true) m false ≡ true
    at m q = ap (λ z. get_or (set old n true) z false) (sym q) ∙ get_or-set_same old n true false lt

pub marks_both : (xs ys : List ℕ) (old mid new : List Bool) (s s' s'' : List ℕ) → Marks xs old s mid s' → Marks ys mid s' new s'' → Marks (xs ++ ys) old s new s''
marks_both xs ys old mid new s s' s'' a b = record {
  long = b.long ∙ a.long;
  kept = λ n e. b.kept n (a.kept n e);
  marked = λ n i. ⊎_elim (λ j. b.kept n (a.marked n j)) (λ j. b.marked n j) (among-cases xs ys n i);
  only = λ n e. ⊎_elim (λ h. ⊎_elim (λ k. inl k) (λ k. inr (among_left xs ys n k)) (a.only n h)) (λ h. inr (among_right xs ys n h)) (b.only n e);
  stacked = λ n e. ⊎_elim (λ h. ⊎_elim (λ k. inl k) (λ k. inr (b.still n k)) (a.stacked n h)) (λ h. inr h) (b.stacked n e);
  still = λ n i. b.still n (a.still n i);
  from = λ n i. ⊎_elim (λ h. ⊎_elim (λ k. inl k) (λ k. inr (among_left xs ys n k)) (a.from n h)) (λ h. inr (among_right xs ys n h)) (b.from n i);
  sum = b.sum ∙ a.sum;
}

module _ (nodes : List MNode) where
  abbrev f : ℕ → Move ℕ
  f n = node_moves nodes n

  -- the marks while the ends among the first n nodes are looked for
  pub record Ends (n : ℕ) (alive : List Bool) (stack : List ℕ) : Type 0 where
    pub long : length alive ≡ length nodes
    pub real : (m : ℕ) → get_or alive m false ≡ true → f m ≡ accept
    pub all : (m : ℕ) → m < n → f m ≡ accept → get_or alive m false ≡ true
    pub stacked : (m : ℕ) → get_or alive m false ≡ true → IsAmong stack m
    pub below : (m : ℕ) → IsAmong stack m → m < length nodes
    pub marked : (m : ℕ) → IsAmong stack m → get_or alive m false ≡ true

  -- the marks while they spread
  pub record Spread (alive : List Bool) (stack : List ℕ) : Type 0 where
    pub long : length alive ≡ length nodes
    pub ends : (n : ℕ) → get_or alive n false ≡ true → LeadsToEnd f n
    pub accepts : (n : ℕ) → n < length nodes → f n ≡ accept → get_or alive n false ≡ true
    pub closed : (n : ℕ) → get_or alive n false ≡ true → IsAmong stack n ⊎ ((s : ℕ) → IsAmong (successors (f s)) n → get_or alive s false ≡ true)
    pub below : (n : ℕ) → IsAmong stack n → n < length nodes
    pub marked : (n : ℕ) → IsAmong stack n → get_or alive n false ≡ true

  leads_on : (s t : ℕ) → IsAmong (successors (f s)) t → LeadsToEnd f t → LeadsToEnd f s
  leads_on s t i (ks, e, w, a) =
      let k = successor_step (f s) t i in
      (k.0 ∷ ks, e, (k.1, subst (λ z. Walk f z ks e) (sym k.2) w), a)

  pub spread_more : (into : List (List ℕ)) (old new : List Bool) (s s' : List ℕ) (n : ℕ) → IsReverse nodes into → Spread old (s ++ n ∷ []) → Marks (get_or into n []) old s new s' → Spread new s'
  spread_more into old new s s' n r h k = record {
    long = k.long ∙ h.long;
    ends = λ m q. ⊎_elim (λ e. h.ends m e) (λ i. leads_on m n (r.real n m i) (h.ends n top)) (k.only m q);
    accepts = λ m lt e. k.kept m (h.accepts m lt e);
    closed = λ m q. ⊎_elim
        (λ e. ⊎_elim
        (λ i. ⊎_elim (λ j. inl (k.still m j)) (λ j. ⊎_elim (λ same. inr (λ x w. k.marked x (r.all n x (h.below n at_top) (subst (λ z. IsAmong (successors (f x)) z) (sym same) w)))) (λ y. absurd y) j) (among-cases s (n ∷ []) m i))
        (λ all. inr (λ x w. k.kept x (all x w)))
        (h.closed m e))
        (λ i. inl i)
        (k.stacked m q);
    below = λ m i. ⊎_elim (λ j. h.below m (among_left s (n ∷ []) m j)) (λ j. source_below m j) (k.from m i);
    marked = λ m i. ⊎_elim (λ j. k.kept m (h.marked m (among_left s (n ∷ []) m j))) (λ j. k.marked m j) (k.from m i);
  }
    where
      at_top : IsAmong (s ++ n ∷ []) n
      at_top = among_right s (n ∷ []) n (inl refl)

      top : get_or old n false ≡ true
      top = h.marked n at_top

      source_below : (m : ℕ) → IsAmong (get_or into n []) m → m < length nodes
      source_below m i = ⊎_elim (λ l. l) (λ l. absurd (no_successor nodes m n l (r.real n m i))) (less_or_not m (length nodes))
        where
          less_or_not : (a b : ℕ) → (a < b) ⊎ (b ≤ a)
          less_or_not a b = grind arith

  -- sources are in range
  pub sources_below : (into : List (List ℕ)) → IsReverse nodes into → (n m : ℕ) → IsAmong (get_or into n []) m → m < length nodes
  sources_below into r n m i = ⊎_elim (λ l. l) (λ l. absurd (no_successor nodes m n l (r.real n m i))) (less_or_not m (length nodes))
    where
      less_or_not : (a b : ℕ) → (a < b) ⊎ (b ≤ a)
      less_or_not a b = grind arith

  pub spread_end : All (LeadsBelow (length nodes)) nodes → (alive : List Bool) → Spread alive [] → AreAliveFlags nodes alive
  spread_end range alive h = record { long = h.long; ends = h.ends; all = λ n lt l. back l.0 n l.1 lt l.2 l.3 }
    where
      back : (ks : List (Step ℕ)) (n e : ℕ) → n < length nodes → Walk f n ks e → f e ≡ accept → get_or alive n false ≡ true
      back [] n e lt w a = h.accepts n lt (ap f w ∙ a)
      back (k ∷ ks) n e lt w a =
          let way = is_successor w.0 in
          let next : get_or alive (target_of k) false ≡ true = back ks (target_of k) e (successor_below nodes range n lt (target_of k) way) w.1 a in
          ⊎_elim (λ i. absurd i) (λ all. all n way) (h.closed (target_of k) next)

pub read_any : {A : Type 0} (xs : List A) (n : ℕ) (d e : A) → n < length xs → get_or xs n d ≡ get_or xs n e
read_any [] n d e lt = absurd (omega arith)
read_any (x ∷ xs) zero d e lt = refl
read_any (x ∷ xs) (suc n) d e lt = read_any xs n d e (omega arith)

pub among_at : (xs : List ℕ) (i : ℕ) → i < length xs → IsAmong xs (get_or xs i 0)
among_at [] i lt = absurd (omega arith)
among_at (x ∷ xs) zero lt = inl refl
among_at (x ∷ xs) (suc i) lt = inr (among_at xs i (omega arith))
