-- What a visit finds: each waiting place that is reached and wasn't marked, once, with its least code.
use Rattle.std.proofs.Common.{◌≡◌, ◌≢◌, ℕ, ◌<◌, Bool, true, false, List, [], ◌∷◌, ◌++◌, ◌⊎◌, inl, inr, ⊎_elim, Option, length, get_or, set, refl, sym, ap, ap₂, subst, ◌∙◌, append_assoc, append-nil, get_or-set_other, get_or-set_same, arith}
use Rattle.kex_code.specs.declared.symbol.Symbol.{Symbol}
use Rattle.kex_code.specs.declared.symbol.Symbol.TheVariants.{L, R}
use Rattle.kex_code.specs.Codes.{AtMost, bytes_of, IsAmong}
use Rattle.kex_model.specs.Moves.{Move, choose, forced, go, Step, Side, to_left, to_right, symbol_of, took, chose, went, Allows, goes_left, goes_right, goes_forced, goes, target_of, symbols_of, code_of, Walk, Waits, IsWaiting}
use Rattle.kex_model.specs.Labelled.{Leaf, Grown, leaves_if, fork_of, with_prefix}
use Rattle.kex_model.proofs.Shapes.{among-append, among_left, among_right, joined_leaves, behind_leaves}
use Rattle.kex_model.specs.Survivors.{NoReturn}
use Rattle.kex_model.proofs.Walks.{waits_for_byte, bytes_of-append}
use Rattle.kex_model.proofs.LeftBehind.{silent_front, stays_in, Avoids}
use Rattle.kex_machine.specs.Advancing.{itself, Visits, known, stops, parts_off, is_forced, passes_on}

pub sides : {A S : Type 0} (x y : List A) (a b : Option (Grown A S)) (c : List A) → leaves_if (fork_of (with_prefix x a) (with_prefix y b)) c ≡ leaves_if a (c ++ x) ++ leaves_if b (c ++ y)
sides x y a b c = joined_leaves (with_prefix x a) (with_prefix y b) c ∙ ap₂ (λ p q. p ++ q) (behind_leaves x a c) (behind_leaves y b c)

pub in_sides : {A S : Type 0} (x y : List A) (a b : Option (Grown A S)) (c : List A) (z : Leaf A S) → IsAmong (leaves_if (fork_of (with_prefix x a) (with_prefix y b)) c) z → IsAmong (leaves_if a (c ++ x)) z ⊎ IsAmong (leaves_if b (c ++ y)) z
in_sides x y a b c z i = among-append (leaves_if a (c ++ x)) (leaves_if b (c ++ y)) z (subst (λ u. IsAmong u z) (sides x y a b c) i)

pub from_left : {A S : Type 0} (x y : List A) (a b : Option (Grown A S)) (c : List A) (z : Leaf A S) → IsAmong (leaves_if a (c ++ x)) z → IsAmong (leaves_if (fork_of (with_prefix x a) (with_prefix y b)) c) z
from_left x y a b c z i = subst (λ u. IsAmong u z) (sym (sides x y a b c)) (among_left (leaves_if a (c ++ x)) (leaves_if b (c ++ y)) z i)

pub from_right : {A S : Type 0} (x y : List A) (a b : Option (Grown A S)) (c : List A) (z : Leaf A S) → IsAmong (leaves_if b (c ++ y)) z → IsAmong (leaves_if (fork_of (with_prefix x a) (with_prefix y b)) c) z
from_right x y a b c z i = subst (λ u. IsAmong u z) (sym (sides x y a b c)) (among_right (leaves_if a (c ++ x)) (leaves_if b (c ++ y)) z i)

abbrev pub Marked : List Bool → ℕ → Type 0
Marked f n = get_or f n false ≡ true

same_or_not : (a b : ℕ) → (a ≡ b) ⊎ (b ≢ a)
same_or_not a b = grind arith

pub marked_set : (f : List Bool) (n m : ℕ) → Marked (set f n true) m → (n ≡ m) ⊎ Marked f m
marked_set f n m h = ⊎_elim (λ e. inl e) (λ ne. inr (sym (get_or-set_other f n m true false ne) ∙ h)) (same_or_not n m)

pub set_marked : (f : List Bool) (n m : ℕ) → n < length f → Marked f m → Marked (set f n true) m
set_marked f n m lt h = ⊎_elim (λ e. subst (λ z. Marked (set f n true) z) e (get_or-set_same f n true false lt)) (λ ne. get_or-set_other f n m true false ne ∙ h) (same_or_not n m)

pub at_most_cons : (s : Symbol) (c d : List Symbol) → AtMost c d → AtMost (s ∷ c) (s ∷ d)
at_most_cons s c d h = ⊎_elim (λ e. inl (ap (λ z. s ∷ z) e)) (λ b. inr (s ∷ b.0, b.1, b.2, ap (λ z. s ∷ z) b.3, ap (λ z. s ∷ z) b.4)) h

pub at_most_behind : (a c d : List Symbol) → AtMost c d → AtMost (a ++ c) (a ++ d)
at_most_behind [] c d h = h
at_most_behind (s ∷ a) c d h = at_most_cons s (a ++ c) (a ++ d) (at_most_behind a c d h)

module _ (moves : ℕ → Move ℕ) where
  -- a walk without a byte
  abbrev pub Quiet : ℕ → List (Step ℕ) → ℕ → Type 0
  Quiet n ks p = Walk moves n ks p × (bytes_of (code_of ks) ≡ [])

  -- each place that is marked, and isn't one of those that are begun, leads without a byte to places that are marked
  abbrev pub Closed : List ℕ → List Bool → Type 0
  Closed begun f = (m : ℕ) (k : Step ℕ) → Marked f m → (IsAmong begun m → ⊥) → Allows (moves m) k → bytes_of (symbols_of k) ≡ [] → Marked f (target_of k)

  abbrev pub AllMarked : List ℕ → List Bool → Type 0
  AllMarked begun f = (m : ℕ) → IsAmong begun m → Marked f m

  -- the leaf is where a walk from n leads, and its code is c and then the walk's
  abbrev pub IsLeafBy : ℕ → List Symbol → Leaf Symbol ℕ → List (Step ℕ) → Type 0
  IsLeafBy n c x js = Quiet n js x.at × (x.code ≡ c ++ code_of js)

  -- a place was marked, or is at a leaf with a code that is at most this
  abbrev pub Reached : List Bool → ℕ → Option (Grown Symbol ℕ) → List Symbol → List (Step ℕ) → ℕ → Type 0
  Reached f n a c ks p = Marked f p ⊎ ((x : Leaf Symbol ℕ) × IsAmong (leaves_if a c) x × (x.at ≡ p) × ((js : List (Step ℕ)) × IsLeafBy n c x js × AtMost (code_of js) (code_of ks)))

  -- a visit of n, while the visits of these places are begun and not ended: a leaf has a walk that enters none of them and no place
  -- twice, and the least code of all such walks
  pub record Visited (begun : List ℕ) (f : List Bool) (n : ℕ) (a : Option (Grown Symbol ℕ)) (g : List Bool) : Type 0 where
    pub grows : (m : ℕ) → Marked f m → Marked g m
    pub here : Marked g n
    pub closed : Closed begun g
    pub leaf : (c : List Symbol) (x : Leaf Symbol ℕ) → IsAmong (leaves_if a c) x → (js : List (Step ℕ)) × IsLeafBy n c x js × Waits moves x.at × (Marked f x.at → ⊥) × Marked g x.at × (Marked f n → ⊥) × NoReturn (n ∷ begun) js
    pub found : (c : List Symbol) (p : ℕ) → Waits moves p → Marked g p → Marked f p ⊎ ((x : Leaf Symbol ℕ) × IsAmong (leaves_if a c) x × (x.at ≡ p))
    pub all : (c : List Symbol) (ks : List (Step ℕ)) (p : ℕ) → (IsAmong begun n → ⊥) → NoReturn (n ∷ begun) ks → Quiet n ks p → Waits moves p → Reached f n a c ks p
    pub single : (c : List Symbol) (x y : Leaf Symbol ℕ) → IsAmong (leaves_if a c) x → IsAmong (leaves_if a c) y → x.at ≡ y.at → x ≡ y

  -- from a waiting place no step leads without a byte
  stays : (n : ℕ) (ks : List (Step ℕ)) (p : ℕ) → Waits moves n → Quiet n ks p → ks ≡ []
  stays n [] p w q = refl
  stays n (k ∷ ks) p w q = absurd (waits_for_byte (code_of ks) w q.0.0 q.1)

  -- a step to the side, and then more
  one_more : (n : ℕ) (k : Step ℕ) (c : List Symbol) (x : Leaf Symbol ℕ) (js : List (Step ℕ)) → Allows (moves n) k → bytes_of (symbols_of k) ≡ [] → IsLeafBy (target_of k) (c ++ symbols_of k) x js → IsLeafBy n c x (k ∷ js)
  one_more n k c x js a q h = (((a, h.0.0), bytes_of-append (symbols_of k) (code_of js) ∙ ap₂ (λ u v. u ++ v) q h.0.1), h.1 ∙ append_assoc c (symbols_of k) (code_of js))

  -- a step without a byte enters a place
  once_more : (k : Step ℕ) (seen : List ℕ) (js : List (Step ℕ)) → bytes_of (symbols_of k) ≡ [] → (IsAmong seen (target_of k) → ⊥) → NoReturn (target_of k ∷ seen) js → NoReturn seen (k ∷ js)
  once_more (took b t) seen js q n o = cc
  once_more (chose x t) seen js q n o = (n, o)
  once_more (went e t) seen js q n o = (n, o)

  once_less : (k : Step ℕ) (seen : List ℕ) (js : List (Step ℕ)) → bytes_of (symbols_of k) ≡ [] → NoReturn seen (k ∷ js) → (IsAmong seen (target_of k) → ⊥) × NoReturn (target_of k ∷ seen) js
  once_less (took b t) seen js q n = cc
  once_less (chose x t) seen js q n = (n.0, n.1)
  once_less (went e t) seen js q n = (n.0, n.1)

  among_or_not : (xs : List ℕ) (x : ℕ) → IsAmong xs x ⊎ (IsAmong xs x → ⊥)
  among_or_not [] x = inr (λ h. h)
  among_or_not (y ∷ xs) x = ⊎_elim (λ e. inl (inl e)) (λ ne. ⊎_elim (λ i. inl (inr i)) (λ out. inr (λ h. ⊎_elim (λ e. ne (sym e)) out h)) (among_or_not xs x)) (same_or_not y x)

  -- where a place is marked and its visit has ended, all that is reached from there without a byte, past no visit that is begun, is marked
  kept_in : (begun : List ℕ) (f : List Bool) → Closed begun f → (seen : List ℕ) (ks : List (Step ℕ)) (n p : ℕ) → Marked f n → (IsAmong begun n → ⊥) → ((q : ℕ) → IsAmong begun q → IsAmong seen q) → NoReturn seen ks → Quiet n ks p → Marked f p
  kept_in begun f closed seen ks n p here out inside once q = (stays_in moves V (λ m. IsAmong begun m) leads ks n p (here, out) q.0 q.1 (avoids ks seen inside once q.1)).0
    where
      V : ℕ → Type 0
      V m = Marked f m × (IsAmong begun m → ⊥)

      leads : (s : ℕ) (k : Step ℕ) → V s → Allows (moves s) k → bytes_of (symbols_of k) ≡ [] → V (target_of k) ⊎ IsAmong begun (target_of k)
      leads s k v a e = ⊎_elim (λ i. inr i) (λ out. inl (closed s k v.0 v.1 a e, out)) (among_or_not begun (target_of k))

      avoids : (ks : List (Step ℕ)) (seen : List ℕ) → ((q : ℕ) → IsAmong begun q → IsAmong seen q) → NoReturn seen ks → bytes_of (code_of ks) ≡ [] → Avoids moves V (λ m. IsAmong begun m) leads ks
      avoids [] seen h n e = tt
      avoids (k ∷ ks) seen h n e =
          let quiet = silent_front (symbols_of k) (code_of ks) e in
          let o = once_less k seen ks quiet.0 n in
          ((λ i. o.0 (h (target_of k) i)), avoids ks (target_of k ∷ seen) (λ q i. inr (h q i)) o.1 quiet.1)

  -- the visit of n is begun
  begin_closed : (begun : List ℕ) (f : List Bool) (n : ℕ) → n < length f → Closed begun f → Closed (n ∷ begun) (set f n true)
  begin_closed begun f n lt closed m k h out a q = ⊎_elim (λ e. absurd (out (inl e))) (λ i. set_marked f n (target_of k) lt (closed m k i (λ j. out (inr j)) a q)) (marked_set f n m h)

  begin_marked : (begun : List ℕ) (f : List Bool) (n : ℕ) → n < length f → AllMarked begun f → AllMarked (n ∷ begun) (set f n true)
  begin_marked begun f n lt all m i = ⊎_elim (λ e. subst (λ z. Marked (set f n true) z) e (get_or-set_same f n true false lt)) (λ j. set_marked f n m lt (all m j)) i

  -- and ended, where all that it leads to is marked
  end_closed : (begun : List ℕ) (g : List Bool) (n : ℕ) → Closed (n ∷ begun) g → ((k : Step ℕ) → Allows (moves n) k → bytes_of (symbols_of k) ≡ [] → Marked g (target_of k)) → Closed begun g
  end_closed begun g n closed ways m k h out a q =
      ⊎_elim
      (λ e. ways k (subst (λ z. Allows (moves z) k) (sym e) a) q)
      (λ ne. closed m k h (λ i. ⊎_elim (λ e. ne (sym e)) out i) a q)
      (same_or_not n m)

  -- where a leaf was found, the place that was visited isn't one of those that are begun
  not_begun : (begun : List ℕ) (f : List Bool) (n : ℕ) → AllMarked begun f → (Marked f n → ⊥) → IsAmong begun n → ⊥
  not_begun begun f n all new i = new (all n i)

  not_marked : (f : List Bool) (n : ℕ) → get_or f n false ≡ false → Marked f n → ⊥
  not_marked f n e h = let bad : true ≡ false = sym h ∙ e in cc

  -- a place from which just one step leads on, without a byte
  one_way : (begun : List ℕ) (f g : List Bool) (n : ℕ) (k : Step ℕ) (a b : Option (Grown Symbol ℕ)) → n < length f → get_or f n false ≡ false → (Waits moves n → ⊥) → Allows (moves n) k → ((j : Step ℕ) → Allows (moves n) j → j ≡ k) → bytes_of (symbols_of k) ≡ [] → ((c : List Symbol) → leaves_if b c ≡ leaves_if a (c ++ symbols_of k)) → AllMarked begun f → Visited (n ∷ begun) (set f n true) (target_of k) a g → Visited begun f n b g
  one_way begun f g n k a b lt fresh busy allowed only quiet same all v = record {
    grows = λ m h. v.grows m (set_marked f n m lt h);
    here = v.grows n (get_or-set_same f n true false lt);
    closed = end_closed begun g n v.closed (λ j al q. subst (λ z. Marked g (target_of z)) (sym (only j al)) v.here);
    leaf = λ c x i.
        let r = v.leaf (c ++ symbols_of k) x (subst (λ u. IsAmong u x) (same c) i) in
        (k ∷ r.0, one_more n k c x r.0 allowed quiet r.1, r.2, (λ h. r.3 (set_marked f n x.at lt h)), r.4, not_marked f n fresh, once_more k (n ∷ begun) r.0 quiet (not_begun (n ∷ begun) (set f n true) (target_of k) (begin_marked begun f n lt all) r.5) r.6);
    found = λ c p w h.
        ⊎_elim (λ i. before p w i) (λ r. inr (r.0, subst (λ u. IsAmong u r.0) (sym (same c)) r.1, r.2)) (v.found (c ++ symbols_of k) p w h);
    all = λ c ks p out once q w. reach c ks p out once q w;
    single = λ c x y i j e. v.single (c ++ symbols_of k) x y (subst (λ u. IsAmong u x) (same c) i) (subst (λ u. IsAmong u y) (same c) j) e;
  }
    where
      before : {X : Type 0} (p : ℕ) → Waits moves p → Marked (set f n true) p → Marked f p ⊎ X
      before p w h = ⊎_elim (λ e. absurd (busy (subst (λ z. Waits moves z) (sym e) w))) (λ i. inl i) (marked_set f n p h)

      reach : (c : List Symbol) (ks : List (Step ℕ)) (p : ℕ) → (IsAmong begun n → ⊥) → NoReturn (n ∷ begun) ks → Quiet n ks p → Waits moves p → Reached f n b c ks p
      reach c [] p out once q w = absurd (busy (subst (λ z. Waits moves z) (sym q.0) w))
      reach c (j ∷ ks) p out once q w =
          let e : j ≡ k = only j q.0.0 in
          let o = once_less k (n ∷ begun) ks quiet (subst (λ z. NoReturn (n ∷ begun) (z ∷ ks)) e once) in
          ⊎_elim (λ i. before p w i) (λ r. inr (r.0, subst (λ u. IsAmong u r.0) (sym (same c)) r.1, r.2, (k ∷ r.3.0, one_more n k c r.0 r.3.0 allowed quiet r.3.1, subst (λ z. AtMost (code_of (k ∷ r.3.0)) (code_of (z ∷ ks))) (sym e) (at_most_behind (symbols_of k) (code_of r.3.0) (code_of ks) r.3.2))))
          (v.all (c ++ symbols_of k) ks p o.0 o.1 (subst (λ z. Walk moves (target_of z) ks p) e q.0.1, (silent_front (symbols_of j) (code_of ks) q.1).1) w)

  -- where a choice leads
  two_ways : (begun : List ℕ) (f g h : List Bool) (n l r : ℕ) (a b : Option (Grown Symbol ℕ)) → n < length f → get_or f n false ≡ false → moves n ≡ choose l r → AllMarked begun f → Visited (n ∷ begun) (set f n true) l a g → Visited (n ∷ begun) g r b h → Visited begun f n (fork_of (with_prefix (L ∷ []) a) (with_prefix (R ∷ []) b)) h
  two_ways begun f g h n l r a b lt fresh mv all vl vr = record {
    grows = λ m i. vr.grows m (vl.grows m (set_marked f n m lt i));
    here = vr.grows n (vl.grows n (get_or-set_same f n true false lt));
    closed = end_closed begun h n vr.closed (λ k al q. ⊎_elim (λ e. subst (λ z. Marked h (target_of z)) (sym e) (vr.grows l vl.here)) (λ e. subst (λ z. Marked h (target_of z)) (sym e) vr.here) (by_step k mv al));
    leaf = λ c x i.
        ⊎_elim
        (λ i.
        let s = vl.leaf (c ++ L ∷ []) x i in
        (chose to_left l ∷ s.0, one_more n (chose to_left l) c x s.0 go_left refl s.1, s.2, (λ i. s.3 (set_marked f n x.at lt i)), vr.grows x.at s.4, not_marked f n fresh, (not_begun (n ∷ begun) (set f n true) l marked s.5, s.6)))
        (λ i.
        let s = vr.leaf (c ++ R ∷ []) x i in
        (chose to_right r ∷ s.0, one_more n (chose to_right r) c x s.0 go_right refl s.1, s.2, (λ i. s.3 (vl.grows x.at (set_marked f n x.at lt i))), s.4, not_marked f n fresh, (not_begun (n ∷ begun) g r (λ m i. vl.grows m (marked m i)) s.5, s.6)))
        (in_sides (L ∷ []) (R ∷ []) a b c x i);
    found = λ c p w i.
        ⊎_elim
        (λ i. ⊎_elim (λ i. before p w i) (λ s. inr (s.0, from_left (L ∷ []) (R ∷ []) a b c s.0 s.1, s.2)) (vl.found (c ++ L ∷ []) p w i))
        (λ s. inr (s.0, from_right (L ∷ []) (R ∷ []) a b c s.0 s.1, s.2))
        (vr.found (c ++ R ∷ []) p w i);
    all = λ c ks p out once q w. reach c ks p out once q w;
    single = λ c x y i j e.
        ⊎_elim
        (λ i.
        ⊎_elim (λ j. vl.single (c ++ L ∷ []) x y i j e) (λ j. absurd ((vr.leaf (c ++ R ∷ []) y j).3 (subst (λ z. Marked g z) e (vl.leaf (c ++ L ∷ []) x i).4))) (in_sides (L ∷ []) (R ∷ []) a b c y j))
        (λ i.
        ⊎_elim (λ j. absurd ((vr.leaf (c ++ R ∷ []) x i).3 (subst (λ z. Marked g z) (sym e) (vl.leaf (c ++ L ∷ []) y j).4))) (λ j. vr.single (c ++ R ∷ []) x y i j e) (in_sides (L ∷ []) (R ∷ []) a b c y j))
        (in_sides (L ∷ []) (R ∷ []) a b c x i);
  }
    where
      go_left : Allows (moves n) (chose to_left l)
      go_left = subst (λ m. Allows m (chose to_left l)) (sym mv) goes_left

      go_right : Allows (moves n) (chose to_right r)
      go_right = subst (λ m. Allows m (chose to_right r)) (sym mv) goes_right

      busy : Waits moves n → ⊥
      busy w = subst (λ m. IsWaiting m) mv w

      marked : AllMarked (n ∷ begun) (set f n true)
      marked = begin_marked begun f n lt all

      before : {X : Type 0} (p : ℕ) → Waits moves p → Marked (set f n true) p → Marked f p ⊎ X
      before p w i = ⊎_elim (λ e. absurd (busy (subst (λ z. Waits moves z) (sym e) w))) (λ i. inl i) (marked_set f n p i)

      by_left : (c : List Symbol) (ks : List (Step ℕ)) (p : ℕ) → (IsAmong (n ∷ begun) l → ⊥) → NoReturn (l ∷ n ∷ begun) ks → Quiet l ks p → Waits moves p → Reached f n (fork_of (with_prefix (L ∷ []) a) (with_prefix (R ∷ []) b)) c (chose to_left l ∷ ks) p
      by_left c ks p out once q w =
          ⊎_elim (λ i. before p w i)
          (λ s. inr (s.0, from_left (L ∷ []) (R ∷ []) a b c s.0 s.1, s.2, (chose to_left l ∷ s.3.0, one_more n (chose to_left l) c s.0 s.3.0 go_left refl s.3.1, at_most_cons L (code_of s.3.0) (code_of ks) s.3.2)))
          (vl.all (c ++ L ∷ []) ks p out once q w)

      by_right : (c : List Symbol) (ks : List (Step ℕ)) (p : ℕ) → (IsAmong (n ∷ begun) r → ⊥) → NoReturn (r ∷ n ∷ begun) ks → Quiet r ks p → Waits moves p → Reached f n (fork_of (with_prefix (L ∷ []) a) (with_prefix (R ∷ []) b)) c (chose to_right r ∷ ks) p
      by_right c ks p out once q w =
          ⊎_elim
          (λ i. ⊎_elim (λ i. before p w i)
          (λ s.
          let t = vl.leaf (c ++ L ∷ []) s.0 s.1 in
          inr (s.0, from_left (L ∷ []) (R ∷ []) a b c s.0 s.1, s.2, (chose to_left l ∷ t.0, one_more n (chose to_left l) c s.0 t.0 go_left refl t.1, inr ([], code_of t.0, code_of ks, refl, refl))))
          (vl.found (c ++ L ∷ []) p w i))
          (λ s. inr (s.0, from_right (L ∷ []) (R ∷ []) a b c s.0 s.1, s.2, (chose to_right r ∷ s.3.0, one_more n (chose to_right r) c s.0 s.3.0 go_right refl s.3.1, at_most_cons R (code_of s.3.0) (code_of ks) s.3.2)))
          (vr.all (c ++ R ∷ []) ks p out once q w)

      by_step : {m : Move ℕ} (k : Step ℕ) → m ≡ choose l r → Allows m k → (k ≡ chose to_left l) ⊎ (k ≡ chose to_right r)
      by_step k e a = side k (subst (λ m. Allows m k) e a)
        where
          side : (k : Step ℕ) → Allows (choose l r) k → (k ≡ chose to_left l) ⊎ (k ≡ chose to_right r)
          side k goes_left = inl refl
          side k goes_right = inr refl

      -- all steps of the walk by its first one
      Ahead : List Symbol → List (Step ℕ) → ℕ → Step ℕ → Type 0
      Ahead c ks p k = NoReturn (n ∷ begun) (k ∷ ks) → Quiet n (k ∷ ks) p → Reached f n (fork_of (with_prefix (L ∷ []) a) (with_prefix (R ∷ []) b)) c (k ∷ ks) p

      reach : (c : List Symbol) (ks : List (Step ℕ)) (p : ℕ) → (IsAmong begun n → ⊥) → NoReturn (n ∷ begun) ks → Quiet n ks p → Waits moves p → Reached f n (fork_of (with_prefix (L ∷ []) a) (with_prefix (R ∷ []) b)) c ks p
      reach c [] p out once q w = absurd (busy (subst (λ z. Waits moves z) (sym q.0) w))
      reach c (k ∷ ks) p out once q w =
          ⊎_elim
          (λ e. subst (λ z. Ahead c ks p z) (sym e) (λ o t. by_left c ks p o.0 o.1 (t.0.1, t.1) w))
          (λ e. subst (λ z. Ahead c ks p z) (sym e) (λ o t. by_right c ks p o.0 o.1 (t.0.1, t.1) w))
          (by_step k mv q.0.0)
          once q

  pub visited : {f g : List Bool} {n : ℕ} {a : Option (Grown Symbol ℕ)} (begun : List ℕ) → Visits itself moves f n a g → Closed begun f → AllMarked begun f → Visited begun f n a g
  visited {f = f} {n = n} begun (known e) closed all = record {
    grows = λ m h. h;
    here = e;
    closed = closed;
    leaf = λ c x i. absurd i;
    found = λ c p w h. inl h;
    all = λ c ks p out once q w. inl (kept_in begun f closed (n ∷ begun) ks n p e out (λ q i. inr i) once q);
    single = λ c x y i j h. absurd i;
  }
  visited {f = f} {n = n} begun (stops lt e w) closed all = record {
    grows = λ m h. set_marked f n m lt h;
    here = get_or-set_same f n true false lt;
    closed = end_closed begun (set f n true) n (begin_closed begun f n lt closed) (λ k al q. absurd (waits_for_byte [] w al (ap bytes_of (append-nil (symbols_of k)) ∙ q)));
    leaf = λ c x i. ⊎_elim (λ s. ([], ((ap (λ z. z.at) s, refl), ap (λ z. z.code) (sym s)), subst (λ z. Waits moves z.at) s w, (λ h. let bad : true ≡ false = sym h ∙ ap (λ z. get_or f z.at false) (sym s) ∙ e in cc), subst (λ z. Marked (set f n true) z.at) s (get_or-set_same f n true false lt), not_marked f n e, tt)) (λ k. absurd k) i;
    found = λ c p w' h. ⊎_elim (λ s. inr (record { at = n; code = c ++ [] }, inl refl, s)) (λ i. inl i) (marked_set f n p h);
    all = λ c ks p out once q w'. inr (record { at = n; code = c ++ [] }, inl refl, stay ks p q, ([], ((refl, refl), refl), inl (ap code_of (sym (stays n ks p w q)))));
    single = λ c x y i j h. ⊎_elim (λ s. ⊎_elim (λ t. sym s ∙ t) (λ k. absurd k) j) (λ k. absurd k) i;
  }
    where
      stay : (ks : List (Step ℕ)) (p : ℕ) → Quiet n ks p → n ≡ p
      stay ks p q = let t : Quiet n [] p = subst (λ z. Quiet n z p) (stays n ks p w q) q in t.0
  visited {f = f} {g = g} {n = n} begun (parts_off {g = h} {l = l} {r = r} {a = a} {b = b} lt e mv va vb) closed all =
      let marked = begin_marked begun f n lt all in
      let vl = visited (n ∷ begun) va (begin_closed begun f n lt closed) marked in
      two_ways begun f h g n l r a b lt e mv all vl (visited (n ∷ begun) vb vl.closed (λ m i. vl.grows m (marked m i)))
  visited {f = f} {g = g} {n = n} begun (is_forced {t = t} {x = x} {a = a} lt e mv va) closed all =
      one_way begun f g n (chose x t) a _ lt e (λ w. subst (λ m. IsWaiting m) mv w) (subst (λ m. Allows m (chose x t)) (sym mv) goes_forced) (λ j a. by_forced j (subst (λ m. Allows m j) mv a)) (quiet x) (λ c. behind_leaves (symbol_of x ∷ []) a c) all (visited (n ∷ begun) va (begin_closed begun f n lt closed) (begin_marked begun f n lt all))
    where
      quiet : (x : Side) → bytes_of (symbol_of x ∷ []) ≡ []
      quiet to_left = refl
      quiet to_right = refl

      by_forced : (j : Step ℕ) → Allows (forced x t) j → j ≡ chose x t
      by_forced j goes_forced = refl
  visited {f = f} {g = g} {n = n} begun (passes_on {t = t} {e = e'} {a = a} lt e mv va) closed all =
      one_way begun f g n (went e' t) a _ lt e (λ w. subst (λ m. IsWaiting m) mv w) (subst (λ m. Allows m (went e' t)) (sym mv) goes) (λ j a. by_go j (subst (λ m. Allows m j) mv a)) refl (λ c. ap (λ z. leaves_if a z) (sym (append-nil c))) all (visited (n ∷ begun) va (begin_closed begun f n lt closed) (begin_marked begun f n lt all))
    where
      by_go : (j : Step ℕ) → Allows (go e' t) j → j ≡ went e' t
      by_go j goes = refl
