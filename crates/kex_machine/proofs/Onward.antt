-- What a tree that goes on with a byte has: the waiting places of the longer text, with their least codes.
use Rattle.std.proofs.Common.{◌≡◌, ℕ, Bool, List, [], ◌∷◌, ◌++◌, ◌⊎◌, inl, inr, ⊎_elim, Option, Some, None, refl, sym, ap, subst, ◌∙◌, append_assoc}
use Rattle.kex_code.specs.declared.symbol.Symbol.{Symbol}
use Rattle.kex_code.specs.declared.symbol.Symbol.TheVariants.{R, Byte}
use Rattle.kex_code.specs.Codes.{Begins, AtMost, IsAmong}
use Rattle.kex_model.specs.Moves.{Move, read, Step, took, Allows, reads, code_of, Waits}
use Rattle.kex_model.specs.Labelled.{Leaf, Labelled, fork, leaves_of, Grown, leaves_if, fork_of, with_prefix}
use Rattle.kex_model.specs.Survivors.{NoReturn, IsParted}
use Rattle.kex_model.proofs.Shapes.{among-append, among_left, among_right, leaf_front, behind_leaves, behind_start}
use Rattle.kex_machine.specs.Advancing.{itself, Advances, dies, reads_on, both}
use Rattle.kex_machine.proofs.Visits.{in_sides, from_left, from_right, Marked, at_most_behind, Quiet, Closed, IsLeafBy, Visited, visited}

front_if : (a : Option (Grown Symbol ℕ)) (c : List Symbol) (x : Leaf Symbol ℕ) → IsAmong (leaves_if a c) x → Begins x.code c
front_if None c x i = absurd i
front_if (Some g) c x i = let p = leaf_front g.tree (c ++ g.label) x i in (g.label ++ p.0, p.1 ∙ append_assoc c g.label p.0)

module _ (moves : ℕ → Move ℕ) (b : ℕ) where
  -- the leaf comes from this old one, by the byte and then a walk without a byte
  pub record IsLeafFrom (e : Leaf Symbol ℕ) (x : Leaf Symbol ℕ) : Type 0 where
    pub to : ℕ
    pub byte : Allows (moves e.at) (took b to)
    pub steps : List (Step ℕ)
    pub by : IsLeafBy moves to (e.code ++ Byte b ∷ []) x steps
    pub once : NoReturn (to ∷ []) steps

  pub record Advanced (f : List Bool) (t : Labelled Symbol ℕ) (a : Option (Grown Symbol ℕ)) (g : List Bool) : Type 0 where
    pub closed : Closed moves [] g
    pub grows : (m : ℕ) → Marked f m → Marked g m
    pub leaf : (c : List Symbol) (x : Leaf Symbol ℕ) → IsAmong (leaves_if a c) x → (e : Leaf Symbol ℕ) × IsAmong (leaves_of t c) e × IsLeafFrom e x × Waits moves x.at × (Marked f x.at → ⊥) × Marked g x.at
    pub found : (c : List Symbol) (p : ℕ) → Waits moves p → Marked g p → Marked f p ⊎ ((x : Leaf Symbol ℕ) × IsAmong (leaves_if a c) x × (x.at ≡ p))
    pub all : (c : List Symbol) (e : Leaf Symbol ℕ) → IsAmong (leaves_of t c) e → (to : ℕ) → Allows (moves e.at) (took b to) → (ks : List (Step ℕ)) (p : ℕ) → NoReturn (to ∷ []) ks → Quiet moves to ks p → Waits moves p → Marked f p ⊎ ((x : Leaf Symbol ℕ) × IsAmong (leaves_if a c) x × (x.at ≡ p) × AtMost x.code (e.code ++ Byte b ∷ code_of ks))
    pub single : (c : List Symbol) (x y : Leaf Symbol ℕ) → IsAmong (leaves_if a c) x → IsAmong (leaves_if a c) y → x.at ≡ y.at → x ≡ y

  -- a leaf by its walk
  pub leaf_code : (e x : Leaf Symbol ℕ) (ks : List (Step ℕ)) → x.code ≡ (e.code ++ Byte b ∷ []) ++ code_of ks → x.code ≡ e.code ++ Byte b ∷ code_of ks
  leaf_code e x ks h = h ∙ append_assoc e.code (Byte b ∷ []) (code_of ks)

  only_byte : {m : Move ℕ} {t u : ℕ} → Allows m (took b t) → Allows m (took b u) → t ≡ u
  only_byte (reads i) h = one h
    where
      one : {set : List Bool} {s u : ℕ} → Allows (read set s) (took b u) → s ≡ u
      one (reads i) = refl

  -- a fork of the old tree, by its sides
  two_sides : {f g h : List Bool} {lx ly : List Symbol} {l r : Labelled Symbol ℕ} {x y : Option (Grown Symbol ℕ)} → IsParted (fork lx l ly r) → Advanced f l x g → Advanced g r y h → Advanced f (fork lx l ly r) (fork_of (with_prefix lx x) (with_prefix ly y)) h
  two_sides {f = f} {g = g} {h = h} {lx = lx} {ly = ly} {l = tl} {r = tr} {x = x} {y = y} parted vl vr = record {
    closed = vr.closed;
    grows = λ m i. vr.grows m (vl.grows m i);
    leaf = λ c z i.
        ⊎_elim
        (λ i. let q = vl.leaf (c ++ lx) z i in (q.0, among_left (leaves_of tl (c ++ lx)) (leaves_of tr (c ++ ly)) q.0 q.1, q.2, q.3, q.4, vr.grows z.at q.5))
        (λ i. let q = vr.leaf (c ++ ly) z i in (q.0, among_right (leaves_of tl (c ++ lx)) (leaves_of tr (c ++ ly)) q.0 q.1, q.2, q.3, (λ j. q.4 (vl.grows z.at j)), q.5))
        (in_sides lx ly x y c z i);
    found = λ c p w i.
        ⊎_elim
        (λ i. ⊎_elim (λ i. inl i) (λ q. inr (q.0, from_left lx ly x y c q.0 q.1, q.2)) (vl.found (c ++ lx) p w i))
        (λ q. inr (q.0, from_right lx ly x y c q.0 q.1, q.2))
        (vr.found (c ++ ly) p w i);
    all = λ c e i t a ks p once walk w.
        ⊎_elim
        (λ i. ⊎_elim (λ j. inl j) (λ q. inr (q.0, from_left lx ly x y c q.0 q.1, q.2, q.3)) (vl.all (c ++ lx) e i t a ks p once walk w))
        (λ i.
        ⊎_elim
        (λ j.
        ⊎_elim (λ j. inl j)
        (λ q.
        let u = behind_start c lx q.0.code parted.0 (front_if x (c ++ lx) q.0 q.1) in
        let v = behind_start c ly e.code parted.2 (leaf_front tr (c ++ ly) e i) in
        inr (q.0, from_left lx ly x y c q.0 q.1, q.2, inr (c, u.0, v.0 ++ Byte b ∷ code_of ks, u.1, ap (λ z. z ++ Byte b ∷ code_of ks) v.1 ∙ append_assoc c (R ∷ v.0) (Byte b ∷ code_of ks))))
        (vl.found (c ++ lx) p w j))
        (λ q. inr (q.0, from_right lx ly x y c q.0 q.1, q.2, q.3))
        (vr.all (c ++ ly) e i t a ks p once walk w))
        (among-append (leaves_of tl (c ++ lx)) (leaves_of tr (c ++ ly)) e i);
    single = λ c u v i j e.
        ⊎_elim
        (λ i. ⊎_elim (λ j. vl.single (c ++ lx) u v i j e) (λ j. absurd ((vr.leaf (c ++ ly) v j).4 (subst (λ z. Marked g z) e (vl.leaf (c ++ lx) u i).5))) (in_sides lx ly x y c v j))
        (λ i. ⊎_elim (λ j. absurd ((vr.leaf (c ++ ly) u i).4 (subst (λ z. Marked g z) (sym e) (vl.leaf (c ++ lx) v j).5))) (λ j. vr.single (c ++ ly) u v i j e) (in_sides lx ly x y c v j))
        (in_sides lx ly x y c u i);
  }

  pub advanced : {f g : List Bool} {t : Labelled Symbol ℕ} {a : Option (Grown Symbol ℕ)} → Advances itself (Byte b) moves b f t a g → IsParted t → Closed moves [] f → Advanced f t a g
  advanced {f = f} (dies {p = p} h) parted closed = record {
    closed = closed;
    grows = λ m i. i;
    leaf = λ c x i. absurd i;
    found = λ c p w i. inl i;
    all = λ c e i t a. absurd (⊎_elim (λ z. h t (subst (λ u. Allows (moves u.at) (took b t)) (sym z) a)) (λ k. k) i);
    single = λ c x y i j e. absurd i;
  }
  advanced {f = f} {g = g} (reads_on {p = p} {t = t} {a = a} byte v) parted closed = record {
    closed = r.closed;
    grows = r.grows;
    leaf = λ c x i.
        let y = r.leaf (c ++ Byte b ∷ []) x (subst (λ u. IsAmong u x) (behind_leaves (Byte b ∷ []) a c) i) in
        (record { at = p; code = c }, inl refl, record { to = t; byte = byte; steps = y.0; by = y.1; once = y.6 }, y.2, y.3, y.4);
    found = λ c q w i. ⊎_elim (λ j. inl j) (λ y. inr (y.0, subst (λ u. IsAmong u y.0) (sym (behind_leaves (Byte b ∷ []) a c)) y.1, y.2)) (r.found (c ++ Byte b ∷ []) q w i);
    all = λ c e i u al ks q once walk w.
        let is : record { at = p; code = c } ≡ e = ⊎_elim (λ z. z) (λ k. absurd k) i in
        let at_t : u ≡ t = only_byte al (subst (λ z. Allows (moves z.at) (took b t)) is byte) in
        ⊎_elim (λ j. inl j)
        (λ y. inr (
          y.0,
          subst (λ u. IsAmong u y.0) (sym (behind_leaves (Byte b ∷ []) a c)) y.1,
          y.2,
          subst (λ z. AtMost y.0.code (z.code ++ Byte b ∷ code_of ks)) is (subst (λ z. AtMost z (c ++ Byte b ∷ code_of ks)) (sym (leaf_code (record { at = p; code = c }) y.0 y.3.0 y.3.1.1)) (at_most_behind c (Byte b ∷ code_of y.3.0) (Byte b ∷ code_of ks) (at_most_behind (Byte b ∷ []) (code_of y.3.0) (code_of ks) y.3.2))),
        ))
        (r.all (c ++ Byte b ∷ []) ks q (λ j. j) (subst (λ z. NoReturn (z ∷ []) ks) at_t once) (subst (λ z. Quiet moves z ks q) at_t walk) w);
    single = λ c x y i j e. r.single (c ++ Byte b ∷ []) x y (subst (λ u. IsAmong u x) (behind_leaves (Byte b ∷ []) a c) i) (subst (λ u. IsAmong u y) (behind_leaves (Byte b ∷ []) a c) j) e;
  }
    where
      r : Visited moves [] f t a g
      r = visited moves [] v closed (λ m i. absurd i)
  advanced (both left right) parted closed = let vl = advanced left parted.1 closed in two_sides parted vl (advanced right parted.3 vl.closed)
