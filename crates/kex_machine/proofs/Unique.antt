-- A text has one tree, so one shape; and a tree and a byte determine how the tree goes on.
use Rattle.std.proofs.Common.{◌≡◌, ℕ, Bool, true, false, List, [], ◌∷◌, ◌++◌, inl, inr, ⊎_elim, Option, refl, sym, ap, ap₂, subst, ◌∙◌, append_assoc, append-nil}
use Rattle.std.proofs.lemmas.List.{append_cancel_left}
use Rattle.kex_code.specs.declared.symbol.Symbol.{Symbol}
use Rattle.kex_code.specs.declared.symbol.Symbol.TheVariants.{L, R}
use Rattle.kex_code.specs.Codes.{Begins, Before, IsAmong}
use Rattle.kex_model.specs.Moves.{Move, Side, read, choose, forced, go, symbol_of, took, Allows, reads, IsWaiting}
use Rattle.kex_model.specs.Labelled.{Labelled, tip, fork, leaves_of, Grown, with_prefix, fork_of}
use Rattle.kex_model.specs.Survivors.{CodedPlace, Rising, IsParted, Lists, HasTree}
use Rattle.kex_model.proofs.Orders.{not_both, at_most_both}
use Rattle.kex_model.proofs.Shapes.{a_leaf, leaf_front, longest_front, parted_rises, behind_start}
use Rattle.kex_machine.specs.Advancing.{Visits, known, stops, parts_off, is_forced, passes_on, Advances, dies, reads_on, both}

not_itself : (c : List Symbol) → Before c c → ⊥
not_itself c h = not_both c c h h

-- two rising lists with the same members are one
pub one_list : {S : Type 0} (xs ys : List (CodedPlace S)) → Rising xs → Rising ys → ((x : CodedPlace S) → IsAmong xs x → IsAmong ys x) → ((x : CodedPlace S) → IsAmong ys x → IsAmong xs x) → xs ≡ ys
one_list [] [] h h' f g = refl
one_list [] (y ∷ ys) h h' f g = absurd (g y (inl refl))
one_list (x ∷ xs) [] h h' f g = absurd (f x (inl refl))
one_list {S = S} (x ∷ xs) (y ∷ ys) h h' f g = ap₂ (λ a b. a ∷ b) same (one_list xs ys h.1 h'.1 down up)
  where
    same : x ≡ y
    same = ⊎_elim (λ e. sym e) (λ i. ⊎_elim (λ e. e) (λ j. absurd (not_both x.code y.code (h.0 y j) (h'.0 x i))) (g y (inl refl))) (f x (inl refl))

    down : (z : CodedPlace S) → IsAmong xs z → IsAmong ys z
    down z i = ⊎_elim (λ e. absurd (not_itself x.code (subst (λ u. Before x.code u.code) (sym (same ∙ e)) (h.0 z i)))) (λ j. j) (f z (inr i))

    up : (z : CodedPlace S) → IsAmong ys z → IsAmong xs z
    up z i = ⊎_elim (λ e. absurd (not_itself y.code (subst (λ u. Before y.code u.code) (sym (sym same ∙ e)) (h'.0 z i)))) (λ j. j) (g z (inr i))

-- the first that lie to the left and the others to the right
split : {S : Type 0} (c : List Symbol) (xs ys us vs : List (CodedPlace S)) → ((x : CodedPlace S) → IsAmong xs x → (m : List Symbol) × (x.code ≡ c ++ L ∷ m)) → ((x : CodedPlace S) → IsAmong ys x → (m : List Symbol) × (x.code ≡ c ++ R ∷ m)) → ((x : CodedPlace S) → IsAmong us x → (m : List Symbol) × (x.code ≡ c ++ L ∷ m)) → ((x : CodedPlace S) → IsAmong vs x → (m : List Symbol) × (x.code ≡ c ++ R ∷ m)) → xs ++ ys ≡ us ++ vs → (xs ≡ us) × (ys ≡ vs)
split c [] ys [] vs hx hy hu hv e = (refl, e)
split c [] [] (u ∷ us) vs hx hy hu hv e = cc
split c [] (y ∷ ys) (u ∷ us) vs hx hy hu hv e =
    let p = hy y (inl refl) in
    let q = hu u (inl refl) in
    let same : y ≡ u = cc in
    let bad : R ∷ p.0 ≡ L ∷ q.0 = append_cancel_left c _ _ (sym p.1 ∙ ap (λ z. z.code) same ∙ q.1) in
    cc
split c (x ∷ xs) ys [] [] hx hy hu hv e = cc
split c (x ∷ xs) ys [] (v ∷ vs) hx hy hu hv e =
    let p = hx x (inl refl) in
    let q = hv v (inl refl) in
    let same : x ≡ v = cc in
    let bad : L ∷ p.0 ≡ R ∷ q.0 = append_cancel_left c _ _ (sym p.1 ∙ ap (λ z. z.code) same ∙ q.1) in
    cc
split c (x ∷ xs) ys (u ∷ us) vs hx hy hu hv e =
    let same : x ≡ u = cc in
    let r = split c xs ys us vs (λ z i. hx z (inr i)) hy (λ z i. hu z (inr i)) hv (cc) in
    (ap₂ (λ a b. a ∷ b) same r.0, r.1)

-- lists of which each begins with the other
pub one_front : (c d : List Symbol) → Begins c d → Begins d c → c ≡ d
one_front c d (m, e) (n, f) = back m n e f (append_cancel_left c (n ++ m) [] (sym (append_assoc c n m) ∙ ap (λ z. z ++ m) (sym f) ∙ sym e ∙ sym (append-nil c)))
  where
    back : (m n : List Symbol) → c ≡ d ++ m → d ≡ c ++ n → n ++ m ≡ [] → c ≡ d
    back m [] e f g = sym (f ∙ append-nil c)
    back m (x ∷ n) e f g = cc

module _ {S : Type 0} where
  single_leaf : (l : Labelled Symbol S) (r : Labelled Symbol S) (c a b : List Symbol) (x : CodedPlace S) → leaves_of l (c ++ a) ++ leaves_of r (c ++ b) ≡ x ∷ [] → ⊥
  single_leaf l r c a b x e = two (leaves_of l (c ++ a)) (leaves_of r (c ++ b)) (some l (c ++ a)) (some r (c ++ b)) e
    where
      some : (t : Labelled Symbol S) (c : List Symbol) → leaves_of t c ≡ [] → ⊥
      some t c e = let y = a_leaf t c in subst (λ z. IsAmong z y.0) e y.1

      two : (xs ys : List (CodedPlace S)) → (xs ≡ [] → ⊥) → (ys ≡ [] → ⊥) → xs ++ ys ≡ x ∷ [] → ⊥
      two [] ys p q e = p refl
      two (z ∷ []) [] p q e = q refl
      two (z ∷ []) (y ∷ ys) p q e = cc
      two (z ∷ u ∷ zs) ys p q e = cc

  -- a parted tree is determined by its leaves
  pub one_tree : (t u : Labelled Symbol S) (c d : List Symbol) → IsParted t → IsParted u → leaves_of t c ≡ leaves_of u d → (t ≡ u) × (c ≡ d)
  one_tree (tip p) (tip q) c d h h' e =
      let x : CodedPlace S = record { at = p; code = c } in
      let y : CodedPlace S = record { at = q; code = d } in
      let same : x ≡ y = cc in
      (ap (λ z. tip z.at) same, ap (λ z. z.code) same)
  one_tree (tip p) (fork a l b r) c d h h' e = absurd (single_leaf l r d a b (record { at = p; code = c }) (sym e))
  one_tree (fork a l b r) (tip p) c d h h' e = absurd (single_leaf l r c a b (record { at = p; code = d }) e)
  one_tree (fork a l b r) (fork a' l' b' r') c d h h' e =
      let cd : c ≡ d = one_front c d (longest_front (fork a l b r) c d h (λ x i. leaf_front (fork a' l' b' r') d x (subst (λ z. IsAmong z x) e i))) (longest_front (fork a' l' b' r') d c h' (λ x i. leaf_front (fork a l b r) c x (subst (λ z. IsAmong z x) (sym e) i))) in
      let e' : leaves_of l (c ++ a) ++ leaves_of r (c ++ b) ≡ leaves_of l' (c ++ a') ++ leaves_of r' (c ++ b') = e ∙ ap (λ z. leaves_of (fork a' l' b' r') z) (sym cd) in
      let s = split c (leaves_of l (c ++ a)) (leaves_of r (c ++ b)) (leaves_of l' (c ++ a')) (leaves_of r' (c ++ b')) (λ x i. behind_start c a x.code h.0 (leaf_front l (c ++ a) x i)) (λ x i. behind_start c b x.code h.2 (leaf_front r (c ++ b) x i)) (λ x i. behind_start c a' x.code h'.0 (leaf_front l' (c ++ a') x i)) (λ x i. behind_start c b' x.code h'.2 (leaf_front r' (c ++ b') x i)) e' in
      let p = one_tree l l' (c ++ a) (c ++ a') h.1 h'.1 s.0 in
      let q = one_tree r r' (c ++ b) (c ++ b') h.3 h'.3 s.1 in
      (make (append_cancel_left c a a' p.1) p.0 (append_cancel_left c b b' q.1) q.0, cd)
    where
      make : {x x' y y' : List Symbol} {u u' v v' : Labelled Symbol S} → x ≡ x' → u ≡ u' → y ≡ y' → v ≡ v' → fork x u y v ≡ fork x' u' y' v'
      make f g h k = cc

module _ {S : Type 0} (moves : S → Move S) (start : S) where
  -- a text has one tree
  pub tree_unique : (w : List ℕ) (c d : List Symbol) (t u : Labelled Symbol S) → HasTree moves start w c t → HasTree moves start w d u → (t ≡ u) × (c ≡ d)
  tree_unique w c d t u h k = one_tree t u c d h.parted k.parted (one_list (leaves_of t c) (leaves_of u d) (parted_rises t c h.parted) (parted_rises u d k.parted) (λ x i. across (leaves_of t c) (leaves_of u d) h.lists k.lists x i) (λ x i. across (leaves_of u d) (leaves_of t c) k.lists h.lists x i))
    where
      across : (xs ys : List (CodedPlace S)) → Lists moves start w xs → Lists moves start w ys → (x : CodedPlace S) → IsAmong xs x → IsAmong ys x
      across xs ys p q x i =
          let s = p.each x i in
          let y = q.all x.at (x.code, s.reached, s.alive) in
          let s' = q.each (record { at = x.at; code = y.0 }) y.1 in
          let same : y.0 ≡ x.code = at_most_both y.0 x.code (s'.least x.code s.reached) (s.least y.0 s'.reached) in
          subst (λ z. IsAmong ys (record { at = x.at; code = z })) same y.1

clash : {X : Type 0} {b : Bool} → b ≡ true → b ≡ false → X
clash e e' = let bad : true ≡ false = sym e ∙ e' in absurd (cc)

busy_or : {X : Type 0} {m m' : Move ℕ} → IsWaiting m → m ≡ m' → (IsWaiting m' → ⊥) → X
busy_or w e h = absurd (h (subst (λ z. IsWaiting z) e w))

elsewhere : {A : Type 0} {put : Symbol → A} {moves : ℕ → Move ℕ} {f g f' : List Bool} {n n' : ℕ} {a : Option (Grown A ℕ)} → Visits put moves f n a g → f ≡ f' → n ≡ n' → Visits put moves f' n' a g
elsewhere {put = put} {moves = moves} {g = g} {f' = f'} {n = n} {a = a} v e h = subst (λ z. Visits put moves f' z a g) h (subst (λ z. Visits put moves z n a g) e v)

other_right : {l r l' r' : ℕ} → choose l r ≡ choose l' r' → r' ≡ r
other_right e = cc

other_side : {x x' : Side} {t t' : ℕ} → forced x t ≡ forced x' t' → x ≡ x'
other_side e = cc

-- marks and place determine what a visit finds
pub one_visit : {A : Type 0} {put : Symbol → A} {moves : ℕ → Move ℕ} {f : List Bool} {n : ℕ} {a a' : Option (Grown A ℕ)} {g g' : List Bool} → Visits put moves f n a g → Visits put moves f n a' g' → (a ≡ a') × (g ≡ g')
one_visit (known e) (known e') = (refl, refl)
one_visit (known e) (stops lt' e' w') = clash e e'
one_visit (known e) (parts_off lt' e' m' v' u') = clash e e'
one_visit (known e) (is_forced lt' e' m' v') = clash e e'
one_visit (known e) (passes_on lt' e' m' v') = clash e e'
one_visit (stops lt e w) (known e') = clash e' e
one_visit (stops lt e w) (stops lt' e' w') = (refl, refl)
one_visit (stops lt e w) (parts_off lt' e' m' v' u') = busy_or w m' (λ z. z)
one_visit (stops lt e w) (is_forced lt' e' m' v') = busy_or w m' (λ z. z)
one_visit (stops lt e w) (passes_on lt' e' m' v') = busy_or w m' (λ z. z)
one_visit (parts_off lt e m v u) (known e') = clash e' e
one_visit (parts_off lt e m v u) (stops lt' e' w') = busy_or w' m (λ z. z)
one_visit {put = put} {moves = moves} {f = f} {n = n} (parts_off {l = l} {r = r} lt e m v u) (parts_off {l = l'} {r = r'} {a = a'} {b = b'} lt' e' m' v' u') =
    let same : choose l r ≡ choose l' r' = sym m ∙ m' in
    let p = one_visit v (elsewhere v' refl (let q : l' ≡ l = cc in q)) in
    let q = one_visit u (elsewhere u' (sym p.1) (other_right same)) in
    (ap₂ (λ x y. fork_of (with_prefix (put L ∷ []) x) (with_prefix (put R ∷ []) y)) p.0 q.0, q.1)
one_visit (parts_off lt e m v u) (is_forced lt' e' m' v') = absurd (let bad = sym m ∙ m' in cc)
one_visit (parts_off lt e m v u) (passes_on lt' e' m' v') = absurd (let bad = sym m ∙ m' in cc)
one_visit (is_forced lt e m v) (known e') = clash e' e
one_visit (is_forced lt e m v) (stops lt' e' w') = busy_or w' m (λ z. z)
one_visit (is_forced lt e m v) (parts_off lt' e' m' v' u') = absurd (let bad = sym m ∙ m' in cc)
one_visit {put = put} {moves = moves} {f = f} {n = n} (is_forced {t = t} {x = x} lt e m v) (is_forced {t = t'} {x = x'} {a = a'} lt' e' m' v') =
    let same : forced x t ≡ forced x' t' = sym m ∙ m' in
    let p = one_visit v (elsewhere v' refl (let q : t' ≡ t = cc in q)) in
    (ap₂ (λ x y. with_prefix (put (symbol_of x) ∷ []) y) (other_side same) p.0, p.1)
one_visit (is_forced lt e m v) (passes_on lt' e' m' v') = absurd (let bad = sym m ∙ m' in cc)
one_visit (passes_on lt e m v) (known e') = clash e' e
one_visit (passes_on lt e m v) (stops lt' e' w') = busy_or w' m (λ z. z)
one_visit (passes_on lt e m v) (parts_off lt' e' m' v' u') = absurd (let bad = sym m ∙ m' in cc)
one_visit (passes_on lt e m v) (is_forced lt' e' m' v') = absurd (let bad = sym m ∙ m' in cc)
one_visit {put = put} {moves = moves} {f = f} {n = n} (passes_on {t = t} {e = x} lt e m v) (passes_on {t = t'} {e = x'} {a = a'} lt' e' m' v') =
    let same : go x t ≡ go x' t' = sym m ∙ m' in
    one_visit v (elsewhere v' refl (let q : t' ≡ t = cc in q))

one_byte : {m : Move ℕ} {b t u : ℕ} → Allows m (took b t) → Allows m (took b u) → t ≡ u
one_byte (reads i) h = by h
  where
    by : {set : List Bool} {b s u : ℕ} → Allows (read set s) (took b u) → s ≡ u
    by (reads i) = refl

onward_from : {A : Type 0} {put : Symbol → A} {input : A} {moves : ℕ → Move ℕ} {b : ℕ} {f f' g : List Bool} {t : Labelled A ℕ} {a : Option (Grown A ℕ)} → Advances put input moves b f t a g → f ≡ f' → Advances put input moves b f' t a g
onward_from {put = put} {input = input} {moves = moves} {b = b} {g = g} {t = t} {a = a} v e = subst (λ z. Advances put input moves b z t a g) e v

-- tree, marks and byte determine how a tree goes on
pub one_advance : {A : Type 0} {put : Symbol → A} {input : A} {moves : ℕ → Move ℕ} {b : ℕ} {f : List Bool} {t : Labelled A ℕ} {a a' : Option (Grown A ℕ)} {g g' : List Bool} → Advances put input moves b f t a g → Advances put input moves b f t a' g' → (a ≡ a') × (g ≡ g')
one_advance (dies h) (dies h') = (refl, refl)
one_advance (dies h) (reads_on {t = t} i v) = absurd (h t i)
one_advance (reads_on {t = t} i v) (dies h) = absurd (h t i)
one_advance {input = input} {moves = moves} {f = f} (reads_on {t = t} i v) (reads_on {t = t'} {a = a'} i' v') =
    let p = one_visit v (elsewhere v' refl (one_byte i' i)) in
    (ap (λ z. with_prefix (input ∷ []) z) p.0, p.1)
one_advance {moves = moves} {b = b} (both {u = x} {v = z} v u) (both {y = y'} v' u') =
    let p = one_advance v v' in
    let q = one_advance u (onward_from u' (sym p.1)) in
    (ap₂ (λ a c. fork_of (with_prefix x a) (with_prefix z c)) p.0 q.0, q.1)
