-- The tree of the survivors: what it says of their codes, and that there is one.
use Rattle.std.proofs.Common.{◌≡◌, ℕ, List, [], ◌∷◌, ◌++◌, ◌⊎◌, inl, inr, ⊎_elim, Option, Some, None, refl, sym, ap, subst, ◌∙◌, append_assoc, append-nil}
use Rattle.std.proofs.lemmas.List.{append_cancel_left}
use Rattle.kex_code.specs.declared.symbol.Symbol.{Symbol}
use Rattle.kex_code.specs.declared.symbol.Symbol.TheVariants.{L, R}
use Rattle.kex_code.specs.Codes.{Begins, Before, IsAmong}
use Rattle.kex_model.specs.Moves.{Move}
use Rattle.kex_model.specs.Labelled.{Leaf, Labelled, tip, fork, leaves_of, Grown, leaves_if, fork_of, with_prefix}
use Rattle.kex_model.specs.Survivors.{CodedPlace, Rising, StartsWith, IsParted, Agreed, HasTree}
use Rattle.kex_model.proofs.Orders.{two_fronts, at_most_both}

pub among-append : {A : Type 0} (xs ys : List A) (z : A) → IsAmong (xs ++ ys) z → IsAmong xs z ⊎ IsAmong ys z
among-append [] ys z h = inr h
among-append (x ∷ xs) ys z h = ⊎_elim (λ e. inl (inl e)) (λ i. ⊎_elim (λ j. inl (inr j)) (λ j. inr j) (among-append xs ys z i)) h

pub among_left : {A : Type 0} (xs ys : List A) (z : A) → IsAmong xs z → IsAmong (xs ++ ys) z
among_left [] ys z h = absurd h
among_left (x ∷ xs) ys z h = ⊎_elim (λ e. inl e) (λ i. inr (among_left xs ys z i)) h

pub among_right : {A : Type 0} (xs ys : List A) (z : A) → IsAmong ys z → IsAmong (xs ++ ys) z
among_right [] ys z h = h
among_right (x ∷ xs) ys z h = inr (among_right xs ys z h)

-- a code and some more of it begins with it
longer : {A : Type 0} (c x d : List A) → Begins d (c ++ x) → Begins d c
longer c x d p = (x ++ p.0, p.1 ∙ append_assoc c x p.0)

-- each leaf's code begins with the tree's
pub leaf_front : {A S : Type 0} (t : Labelled A S) (c : List A) (x : Leaf A S) → IsAmong (leaves_of t c) x → Begins x.code c
leaf_front (tip p) c x i = ⊎_elim (λ e. ([], ap (λ z. z.code) (sym e) ∙ sym (append-nil c))) (λ k. absurd k) i
leaf_front (fork a l b r) c x i =
    ⊎_elim
    (λ j. longer c a x.code (leaf_front l (c ++ a) x j))
    (λ j. longer c b x.code (leaf_front r (c ++ b) x j))
    (among-append (leaves_of l (c ++ a)) (leaves_of r (c ++ b)) x i)

-- a tree has a leaf
pub a_leaf : {A S : Type 0} (t : Labelled A S) (c : List A) → (x : Leaf A S) × IsAmong (leaves_of t c) x
a_leaf (tip p) c = (record { at = p; code = c }, inl refl)
a_leaf (fork a l b r) c = let y = a_leaf l (c ++ a) in (y.0, among_left (leaves_of l (c ++ a)) (leaves_of r (c ++ b)) y.0 y.1)

-- a code that begins with c and a label, where the label begins with a symbol
pub behind_start : {s : Symbol} (c x d : List Symbol) → StartsWith s x → Begins d (c ++ x) → (m : List Symbol) × (d ≡ c ++ s ∷ m)
behind_start {s = s} c x d (more, e) (m, f) = (more ++ m, f ∙ append_assoc c x m ∙ ap (λ z. c ++ (z ++ m)) e)

pub rising-append : {S : Type 0} (xs ys : List (CodedPlace S)) → Rising xs → Rising ys → ((x y : CodedPlace S) → IsAmong xs x → IsAmong ys y → Before x.code y.code) → Rising (xs ++ ys)
rising-append [] ys h h' b = h'
rising-append (x ∷ xs) ys h h' b = ((λ y i. ⊎_elim (λ j. h.0 y j) (λ j. b x y (inl refl) j) (among-append xs ys y i)), rising-append xs ys h.1 h' (λ x y i j. b x y (inr i) j))

-- the leaves of a parted tree are in order
pub parted_rises : {S : Type 0} (t : Labelled Symbol S) (c : List Symbol) → IsParted t → Rising (leaves_of t c)
parted_rises (tip p) c h = ((λ y i. absurd i), tt)
parted_rises (fork a l b r) c h =
    rising-append (leaves_of l (c ++ a)) (leaves_of r (c ++ b)) (parted_rises l (c ++ a) h.1) (parted_rises r (c ++ b) h.3)
    (λ x y i j.
    let p = behind_start c a x.code h.0 (leaf_front l (c ++ a) x i) in
    let q = behind_start c b y.code h.2 (leaf_front r (c ++ b) y j) in
    (c, p.0, q.0, p.1, q.1))

-- what begins two codes that part after c begins c
common_front : (c d x y : List Symbol) → Begins (c ++ L ∷ x) d → Begins (c ++ R ∷ y) d → Begins c d
common_front c d x y p q = ⊎_elim (λ r. r) (λ r. over r.0 r.1) (two_fronts c d (L ∷ x) p.0 p.1)
  where
    over : (m : List Symbol) → d ≡ c ++ m → Begins c d
    over [] g = ([], sym (append-nil d ∙ g ∙ append-nil c))
    over (z ∷ m) g =
        let left : L ∷ x ≡ z ∷ (m ++ p.0) = append_cancel_left c _ _ (p.1 ∙ ap (λ u. u ++ p.0) g ∙ append_assoc c (z ∷ m) p.0) in
        let right : R ∷ y ≡ z ∷ (m ++ q.0) = append_cancel_left c _ _ (q.1 ∙ ap (λ u. u ++ q.0) g ∙ append_assoc c (z ∷ m) q.0) in
        let is_left : z ≡ L = cc in
        let is_right : z ≡ R = cc in
        cc

-- what begins all leaves of a parted tree begins its own code
pub longest_front : {S : Type 0} (t : Labelled Symbol S) (c d : List Symbol) → IsParted t → ((x : CodedPlace S) → IsAmong (leaves_of t c) x → Begins x.code d) → Begins c d
longest_front (tip p) c d h all = all (record { at = p; code = c }) (inl refl)
longest_front (fork a l b r) c d h all =
    let x = a_leaf l (c ++ a) in
    let y = a_leaf r (c ++ b) in
    let p = behind_start c a x.0.code h.0 (leaf_front l (c ++ a) x.0 x.1) in
    let q = behind_start c b y.0.code h.2 (leaf_front r (c ++ b) y.0 y.1) in
    common_front c d p.0 q.0
    (subst (λ z. Begins z d) p.1 (all x.0 (among_left (leaves_of l (c ++ a)) (leaves_of r (c ++ b)) x.0 x.1)))
    (subst (λ z. Begins z d) q.1 (all y.0 (among_right (leaves_of l (c ++ a)) (leaves_of r (c ++ b)) y.0 y.1)))

module _ {S : Type 0} (moves : S → Move S) (start : S) where
  -- what the tree begins with is what the survivors agree on
  pub tree_agrees : (w : List ℕ) (c : List Symbol) (t : Labelled Symbol S) → HasTree moves start w c t → Agreed moves start w c
  tree_agrees w c t h = record {
    viable = let y = a_leaf t c in let s = h.lists.each y.0 y.1 in (y.0.at, (y.0.code, s.reached, s.alive));
    common = λ p d s.
        let r = h.lists.all p (d, s.reached, s.alive) in
        let same : r.0 ≡ d = at_most_both r.0 d ((h.lists.each (record { at = p; code = r.0 }) r.1).least d s.reached) (s.least r.0 (h.lists.each (record { at = p; code = r.0 }) r.1).reached) in
        subst (λ z. Begins z c) same (leaf_front t c (record { at = p; code = r.0 }) r.1);
    longest = λ d all. longest_front t c d h.parted (λ x i. all x.at x.code (h.lists.each x i));
  }

pub joined_leaves : {A S : Type 0} (a b : Option (Grown A S)) (c : List A) → leaves_if (fork_of a b) c ≡ leaves_if a c ++ leaves_if b c
joined_leaves None None c = refl
joined_leaves (Some l) None c = sym (append-nil _)
joined_leaves None (Some r) c = refl
joined_leaves (Some l) (Some r) c = ap (λ z. leaves_of l.tree (z ++ l.label) ++ leaves_of r.tree (z ++ r.label)) (append-nil c)

pub behind_leaves : {A S : Type 0} (x : List A) (a : Option (Grown A S)) (c : List A) → leaves_if (with_prefix x a) c ≡ leaves_if a (c ++ x)
behind_leaves x None c = refl
behind_leaves x (Some g) c = ap (λ z. leaves_of g.tree z) (sym (append_assoc c x g.label))
