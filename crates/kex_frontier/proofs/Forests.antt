-- What becomes of trees side by side, as lists of edges.
use Rattle.std.proofs.Common.{◌≡◌, ℕ, true, false, List, [], ◌∷◌, ◌++◌, Option, Some, None, get_or, map, reverse, refl, sym, ap, ap₂, subst, ◌∙◌, append_assoc}
use Rattle.std.proofs.lemmas.List.{map-append, reverse-reverse}
use Rattle.kex_code.specs.declared.symbol.Symbol.{Symbol}
use Rattle.kex_model.specs.Labelled.{Labelled, tip, fork, Grown}
use Rattle.kex_frontier.specs.Edges.{Edge, CodeTrees, edges_by, edges_of, as_is, edges_if, edges_in, is_there, there_flags, HasCodeTrees, last_code_tree, with_front, root_label, bare_edges, with_label_turned}

pub first_there : (rs : List (Option (Grown Symbol ℕ))) → get_or (there_flags rs) 0 false ≡ is_there (last_code_tree rs)
first_there [] = refl
first_there (r ∷ rs) = refl

module _ (h : List Symbol → List Symbol) where
  -- a tree's edges before its root's
  abbrev pub before : Labelled Symbol ℕ → List Edge
  before (tip p) = []
  before (fork x l y r) = edges_by h l x ++ edges_by h r y

  abbrev pub root_at : Labelled Symbol ℕ → Option ℕ
  root_at (tip p) = Some p
  root_at (fork x l y r) = None

  pub with_root : (t : Labelled Symbol ℕ) (c : List Symbol) → edges_by h t c ≡ before t ++ record { label = h c; at = root_at t } ∷ []
  with_root (tip p) c = refl
  with_root (fork x l y r) c = refl

  pub one_last : (x : Edge) → (xs ys : List Edge) (y : Edge) → xs ++ x ∷ [] ≡ ys ++ y ∷ [] → (xs ≡ ys) × (x ≡ y)
  one_last x [] [] y e = (refl, (cc))
  one_last x [] (z ∷ []) y e = cc
  one_last x [] (z ∷ z' ∷ ys) y e = cc
  one_last x (z ∷ []) [] y e = cc
  one_last x (z ∷ z' ∷ xs) [] y e = cc
  one_last x (z ∷ xs) (z' ∷ ys) y e =
      let q = one_last x xs ys y (cc) in
      let head : z ≡ z' = cc in
      (ap₂ (λ u v. u ∷ v) head q.0, q.1)

  -- the last tree has another label
  pub refronted : (x label : List Symbol) (rs : List (Option (Grown Symbol ℕ))) (pre : List Edge) (k : Edge) → is_there (last_code_tree rs) ≡ true → edges_in h rs ≡ pre ++ k ∷ [] → ((c : List Symbol) → h c ≡ k.label → h (x ++ c) ≡ label) → (edges_in h (with_front x rs) ≡ pre ++ record { label = label; at = k.at } ∷ []) × (there_flags (with_front x rs) ≡ there_flags rs)
  refronted x label [] pre k is e turn = cc
  refronted x label (None ∷ rs) pre k is e turn = cc
  refronted x label (Some g ∷ rs) pre k is e turn = (
    ap (λ z. edges_in h rs ++ z) (with_root g.tree (x ++ g.label)) ∙ sym (append_assoc (edges_in h rs) (before g.tree) _) ∙ same q.0 (turn g.label (ap (λ z. z.label) q.1)) (ap (λ z. z.at) q.1),
    refl,
  )
    where
      q : (edges_in h rs ++ before g.tree ≡ pre) × (record { label = h g.label; at = root_at g.tree } ≡ k)
      q = one_last (record { label = h g.label; at = root_at g.tree }) (edges_in h rs ++ before g.tree) pre k (append_assoc (edges_in h rs) (before g.tree) _ ∙ ap (λ z. edges_in h rs ++ z) (sym (with_root g.tree g.label)) ∙ e)

      same : {xs ys : List Edge} {c d : List Symbol} {a b : Option ℕ} → xs ≡ ys → c ≡ d → a ≡ b → xs ++ record { label = c; at = a } ∷ [] ≡ ys ++ record { label = d; at = b } ∷ []
      same e f g = cc

  -- a tree that is there has an edge
  pub some_edge : (rs : List (Option (Grown Symbol ℕ))) → is_there (last_code_tree rs) ≡ true → edges_in h rs ≡ [] → ⊥
  some_edge [] is e = cc
  some_edge (None ∷ rs) is e = cc
  some_edge (Some g ∷ rs) is e = none (record { label = h g.label; at = root_at g.tree }) (edges_in h rs ++ before g.tree) (append_assoc (edges_in h rs) (before g.tree) _ ∙ ap (λ z. edges_in h rs ++ z) (sym (with_root g.tree g.label)) ∙ e)
    where
      none : (k : Edge) (xs : List Edge) → xs ++ k ∷ [] ≡ [] → ⊥
      none k [] e = cc
      none k (x ∷ xs) e = cc

  -- a tree that is gone has no label
  pub none_fronted : (x : List Symbol) (rs : List (Option (Grown Symbol ℕ))) → is_there (last_code_tree rs) ≡ false → with_front x rs ≡ rs
  none_fronted x [] is = refl
  none_fronted x (None ∷ rs) is = refl
  none_fronted x (Some g ∷ rs) is = cc

  -- in place of the last tree's root another label was put
  pub put_root : (x label : List Symbol) (at : Option ℕ) (was : List Symbol) (old cut new : CodeTrees) → get_or old.there 0 false ≡ true → old.edges ≡ cut.edges ++ record { label = was; at = at } ∷ [] → cut.there ≡ old.there → ((c : List Symbol) → h c ≡ was → h (x ++ c) ≡ label) → new.edges ≡ cut.edges ++ record { label = label; at = at } ∷ [] → new.there ≡ cut.there → (rs : List (Option (Grown Symbol ℕ))) → HasCodeTrees h old rs → HasCodeTrees h new (with_front x rs)
  put_root x label at was old cut new is e same turn e' same' rs has =
      let there : is_there (last_code_tree rs) ≡ true = sym (first_there rs) ∙ ap (λ z. get_or z 0 false) (sym has.1) ∙ is in
      let q = refronted x label rs cut.edges (record { label = was; at = at }) there (sym has.0 ∙ e) turn in
      (e' ∙ sym q.0, same' ∙ same ∙ has.1 ∙ sym q.1)

  -- there is a root to be put
  pub has_root : (old : CodeTrees) → get_or old.there 0 false ≡ true → old.edges ≡ [] → (rs : List (Option (Grown Symbol ℕ))) → HasCodeTrees h old rs → ⊥
  has_root old is e rs has = some_edge rs (sym (first_there rs) ∙ ap (λ z. get_or z 0 false) (sym has.1) ∙ is) (sym has.0 ∙ e)

  -- there is none
  pub not_fronted : (x : List Symbol) (old : CodeTrees) → get_or old.there 0 false ≡ false → (rs : List (Option (Grown Symbol ℕ))) → HasCodeTrees h old rs → HasCodeTrees h old (with_front x rs)
  not_fronted x old is rs has = subst (λ z. HasCodeTrees h old z) (sym (none_fronted x rs (sym (first_there rs) ∙ ap (λ z. get_or z 0 false) (sym has.1) ∙ is))) has

-- the only tree's root, and the tree with no label to it
pub only_root : (r : Option (Grown Symbol ℕ)) (forest cut : CodeTrees) (was : List Symbol) (at : Option ℕ) → get_or forest.there 0 false ≡ true → forest.edges ≡ cut.edges ++ record { label = was; at = at } ∷ [] → HasCodeTrees as_is forest (r ∷ []) → (was ≡ root_label r) × (cut.edges ++ record { label = []; at = at } ∷ [] ≡ bare_edges r)
only_root None forest cut was at is e has = let bad : false ≡ true = sym (ap (λ z. get_or z 0 false) has.1) ∙ is in cc
only_root (Some g) forest cut was at is e has =
    let q = one_last as_is (record { label = was; at = at }) cut.edges (before as_is g.tree) (record { label = g.label; at = root_at as_is g.tree }) (sym e ∙ has.0 ∙ with_root as_is g.tree g.label) in
    (ap (λ z. z.label) q.1, same q.0 (ap (λ z. z.at) q.1) ∙ sym (with_root as_is g.tree []))
  where
    same : {xs ys : List Edge} {a b : Option ℕ} → xs ≡ ys → a ≡ b → xs ++ record { label = []; at = a } ∷ [] ≡ ys ++ record { label = []; at = b } ∷ []
    same e f = cc

-- labels that are turned twice
pub turned_edges : (t : Labelled Symbol ℕ) (c : List Symbol) → map with_label_turned (edges_by reverse t c) ≡ edges_of t c
turned_edges (tip p) c = ap (λ z. record { label = z; at = Some p } ∷ []) (reverse-reverse c)
turned_edges (fork x l y r) c =
    map-append with_label_turned (edges_by reverse l x ++ edges_by reverse r y) (record { label = reverse c; at = None } ∷ [])
    ∙ ap₂ (λ u v. u ++ record { label = v; at = None } ∷ []) (map-append with_label_turned (edges_by reverse l x) (edges_by reverse r y) ∙ ap₂ (λ u v. u ++ v) (turned_edges l x) (turned_edges r y)) (reverse-reverse c)

turned_if : (a : Option (Grown Symbol ℕ)) → map with_label_turned (edges_if reverse a) ≡ edges_if as_is a
turned_if None = refl
turned_if (Some g) = turned_edges g.tree g.label

-- the only tree of one forest becomes the last of another
pub grafted : (fresh old moved new : CodeTrees) → moved.edges ≡ old.edges ++ map with_label_turned fresh.edges → moved.there ≡ old.there → new.edges ≡ moved.edges → new.there ≡ get_or fresh.there 0 false ∷ moved.there → (a : Option (Grown Symbol ℕ)) (rs : List (Option (Grown Symbol ℕ))) → HasCodeTrees reverse fresh (a ∷ []) → HasCodeTrees as_is old rs → HasCodeTrees as_is new (a ∷ rs)
grafted fresh old moved new e f e' f' a rs h h' = (
  e' ∙ e ∙ ap₂ (λ u v. u ++ v) h'.0 (ap (λ z. map with_label_turned z) h.0 ∙ turned_if a),
  f' ∙ ap₂ (λ u v. get_or u 0 false ∷ v) h.1 (f ∙ h'.1),
)
