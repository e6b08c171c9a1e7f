-- Trees spelled in preorder: as two lists, as tokens, as numbers, and edge by edge.
use Rattle.std.proofs.Common.{◌≡◌, ℕ, ◌<◌, ◌≤◌, Bool, true, List, [], ◌∷◌, ◌++◌, ⊎_elim, Some, map, length, reverse, drop, refl, sym, ap, ap₂, subst, ◌∙◌, append_assoc, append-nil, length-append, arith}
use Rattle.std.specs.Prelude.{slice_get}
use Rattle.std.proofs.lemmas.List.{reverse-append, map-append}
use Rattle.std.proofs.lemmas.Option.{slice_get_within}
use Rattle.kex_model.specs.Labelled.{Labelled, labels_of, Shape, place, parts, shape_of, size_of, Grown}
use Rattle.kex_model.proofs.Shapes.{among-append}
use Rattle.kex_machine.specs.Advancing.{EachPlace}
use Rattle.kex_sst.specs.declared.parts.Part.{Part}
use Rattle.kex_paths.specs.declared.forest.PathEdge.{PathEdge}
use Rattle.kex_paths.specs.declared.forest.TreeNode.{TreeNode}
use Rattle.kex_paths.specs.declared.walk.TreeToken.{TreeToken}
use Rattle.kex_paths.specs.declared.walk.TreeToken.TheVariants as token
use Rattle.kex_paths.specs.Forests.{EdgeStock, IsLabel, IsTreeAt, at_tip, at_fork, LeadsToTree}
use Rattle.kex_paths.specs.Nexts.{inner_of, places_of}
use Rattle.kex_paths.specs.Tasks.{tokens, tokens_from, IsTipBelow, EachTip}
use Rattle.kex_paths.specs.Spellings.{key_of, token_number, is_inner, tip_in, edges_from, AreEdges, inner_in, places_in, labels_in, IsSpelled}

pub tokens-length : (s : Shape ℕ) → length (tokens s) ≡ size_of s
tokens-length (place p) = refl
tokens-length (parts l r) = omega (arith, length-append (tokens l) (tokens r), tokens-length l, tokens-length r)

pub inner-length : (s : Shape ℕ) → length (inner_of s) ≡ size_of s
inner-length (place p) = refl
inner-length (parts l r) = omega (arith, length-append (inner_of l) (inner_of r), inner-length l, inner-length r)

pub each_tip : (m : ℕ) (s : Shape ℕ) → EachPlace m s → EachTip m (tokens s)
each_tip m (place p) h = λ x i. ⊎_elim (λ e. subst (λ z. IsTipBelow m z) e h) (λ k. absurd k) i
each_tip m (parts l r) h = λ x i. ⊎_elim (λ e. subst (λ z. IsTipBelow m z) e tt) (λ j. ⊎_elim (λ k. each_tip m l h.0 x k) (λ k. each_tip m r h.1 x k) (among-append (tokens l) (tokens r) x j)) i

pub tip_within : (m n : ℕ) (x : TreeToken) → m ≤ n → IsTipBelow m x → IsTipBelow n x
tip_within m n token.Fork le h = tt
tip_within m n (token.Tip p) le h = omega (arith, h, le)

tokens_from-append : (s : Shape ℕ) (xs : List Bool) (ps : List ℕ) → tokens_from (inner_of s ++ xs) (places_of s ++ ps) ≡ tokens s ++ tokens_from xs ps
tokens_from-append (place p) xs ps = refl
tokens_from-append (parts l r) xs ps =
    ap (λ z. token.Fork ∷ z)
    (ap₂ (λ u v. tokens_from u v) (append_assoc (inner_of l) (inner_of r) xs) (append_assoc (places_of l) (places_of r) ps)
    ∙ tokens_from-append l (inner_of r ++ xs) (places_of r ++ ps)
    ∙ ap (λ z. tokens l ++ z) (tokens_from-append r xs ps)
    ∙ sym (append_assoc (tokens l) (tokens r) (tokens_from xs ps)))

-- the two lists of a shape give its tokens
pub tokens_of_lists : (s : Shape ℕ) → tokens_from (inner_of s) (places_of s) ≡ tokens s
tokens_of_lists s = ap₂ (λ u v. tokens_from u v) (sym (append-nil (inner_of s))) (sym (append-nil (places_of s))) ∙ tokens_from-append s [] [] ∙ append-nil (tokens s)

pub key_of_tokens : (s : Shape ℕ) → map token_number (tokens s) ≡ key_of s
key_of_tokens (place p) = refl
key_of_tokens (parts l r) = ap (λ z. 0 ∷ z) (map-append token_number (tokens l) (tokens r) ∙ ap₂ (λ u v. u ++ v) (key_of_tokens l) (key_of_tokens r))

-- a shape is known by its numbers, whatever comes after them
one_key : (s t : Shape ℕ) (x y : List ℕ) → key_of s ++ x ≡ key_of t ++ y → (s ≡ t) × (x ≡ y)
one_key (place p) (place q) x y e = let f : p ≡ q = cc in let g : x ≡ y = cc in (ap (λ z. place z) f, g)
one_key (place p) (parts l r) x y e = let bad : ⊥ = cc in absurd bad
one_key (parts l r) (place p) x y e = let bad : ⊥ = cc in absurd bad
one_key (parts l r) (parts l' r') x y e =
    let f : key_of l ++ (key_of r ++ x) ≡ key_of l' ++ (key_of r' ++ y) = sym (append_assoc (key_of l) (key_of r) x) ∙ behind_first ((key_of l ++ key_of r) ++ x) ((key_of l' ++ key_of r') ++ y) e ∙ append_assoc (key_of l') (key_of r') y in
    let p = one_key l l' (key_of r ++ x) (key_of r' ++ y) f in
    let q = one_key r r' x y p.1 in
    (ap₂ (λ u v. parts u v) p.0 q.0, q.1)
  where
    behind_first : (xs ys : List ℕ) → 0 ∷ xs ≡ 0 ∷ ys → xs ≡ ys
    behind_first xs ys e = cc

-- equal keys are of equal shapes
pub key_same : (s t : Shape ℕ) → key_of s ≡ key_of t → s ≡ t
key_same s t e = (one_key s t [] [] (append-nil (key_of s) ∙ e ∙ sym (append-nil (key_of t)))).0

module _ (xs : List Bool) (ps : List ℕ) (whole : List TreeToken) where
  abbrev pub IsRead : List TreeToken → ℕ → ℕ → Type 0
  IsRead ts i k = ts ++ tokens_from (drop i xs) (drop k ps) ≡ whole

module _ (edges : EdgeStock) where
  -- a node is spelled, before trees that are still to be
  record Opened (k : TreeNode) (t : Labelled Part ℕ) (pending : List ℕ) (ts : List (Grown Part ℕ)) : Type 0 where
    pub left : List (Grown Part ℕ)
    pub are : AreEdges edges (reverse (pending ++ edges_from k)) left
    pub inner_is : inner_of (shape_of t) ++ inner_in ts ≡ is_inner k ∷ inner_in left
    pub places_are : places_of (shape_of t) ++ places_in ts ≡ tip_in k ++ places_in left
    pub labels_are : labels_of t ++ labels_in ts ≡ labels_in left

  opened : {k : TreeNode} {t : Labelled Part ℕ} (pending : List ℕ) (ts : List (Grown Part ℕ)) → IsTreeAt edges k t → AreEdges edges (reverse pending) ts → Opened k t pending ts
  opened pending ts at_tip are = record {
    left = ts;
    are = subst (λ z. AreEdges edges (reverse z) ts) (sym (append-nil pending)) are;
    inner_is = refl;
    places_are = refl;
    labels_are = refl;
  }
  opened pending ts (at_fork {n = n} {m = m} {x = x} {y = y} {u = u} {v = v} {l = l} {r = r} e f p q sl sr) are = record {
    left = first ∷ second ∷ ts;
    are = subst (λ z. AreEdges edges z (first ∷ second ∷ ts)) (sym (reverse-append pending (m ∷ n ∷ []))) (record { edge = x; here = e; label = p; stands = sl }, (record { edge = y; here = f; label = q; stands = sr }, are));
    inner_is = ap (λ z. true ∷ z) (append_assoc (inner_of (shape_of l)) (inner_of (shape_of r)) (inner_in ts));
    places_are = append_assoc (places_of (shape_of l)) (places_of (shape_of r)) (places_in ts);
    labels_are = ap (λ z. u ∷ z) (append_assoc (labels_of l) (v ∷ labels_of r) (labels_in ts));
  }
    where
      first : Grown Part ℕ
      first = record { label = u; tree = l }

      second : Grown Part ℕ
      second = record { label = v; tree = r }

  pub spelled_start : (x : PathEdge) (a : Grown Part ℕ) → LeadsToTree edges (Some x) (Some a) → IsSpelled edges a (is_inner x.node ∷ []) (tip_in x.node) [] (edges_from x.node)
  spelled_start x a h =
      let o = opened [] [] h.1 tt in
      record {
        left = o.left;
        are = o.are;
        inner_is = sym (append-nil (inner_of (shape_of a.tree))) ∙ o.inner_is;
        places_are = sym (append-nil (places_of (shape_of a.tree))) ∙ o.places_are;
        labels_are = sym (append-nil (labels_of a.tree)) ∙ o.labels_are;
      }

  module _ (a : Grown Part ℕ) (inner : List Bool) (places : List ℕ) (labels : List (List Part)) where
    -- the trees that are left, of which there is one for the last edge
    topped : (rest : List ℕ) (i : ℕ) (ts : List (Grown Part ℕ)) → AreEdges edges (reverse (rest ++ i ∷ [])) ts → AreEdges edges (i ∷ reverse rest) ts
    topped rest i ts h = subst (λ z. AreEdges edges z ts) (reverse-append rest (i ∷ [])) h

    pub spelled_more : (rest : List ℕ) (i : ℕ) (x : PathEdge) (xs : List Part) → slice_get edges.all i ≡ Some x → ((ys : List Part) → IsLabel edges.cells x.label ys → xs ≡ ys) → IsSpelled edges a inner places labels (rest ++ i ∷ []) → IsSpelled edges a (inner ++ is_inner x.node ∷ []) (places ++ tip_in x.node) (labels ++ xs ∷ []) (rest ++ edges_from x.node)
    spelled_more rest i x xs e is h = by h.left (topped rest i h.left h.are) h.inner_is h.places_are h.labels_are
      where
        by : (ts : List (Grown Part ℕ)) → AreEdges edges (i ∷ reverse rest) ts → inner_of (shape_of a.tree) ≡ inner ++ inner_in ts → places_of (shape_of a.tree) ≡ places ++ places_in ts → labels_of a.tree ≡ labels ++ labels_in ts → IsSpelled edges a (inner ++ is_inner x.node ∷ []) (places ++ tip_in x.node) (labels ++ xs ∷ []) (rest ++ edges_from x.node)
        by [] h f g k = absurd h
        by (t ∷ ts) (q, are) f g k =
            let same : q.edge ≡ x = one (sym q.here ∙ e) in
            let o = opened rest ts (subst (λ z. IsTreeAt edges z.node t.tree) same q.stands) are in
            let label : xs ≡ t.label = is t.label (subst (λ z. IsLabel edges.cells z.label t.label) same q.label) in
            record {
              left = o.left;
              are = o.are;
              inner_is = f ∙ ap (λ z. inner ++ z) o.inner_is ∙ sym (append_assoc inner (is_inner x.node ∷ []) (inner_in o.left));
              places_are = g ∙ ap (λ z. places ++ z) o.places_are ∙ sym (append_assoc places (tip_in x.node) (places_in o.left));
              labels_are = k ∙ ap₂ (λ u v. labels ++ u ∷ v) (sym label) o.labels_are ∙ sym (append_assoc labels (xs ∷ []) (labels_in o.left));
            }
          where
            one : {y : PathEdge} → Some y ≡ Some x → y ≡ x
            one e = cc

    -- the next edge has a label
    pub next_label : (rest : List ℕ) (i : ℕ) (x : PathEdge) → slice_get edges.all i ≡ Some x → IsSpelled edges a inner places labels (rest ++ i ∷ []) → (xs : List Part) × IsLabel edges.cells x.label xs
    next_label rest i x e h = by h.left (topped rest i h.left h.are)
      where
        by : (ts : List (Grown Part ℕ)) → AreEdges edges (i ∷ reverse rest) ts → (xs : List Part) × IsLabel edges.cells x.label xs
        by [] h = absurd h
        by (t ∷ ts) (q, are) = (t.label, subst (λ z. IsLabel edges.cells z.label t.label) (one (sym q.here ∙ e)) q.label)
          where
            one : {y : PathEdge} → Some y ≡ Some x → y ≡ x
            one e = cc

    some_inner : (s : Shape ℕ) → 0 < length (inner_of s)
    some_inner (place p) = omega arith
    some_inner (parts l r) = omega arith

    -- the number of the next edge is in range, and not all nodes are spelled
    pub next_edge : (rest : List ℕ) (i : ℕ) → IsSpelled edges a inner places labels (rest ++ i ∷ []) → (i < length edges.all) × (length inner < size_of (shape_of a.tree))
    next_edge rest i h = by h.left (topped rest i h.left h.are) h.inner_is
      where
        by : (ts : List (Grown Part ℕ)) → AreEdges edges (i ∷ reverse rest) ts → inner_of (shape_of a.tree) ≡ inner ++ inner_in ts → (i < length edges.all) × (length inner < size_of (shape_of a.tree))
        by [] h f = absurd h
        by (t ∷ ts) (q, are) f =
            let some = some_inner (shape_of t.tree) in
            let whole = ap length f in
            (slice_get_within edges.all i q.edge q.here, omega (arith, inner-length (shape_of a.tree), length-append inner (inner_of (shape_of t.tree) ++ inner_in ts), length-append (inner_of (shape_of t.tree)) (inner_in ts)))

  -- the same, of equal lists
  pub spelled_as : (a : Grown Part ℕ) (inner inner' : List Bool) (places places' : List ℕ) (labels labels' : List (List Part)) (pending pending' : List ℕ) → inner' ≡ inner → places' ≡ places → labels' ≡ labels → pending' ≡ pending → IsSpelled edges a inner places labels pending → IsSpelled edges a inner' places' labels' pending'
  spelled_as a inner inner' places places' labels labels' pending pending' e f g k h = record {
    left = h.left;
    are = subst (λ z. AreEdges edges (reverse z) h.left) (sym k) h.are;
    inner_is = h.inner_is ∙ ap (λ z. z ++ inner_in h.left) (sym e);
    places_are = h.places_are ∙ ap (λ z. z ++ places_in h.left) (sym f);
    labels_are = h.labels_are ∙ ap (λ z. z ++ labels_in h.left) (sym g);
  }
