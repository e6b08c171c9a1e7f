-- What is left of trees where some of their leaves are kept: node by node from the last, and how large it is.
use Rattle.std.proofs.Common.{◌≡◌, ℕ, zero, suc, ◌+◌, ◌*◌, ◌<◌, ◌≤◌, Bool, true, false, List, [], ◌∷◌, ◌++◌, Option, Some, None, map, length, get_or, replicate, refl, sym, ap, ap₂, subst, ◌∙◌, append_assoc, append-nil, length-append, arith, if◌then◌else◌}
use Rattle.std.specs.Prelude.{slice_get}
use Rattle.std.proofs.lemmas.List.{replicate-append-replicate}
use Rattle.std.proofs.lemmas.Option.{slice_get-get_or}
use Rattle.kex_model.specs.Labelled.{Labelled, tip, fork, labels_of, Shape, place, parts, shape_of, size_of, Grown, with_prefix, fork_of}
use Rattle.kex_machine.specs.Nodes.{Graph}
use Rattle.kex_machine.specs.Advancing.{EachPlace}
use Rattle.kex_machine.specs.Covering.{restrict, restrict_if}
use Rattle.kex_sst.specs.declared.parts.Part.{Part}
use Rattle.kex_sst.specs.Parts.{Change}
use Rattle.kex_paths.specs.declared.forest.PathEdge.{PathEdge}
use Rattle.kex_paths.specs.declared.walk.TreeToken.{TreeToken}
use Rattle.kex_paths.specs.declared.walk.TreeToken.TheVariants as token
use Rattle.kex_paths.specs.Forests.{EdgeStock, Trees, no_trees, HasTrees, LeadsToTree}
use Rattle.kex_paths.specs.KeptLeaves.{node_left, trees_beside, sides_of, trees_behind, restrict_each, parts_of, restrict_shape}
use Rattle.kex_paths.specs.Nexts.{Outline, IsOfShape, IsChange, inner_of, places_of}
use Rattle.kex_paths.specs.Spellings.{IsTreeSound, token_number, labels_in}
use Rattle.kex_paths.specs.Tasks.{tokens, tokens_from}
use Rattle.kex_paths.proofs.Preorders.{tokens-length, inner-length, tokens_of_lists, key_of_tokens, key_same}

abbrev pub tokens_in : List (Grown Part ℕ) → List TreeToken
tokens_in [] = []
tokens_in (t ∷ ts) = tokens (shape_of t.tree) ++ tokens_in ts

-- one node more
pub behind_next : (n : ℕ) (ts : List (Grown Part ℕ)) → trees_behind (suc n) ts ≡ trees_behind 1 (trees_behind n ts)
behind_next zero ts = refl
behind_next (suc n) [] = refl
behind_next (suc n) (t ∷ ts) = behind_next n (sides_of t.tree ++ ts)

-- after all nodes of a tree come the trees after it
pub behind_tree : (tree : Labelled Part ℕ) (label : List Part) (ts : List (Grown Part ℕ)) (n : ℕ) → trees_behind (size_of (shape_of tree) + n) (record { label = label; tree = tree } ∷ ts) ≡ trees_behind n ts
behind_tree (tip p) label ts n =
    let one : 1 + n ≡ suc n = omega arith in
    ap (λ z. trees_behind z (record { label = label; tree = tip p } ∷ ts)) one
behind_tree (fork x l y r) label ts n =
    let joined : suc (size_of (shape_of l) + size_of (shape_of r)) + n ≡ suc (size_of (shape_of l) + (size_of (shape_of r) + n)) = omega arith in
    ap (λ z. trees_behind z (record { label = label; tree = fork x l y r } ∷ ts)) joined
    ∙ behind_tree l x (record { label = y; tree = r } ∷ ts) (size_of (shape_of r) + n)
    ∙ behind_tree r y ts n

pub none_behind : (a : Grown Part ℕ) → trees_behind (size_of (shape_of a.tree)) (a ∷ []) ≡ []
none_behind a = let more : size_of (shape_of a.tree) ≡ size_of (shape_of a.tree) + 0 = omega arith in ap (λ z. trees_behind z (a ∷ [])) more ∙ behind_tree a.tree a.label [] 0

-- the token and the label of a node are the first of the trees after those before it
pub token_at : (n : ℕ) (ts : List (Grown Part ℕ)) → slice_get (tokens_in ts) n ≡ slice_get (tokens_in (trees_behind n ts)) 0
token_at zero ts = refl
token_at (suc n) [] = refl
token_at (suc n) (t ∷ ts) = step t.tree ∙ token_at n (sides_of t.tree ++ ts)
  where
    step : (tree : Labelled Part ℕ) → slice_get (tokens (shape_of tree) ++ tokens_in ts) (suc n) ≡ slice_get (tokens_in (sides_of tree ++ ts)) n
    step (tip p) = refl
    step (fork x l y r) = ap (λ z. slice_get z n) (append_assoc (tokens (shape_of l)) (tokens (shape_of r)) (tokens_in ts))

pub label_of : (n : ℕ) (ts : List (Grown Part ℕ)) → slice_get (labels_in ts) n ≡ slice_get (labels_in (trees_behind n ts)) 0
label_of zero ts = refl
label_of (suc n) [] = refl
label_of (suc n) (t ∷ ts) = step t.tree ∙ label_of n (sides_of t.tree ++ ts)
  where
    step : (tree : Labelled Part ℕ) → slice_get (labels_of tree ++ labels_in ts) n ≡ slice_get (labels_in (sides_of tree ++ ts)) n
    step (tip p) = refl
    step (fork x l y r) = ap (λ z. slice_get (x ∷ z) n) (append_assoc (labels_of l) (y ∷ labels_of r) (labels_in ts))

module _ (keep : ℕ → Bool) where
  first_left : (x : TreeToken) (label : List Part) (ts : List (Grown Part ℕ)) → slice_get (tokens_in ts) 0 ≡ Some x → slice_get (labels_in ts) 0 ≡ Some label → with_prefix label (node_left keep x (restrict_each keep (trees_behind 1 ts))) ∷ trees_beside x (restrict_each keep (trees_behind 1 ts)) ≡ restrict_each keep ts
  first_left x label [] e f = cc
  first_left x label (t ∷ ts) e f = by t.tree t.label e f
    where
      by : (tree : Labelled Part ℕ) (own : List Part) → slice_get (tokens (shape_of tree) ++ tokens_in ts) 0 ≡ Some x → Some own ≡ Some label → with_prefix label (node_left keep x (restrict_each keep (sides_of tree ++ ts))) ∷ trees_beside x (restrict_each keep (sides_of tree ++ ts)) ≡ with_prefix own (restrict keep tree) ∷ restrict_each keep ts
      by (tip p) own e f =
          let same : x ≡ token.Tip p = cc in
          let is : own ≡ label = cc in
          subst (λ z. with_prefix label (node_left keep z (restrict_each keep ts)) ∷ trees_beside z (restrict_each keep ts) ≡ with_prefix own (restrict keep (tip p)) ∷ restrict_each keep ts) (sym same) (ap (λ z. with_prefix z (restrict keep (tip p)) ∷ restrict_each keep ts) (sym is))
      by (fork u l v r) own e f =
          let same : x ≡ token.Fork = cc in
          let is : own ≡ label = cc in
          subst (λ z. with_prefix label (node_left keep z (restrict_each keep (sides_of (fork u l v r) ++ ts))) ∷ trees_beside z (restrict_each keep (sides_of (fork u l v r) ++ ts)) ≡ with_prefix own (restrict keep (fork u l v r)) ∷ restrict_each keep ts) (sym same) (ap (λ z. with_prefix z (restrict keep (fork u l v r)) ∷ restrict_each keep ts) (sym is))

  -- with one node more
  pub left_more : (n : ℕ) (x : TreeToken) (label : List Part) (ts : List (Grown Part ℕ)) → slice_get (tokens_in ts) n ≡ Some x → slice_get (labels_in ts) n ≡ Some label → with_prefix label (node_left keep x (restrict_each keep (trees_behind (suc n) ts))) ∷ trees_beside x (restrict_each keep (trees_behind (suc n) ts)) ≡ restrict_each keep (trees_behind n ts)
  left_more n x label ts e f = subst (λ z. with_prefix label (node_left keep x (restrict_each keep z)) ∷ trees_beside x (restrict_each keep z) ≡ restrict_each keep (trees_behind n ts)) (sym (behind_next n ts)) (first_left x label (trees_behind n ts) (sym (token_at n ts) ∙ e) (sym (label_of n ts) ∙ f))

  -- before any node there are no trees
  pub first_trees : (a : Grown Part ℕ) (ts : List TreeToken) (w : Trees) → ts ≡ tokens (shape_of a.tree) → w ≡ no_trees → HasTrees w (restrict_each keep (trees_behind (length ts) (a ∷ [])))
  first_trees a ts w e none =
      let behind : trees_behind (length ts) (a ∷ []) ≡ [] = ap (λ z. trees_behind z (a ∷ [])) (ap length e ∙ tokens-length (shape_of a.tree)) ∙ none_behind a in
      subst (λ z. HasTrees w (restrict_each keep z)) (sym behind) (subst (λ z. HasTrees z []) (sym none) tt)

  -- one node more, with its label
  pub next_trees : (a : Grown Part ℕ) (ts : List TreeToken) (u : Change) (n m : ℕ) (label : List Part) (f f' f'' : Trees) → ts ≡ tokens (shape_of a.tree) → IsChange u a → m ≡ suc n → n < length ts → slice_get (u.out ∷ u.regs) n ≡ Some label → ((rs : List (Option (Grown Part ℕ))) → HasTrees f rs → HasTrees f' (node_left keep (get_or ts n token.Fork) rs ∷ trees_beside (get_or ts n token.Fork) rs)) → ((t : Option (Grown Part ℕ)) (rs : List (Option (Grown Part ℕ))) → HasTrees f' (t ∷ rs) → HasTrees f'' (with_prefix label t ∷ rs)) → HasTrees f (restrict_each keep (trees_behind m (a ∷ []))) → HasTrees f'' (restrict_each keep (trees_behind n (a ∷ [])))
  next_trees a ts u n m label f f' f'' e change more lt has node front h =
      let x : TreeToken = get_or ts n token.Fork in
      let rs : List (Option (Grown Part ℕ)) = restrict_each keep (trees_behind (suc n) (a ∷ [])) in
      let here : slice_get (tokens_in (a ∷ [])) n ≡ Some (get_or ts n token.Fork) = ap (λ z. slice_get z n) (append-nil (tokens (shape_of a.tree)) ∙ sym e) ∙ slice_get-get_or ts n token.Fork lt in
      let own : slice_get (labels_in (a ∷ [])) n ≡ Some label = ap (λ z. slice_get z n) (ap₂ (λ y ys. y ∷ ys) (sym change.0) (append-nil (labels_of a.tree) ∙ sym change.1)) ∙ has in
      let all = left_more n (get_or ts n token.Fork) label (a ∷ []) here own in
      let before : HasTrees f (restrict_each keep (trees_behind (suc n) (a ∷ []))) = subst (λ z. HasTrees f (restrict_each keep (trees_behind z (a ∷ [])))) more h in
      subst (λ z. HasTrees f'' z) all (front (node_left keep (get_or ts n token.Fork) rs) (trees_beside (get_or ts n token.Fork) rs) (node rs before))

-- ---- how large it is

abbrev pub PlacesIf : ℕ → Option (Grown Part ℕ) → Type 0
PlacesIf m None = Unit {0}
PlacesIf m (Some a) = EachPlace m (shape_of a.tree)

abbrev pub size_if : Option (Grown Part ℕ) → ℕ
size_if None = 0
size_if (Some a) = size_of (shape_of a.tree)

behind_places : (m : ℕ) (x : List Part) (a : Option (Grown Part ℕ)) → PlacesIf m a → PlacesIf m (with_prefix x a)
behind_places m x None h = h
behind_places m x (Some a) h = h

joined_places : (m : ℕ) (a b : Option (Grown Part ℕ)) → PlacesIf m a → PlacesIf m b → PlacesIf m (fork_of a b)
joined_places m None None h k = tt
joined_places m (Some a) None h k = h
joined_places m None (Some b) h k = k
joined_places m (Some a) (Some b) h k = (h, k)

behind_size : (x : List Part) (a : Option (Grown Part ℕ)) → size_if (with_prefix x a) ≡ size_if a
behind_size x None = refl
behind_size x (Some a) = refl

joined_size : (a b : Option (Grown Part ℕ)) → size_if (fork_of a b) ≤ suc (size_if a + size_if b)
joined_size None None = omega arith
joined_size (Some a) None = omega arith
joined_size None (Some b) = omega arith
joined_size (Some a) (Some b) = omega arith

module _ (keep : ℕ → Bool) where
  tip_places : (b : Bool) (m p : ℕ) → p < m → PlacesIf m (if b then Some (record { label = []; tree = tip p }) else None)
  tip_places true m p lt = lt
  tip_places false m p lt = tt

  tip_size : (b : Bool) (p : ℕ) → size_if (if b then Some (record { label = []; tree = tip p }) else None) ≤ 1
  tip_size true p = omega arith
  tip_size false p = omega arith

  left_places : (m : ℕ) (t : Labelled Part ℕ) → EachPlace m (shape_of t) → PlacesIf m (restrict keep t)
  left_places m (tip p) h = tip_places (keep p) m p h
  left_places m (fork x l y r) h = joined_places m (with_prefix x (restrict keep l)) (with_prefix y (restrict keep r)) (behind_places m x (restrict keep l) (left_places m l h.0)) (behind_places m y (restrict keep r) (left_places m r h.1))

  left_size : (t : Labelled Part ℕ) → size_if (restrict keep t) ≤ size_of (shape_of t)
  left_size (tip p) = tip_size (keep p) p
  left_size (fork x l y r) =
      let both = joined_size (with_prefix x (restrict keep l)) (with_prefix y (restrict keep r)) in
      let one = behind_size x (restrict keep l) in
      let other = behind_size y (restrict keep r) in
      let left = left_size l in
      let right = left_size r in
      omega (arith, both, one, other, left, right)

  pub left_places_if : (m : ℕ) (a : Grown Part ℕ) → EachPlace m (shape_of a.tree) → PlacesIf m (restrict_if keep (Some a))
  left_places_if m a h = behind_places m a.label (restrict keep a.tree) (left_places m a.tree h)

  pub left_size_if : (a : Grown Part ℕ) → size_if (restrict_if keep (Some a)) ≤ size_of (shape_of a.tree)
  left_size_if a = let same = behind_size a.label (restrict keep a.tree) in let left = left_size a.tree in omega (arith, same, left)

-- two lists are of one shape
pub lists_same : (s t : Shape ℕ) → inner_of s ≡ inner_of t → places_of s ≡ places_of t → s ≡ t
lists_same s t e f = key_same s t (sym (key_of_tokens s) ∙ ap (map token_number) (sym (tokens_of_lists s) ∙ ap₂ (λ u v. tokens_from u v) e f ∙ tokens_of_lists t) ∙ key_of_tokens t)

-- ---- without labels

abbrev pub bare : Shape ℕ → Labelled Part ℕ
bare (place p) = tip p
bare (parts l r) = fork [] (bare l) [] (bare r)

pub bare_shape : (s : Shape ℕ) → shape_of (bare s) ≡ s
bare_shape (place p) = refl
bare_shape (parts l r) = ap₂ (λ u v. parts u v) (bare_shape l) (bare_shape r)

one_less : (n : ℕ) (s : Shape ℕ) → n ≡ size_of s → (m : ℕ) × (suc m ≡ size_of s)
one_less n (place p) e = (0, refl)
one_less n (parts l r) e = (size_of l + size_of r, refl)

pub bare_labels : (s : Shape ℕ) (n : ℕ) → suc n ≡ size_of s → labels_of (bare s) ≡ replicate n []
bare_labels (place p) zero e = refl
bare_labels (place p) (suc n) e = cc
bare_labels (parts l r) n e =
    let a = one_less (size_of l) l refl in
    let b = one_less (size_of r) r refl in
    let split : n ≡ suc (a.0 + suc b.0) = omega (arith, e, a.1, b.1) in
    ap (λ z. [] ∷ z) (ap₂ (λ u v. u ++ [] ∷ v) (bare_labels l a.0 a.1) (bare_labels r b.0 b.1) ∙ replicate-append-replicate a.0 (suc b.0) []) ∙ sym (ap (λ z. replicate z []) split)

abbrev pub shape_if : {A : Type 0} → Option (Grown A ℕ) → Option (Shape ℕ)
shape_if None = None
shape_if (Some a) = Some (shape_of a.tree)

behind_shape : {A : Type 0} (x : List A) (a : Option (Grown A ℕ)) → shape_if (with_prefix x a) ≡ shape_if a
behind_shape x None = refl
behind_shape x (Some a) = refl

joined_shape : {A : Type 0} (a b : Option (Grown A ℕ)) → shape_if (fork_of a b) ≡ parts_of (shape_if a) (shape_if b)
joined_shape None None = refl
joined_shape (Some a) None = refl
joined_shape None (Some b) = refl
joined_shape (Some a) (Some b) = refl

tip_shape : (A : Type 0) (b : Bool) (p : ℕ) → shape_if {A = A} (if b then Some (record { label = []; tree = tip p }) else None) ≡ (if b then Some (place p) else None)
tip_shape A true p = refl
tip_shape A false p = refl

module _ {A : Type 0} (keep : ℕ → Bool) where
  -- the shape of what is left goes by the shape alone
  pub left_shape : (t : Labelled A ℕ) → shape_if (restrict keep t) ≡ restrict_shape keep (shape_of t)
  left_shape (tip p) = tip_shape A (keep p) p
  left_shape (fork x l y r) = joined_shape (with_prefix x (restrict keep l)) (with_prefix y (restrict keep r)) ∙ ap₂ (λ u v. parts_of u v) (behind_shape x (restrict keep l) ∙ left_shape l) (behind_shape y (restrict keep r) ∙ left_shape r)

  pub left_shape_if : (a : Grown A ℕ) → shape_if (restrict_if keep (Some a)) ≡ restrict_shape keep (shape_of a.tree)
  left_shape_if a = behind_shape a.label (restrict keep a.tree) ∙ left_shape a.tree

-- ---- what is gathered

pub labels-length : (t : Labelled Part ℕ) → length (labels_of t) + 1 ≡ size_of (shape_of t)
labels-length (tip p) = refl
labels-length (fork x l y r) = omega (arith, length-append (labels_of l) (y ∷ labels_of r), labels-length l, labels-length r)

abbrev pub IsTreeWith : Outline → Change → Type 0
IsTreeWith t u = (a : Grown Part ℕ) × IsOfShape t (shape_of a.tree) × IsChange u a

-- each node but the root has a register
pub regs_fit : (t : Outline) (u : Change) (ts : List TreeToken) → ts ≡ tokens_from t.shape t.leaves → IsTreeWith t u → length ts ≡ length u.regs + 1
regs_fit t u ts e (a, is, change) =
    let text : ts ≡ tokens (shape_of a.tree) = e ∙ ap₂ (λ u v. tokens_from u v) is.0 is.1 ∙ tokens_of_lists (shape_of a.tree) in
    let long = ap length text ∙ tokens-length (shape_of a.tree) in
    omega (arith, long, labels-length a.tree, ap length change.1)

pub none_left : (edges : EdgeStock) (r : Option PathEdge) (t : Option (Grown Part ℕ)) → r ≡ None → LeadsToTree edges r t → t ≡ None
none_left edges None None e l = refl
none_left edges None (Some g) e l = absurd l
none_left edges (Some x) t e l = let bad : ⊥ = cc in absurd bad

module _ (keep : ℕ → Bool) (edges : EdgeStock) (root : PathEdge) where
  abbrev pub LeadsWith : Outline → Change → Type 0
  LeadsWith t u = (a : Grown Part ℕ) → IsOfShape t (shape_of a.tree) → IsChange u a → LeadsToTree edges (Some root) (restrict_if keep (Some a))

  left_fits : (m : ℕ) (a : Grown Part ℕ) → EachPlace m (shape_of a.tree) → size_of (shape_of a.tree) < 2 * m → LeadsToTree edges (Some root) (restrict_if keep (Some a)) → (x : Grown Part ℕ) × LeadsToTree edges (Some root) (Some x) × EachPlace m (shape_of x.tree) × (size_of (shape_of x.tree) < 2 * m)
  left_fits m a h small leads = by (restrict_if keep (Some a)) (left_places_if keep m a h) (left_size_if keep a) leads
    where
      by : (r : Option (Grown Part ℕ)) → PlacesIf m r → size_if r ≤ size_of (shape_of a.tree) → LeadsToTree edges (Some root) r → (x : Grown Part ℕ) × LeadsToTree edges (Some root) (Some x) × EachPlace m (shape_of x.tree) × (size_of (shape_of x.tree) < 2 * m)
      by None p s l = absurd l
      by (Some x) p s l = (x, l, p, omega (arith, s, small))

  pub fits : (g : Graph) (t : Outline) (u : Change) → g ≡ t.machine → IsTreeSound t.machine t.shape t.leaves → IsTreeWith t u → LeadsWith t u → (x : Grown Part ℕ) × LeadsToTree edges (Some root) (Some x) × EachPlace (length g.nodes) (shape_of x.tree) × (size_of (shape_of x.tree) < 2 * length g.nodes)
  fits g t u same sound (a, is, change) leads =
      let one : sound.shape ≡ shape_of a.tree = lists_same sound.shape (shape_of a.tree) (sym sound.inner_is ∙ is.0) (sym sound.places_are ∙ is.1) in
      let count : length t.machine.nodes ≡ length g.nodes = ap (λ z. length z.nodes) (sym same) in
      let places : EachPlace (length g.nodes) (shape_of a.tree) = subst (λ z. EachPlace (length g.nodes) z) one (subst (λ z. EachPlace z sound.shape) count sound.in_range) in
      let small : size_of (shape_of a.tree) < 2 * length g.nodes = subst (λ z. size_of z < 2 * length g.nodes) one (subst (λ z. size_of sound.shape < 2 * z) count sound.small) in
      left_fits (length g.nodes) a places small (leads a is change)

  pub gathered : (a : Grown Part ℕ) (n : Outline) (v : Change) → LeadsToTree edges (Some root) (restrict_if keep (Some a)) → ((x : Grown Part ℕ) → LeadsToTree edges (Some root) (Some x) → IsOfShape n (shape_of x.tree) × IsChange v x) → (k : Grown Part ℕ) × (restrict_if keep (Some a) ≡ Some k) × IsOfShape n (shape_of k.tree) × IsChange v k
  gathered a n v leads got = by (restrict_if keep (Some a)) refl leads
    where
      by : (r : Option (Grown Part ℕ)) → restrict_if keep (Some a) ≡ r → LeadsToTree edges (Some root) r → (k : Grown Part ℕ) × (restrict_if keep (Some a) ≡ Some k) × IsOfShape n (shape_of k.tree) × IsChange v k
      by None e l = absurd l
      by (Some x) e l = let h = got x l in (x, e, h.0, h.1)

-- ---- by the shape alone

pub some_node : (t : Outline) (xs : List Bool) → xs ≡ t.shape → (s : Shape ℕ) × IsOfShape t s → 1 ≤ length xs
some_node t xs e (s, is) =
    let long = ap length (e ∙ is.0) ∙ inner-length s in
    let r = one_less (size_of s) s refl in
    omega (arith, long, r.1)

pub bare_tree : (t : Outline) (u : Change) (n : ℕ) → (s : Shape ℕ) × IsOfShape t s → suc n ≡ length t.shape → u ≡ record { out = []; regs = replicate n [] } → IsTreeWith t u
bare_tree t u n (s, is) e f = (record { label = []; tree = bare s }, subst (λ z. IsOfShape t z) (sym (bare_shape s)) is, (ap (λ z. z.out) f, ap (λ z. z.regs) f ∙ sym (bare_labels s n (e ∙ ap length is.0 ∙ inner-length s))))

module _ (keep : ℕ → Bool) (t : Outline) (u : Change) where
  same_shape : (a : Grown Part ℕ) → IsOfShape t (shape_of a.tree) → (s : Shape ℕ) → IsOfShape t s → restrict_shape keep s ≡ shape_if (restrict_if keep (Some a))
  same_shape a is s it = ap (λ z. restrict_shape keep z) (lists_same s (shape_of a.tree) (sym it.0 ∙ is.0) (sym it.1 ∙ is.1)) ∙ sym (left_shape_if keep a)

  pub left_none : IsTreeWith t u → ((a : Grown Part ℕ) → IsOfShape t (shape_of a.tree) → IsChange u a → restrict_if keep (Some a) ≡ None) → (s : Shape ℕ) → IsOfShape t s → restrict_shape keep s ≡ None
  left_none (a, is, change) h s it = same_shape a is s it ∙ ap (λ z. shape_if z) (h a is change)

  pub left_some : (n : Outline) (v : Change) → IsTreeWith t u → ((a : Grown Part ℕ) → IsOfShape t (shape_of a.tree) → IsChange u a → (k : Grown Part ℕ) × (restrict_if keep (Some a) ≡ Some k) × IsOfShape n (shape_of k.tree) × IsChange v k) → (s : Shape ℕ) → IsOfShape t s → (k : Shape ℕ) × (restrict_shape keep s ≡ Some k) × IsOfShape n k
  left_some n v (a, is, change) h s it = let (k, e, like, now) = h a is change in (shape_of k.tree, same_shape a is s it ∙ ap (λ z. shape_if z) e, like)
