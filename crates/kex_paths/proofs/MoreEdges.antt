-- Trees on edges are there still when more edges are added, or more labels.
use Rattle.std.proofs.Common.{◌≡◌, ◌≤◌, ℕ, zero, suc, List, [], ◌∷◌, ◌++◌, Option, Some, None, length, refl, subst, append-nil, arith}
use Rattle.std.specs.Prelude.{slice_get}
use Rattle.std.proofs.lemmas.Option.{slice_get_within}
use Rattle.kex_model.specs.Labelled.{Labelled, fork, Grown}
use Rattle.kex_sst.specs.declared.parts.Part.{Part}
use Rattle.kex_paths.specs.declared.forest.LabelCell.{LabelCell}
use Rattle.kex_paths.specs.declared.forest.PathEdge.{PathEdge}
use Rattle.kex_paths.specs.declared.forest.TreeNode.{TreeNode}
use Rattle.kex_paths.specs.declared.forest.TreeNode.TheVariants.{Fork}
use Rattle.kex_paths.specs.Forests.{EdgeStock, IsLabel, no_parts, first_part, IsTreeAt, at_tip, at_fork, LeadsToTree, LeadToEach}

get_more : {A : Type 0} (xs ys : List A) (n : ℕ) (x : A) → slice_get xs n ≡ Some x → slice_get (xs ++ ys) n ≡ Some x
get_more [] ys n x e = cc
get_more (z ∷ xs) ys zero x e = e
get_more (z ∷ xs) ys (suc n) x e = get_more xs ys n x e

label_more : (xs ys : List LabelCell) {n : ℕ} {ps : List Part} → IsLabel xs n ps → IsLabel (xs ++ ys) n ps
label_more xs ys no_parts = no_parts
label_more xs ys (first_part {n = n} {c = c} e le h) = first_part (get_more xs ys n c e) le (label_more xs ys h)

-- these edges and more, with these labels and more
abbrev pub stock_and : EdgeStock → List PathEdge → List LabelCell → EdgeStock
stock_and e xs cs = record { all = e.all ++ xs; cells = e.cells ++ cs }

pub stands_more : (e : EdgeStock) (xs : List PathEdge) (cs : List LabelCell) {k : TreeNode} {t : Labelled Part ℕ} → IsTreeAt e k t → IsTreeAt (stock_and e xs cs) k t
stands_more e xs cs at_tip = at_tip
stands_more e xs cs (at_fork {n = n} {m = m} {x = x} {y = y} h g p q l r) = at_fork (get_more e.all xs n x h) (get_more e.all xs m y g) (label_more e.cells cs p) (label_more e.cells cs q) (stands_more e xs cs l) (stands_more e xs cs r)

pub edge_more : (e : EdgeStock) (xs : List PathEdge) (cs : List LabelCell) (x : Option PathEdge) (t : Option (Grown Part ℕ)) → LeadsToTree e x t → LeadsToTree (stock_and e xs cs) x t
edge_more e xs cs None None h = tt
edge_more e xs cs None (Some g) h = absurd h
edge_more e xs cs (Some x) None h = absurd h
edge_more e xs cs (Some x) (Some g) h = (label_more e.cells cs h.0, stands_more e xs cs h.1)

pub trees_more : (e : EdgeStock) (xs : List PathEdge) (cs : List LabelCell) (roots : List (Option PathEdge)) (ts : List (Option (Grown Part ℕ))) → LeadToEach e roots ts → LeadToEach (stock_and e xs cs) roots ts
trees_more e xs cs [] [] h = tt
trees_more e xs cs [] (t ∷ ts) h = absurd h
trees_more e xs cs (x ∷ roots) [] h = absurd h
trees_more e xs cs (x ∷ roots) (t ∷ ts) h = (edge_more e xs cs x t h.0, trees_more e xs cs roots ts h.1)

at_length : {A : Type 0} (xs : List A) (x y : A) → (slice_get ((xs ++ x ∷ []) ++ y ∷ []) (length xs) ≡ Some x) × (slice_get ((xs ++ x ∷ []) ++ y ∷ []) (suc (length xs)) ≡ Some y)
at_length [] x y = (refl, refl)
at_length (z ∷ xs) x y = at_length xs x y

at_last : {A : Type 0} (xs : List A) (x : A) → slice_get (xs ++ x ∷ []) (length xs) ≡ Some x
at_last [] x = refl
at_last (z ∷ xs) x = at_last xs x

module _ (e : EdgeStock) (x y : PathEdge) where
  -- the two edges are added
  abbrev pub with_two : EdgeStock
  with_two = record { all = (e.all ++ x ∷ []) ++ y ∷ []; cells = e.cells }

  tree_in_two : {k : TreeNode} {t : Labelled Part ℕ} → IsTreeAt e k t → IsTreeAt with_two k t
  tree_in_two {k = k} {t = t} h = subst (λ z. IsTreeAt (record { all = (e.all ++ x ∷ []) ++ y ∷ []; cells = z }) k t) (append-nil e.cells) (subst (λ z. IsTreeAt (record { all = (e.all ++ x ∷ []) ++ y ∷ []; cells = z }) k t) (append-nil (e.cells ++ [])) (stands_more (stock_and e (x ∷ []) []) (y ∷ []) [] (stands_more e (x ∷ []) [] h)))

  -- trees are there still
  pub trees_with_two : (roots : List (Option PathEdge)) (ts : List (Option (Grown Part ℕ))) → LeadToEach e roots ts → LeadToEach with_two roots ts
  trees_with_two roots ts h = subst (λ z. LeadToEach (record { all = (e.all ++ x ∷ []) ++ y ∷ []; cells = z }) roots ts) (append-nil e.cells) (subst (λ z. LeadToEach (record { all = (e.all ++ x ∷ []) ++ y ∷ []; cells = z }) roots ts) (append-nil (e.cells ++ [])) (trees_more (stock_and e (x ∷ []) []) (y ∷ []) [] roots ts (trees_more e (x ∷ []) [] roots ts h)))

  -- a fork of two trees whose edges are the last
  pub fork_stands : (a b : Grown Part ℕ) → LeadsToTree e (Some x) (Some a) → LeadsToTree e (Some y) (Some b) → IsTreeAt with_two (Fork (length e.all) (suc (length e.all))) (fork a.label a.tree b.label b.tree)
  fork_stands a b h k =
      let at = at_length e.all x y in
      at_fork at.0 at.1 h.0 k.0 (tree_in_two h.1) (tree_in_two k.1)

-- a label with a part more in front
pub label_front : (cells : List LabelCell) (part : Part) (n : ℕ) (xs : List Part) → IsLabel cells n xs → IsLabel (cells ++ record { part = part; rest = n } ∷ []) (suc (length cells)) (part ∷ xs)
label_front cells part n xs h = first_part (at_last cells (record { part = part; rest = n })) (number_within n xs h) (label_more cells (record { part = part; rest = n } ∷ []) h)
  where
    number_within : (n : ℕ) (xs : List Part) → IsLabel cells n xs → n ≤ length cells
    number_within n xs no_parts = omega arith
    number_within n xs (first_part {n = m} {c = c} e le h) = slice_get_within cells m c e
