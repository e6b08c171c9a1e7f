-- Trees whose last edge is another.
use Rattle.std.proofs.Common.{◌≡◌, ℕ, suc, ◌<◌, ◌≤◌, List, [], ◌∷◌, ◌++◌, Option, Some, None, length, reverse, get_or, set, take, ap, sym, subst, ◌∙◌, append-nil, arith}
use Rattle.std.proofs.Math.Seq.{take-suc, take-suc-set}
use Rattle.std.proofs.lemmas.List.{take_all, reverse-append, length-set}
use Rattle.kex_model.specs.Labelled.{Grown, with_prefix}
use Rattle.kex_sst.specs.declared.parts.Part.{Part}
use Rattle.kex_paths.specs.declared.forest.PathEdge.{PathEdge}
use Rattle.kex_paths.specs.Forests.{EdgeStock, IsLabel, IsTreeAt, LeadsToTree, LeadToEach, last_tree, trees_before}
use Rattle.kex_paths.proofs.MoreEdges.{stock_and, stands_more, trees_more, label_front}

last_read : {A : Type 0} (xs : List A) (i : ℕ) (x : A) → suc i ≡ length xs → x ≡ get_or xs i x → reverse xs ≡ x ∷ reverse (take i xs)
last_read xs i x long is =
    let lt : i < length xs = omega arith in
    let le : length xs ≤ suc i = omega arith in
    let whole : xs ≡ take i xs ++ get_or xs i x ∷ [] = sym (take_all (suc i) xs le) ∙ take-suc xs i x lt in
    let split : xs ≡ take i xs ++ x ∷ [] = whole ∙ ap (λ z. take i xs ++ z ∷ []) (sym is) in
    ap reverse split ∙ reverse-append (take i xs) (x ∷ [])

last_set : {A : Type 0} (xs : List A) (i : ℕ) (y : A) → suc i ≡ length xs → reverse (set xs i y) ≡ y ∷ reverse (take i xs)
last_set xs i y long =
    let lt : i < length xs = omega arith in
    let le : length (set xs i y) ≤ suc i = omega (arith, length-set xs i y) in
    let split : set xs i y ≡ take i xs ++ y ∷ [] = sym (take_all (suc i) (set xs i y) le) ∙ take-suc-set xs i y lt in
    ap reverse split ∙ reverse-append (take i xs) (y ∷ [])

-- a label is put in front of the last edge's, and the other trees stay
pub last_front : (e n : EdgeStock) (xs : List (Option PathEdge)) (i : ℕ) (part : Part) (x y : Option PathEdge) → suc i ≡ length xs → x ≡ get_or xs i x → ((t : Option (Grown Part ℕ)) → LeadsToTree e x t → LeadsToTree n y (with_prefix (part ∷ []) t)) → ((roots : List (Option PathEdge)) (ts : List (Option (Grown Part ℕ))) → LeadToEach e roots ts → LeadToEach n roots ts) → (rs : List (Option (Grown Part ℕ))) → LeadToEach e (reverse xs) rs → LeadToEach n (reverse (set xs i y)) (with_prefix (part ∷ []) (last_tree rs) ∷ trees_before rs)
last_front e n xs i part x y long is leads stay rs h =
    subst (λ z. LeadToEach n z (with_prefix (part ∷ []) (last_tree rs) ∷ trees_before rs)) (sym (last_set xs i y long)) (changed rs (subst (λ z. LeadToEach e z rs) (last_read xs i x long is) h))
  where
    changed : (ts : List (Option (Grown Part ℕ))) → LeadToEach e (x ∷ reverse (take i xs)) ts → LeadToEach n (y ∷ reverse (take i xs)) (with_prefix (part ∷ []) (last_tree ts) ∷ trees_before ts)
    changed [] k = absurd k
    changed (t ∷ ts) k = (leads t k.0, stay (reverse (take i xs)) ts k.1)

module _ (e : EdgeStock) (part : Part) (x : PathEdge) where
  -- the edges, with a label more: the edge's, and a part in front
  abbrev pub with_label : EdgeStock
  with_label = record { all = e.all; cells = e.cells ++ record { part = part; rest = x.label } ∷ [] }

  none_more : {A : Type 0} (P : EdgeStock → A → Type 0) (v : A) → P (stock_and e [] (record { part = part; rest = x.label } ∷ [])) v → P with_label v
  none_more P v h = subst (λ z. P (record { all = z; cells = e.cells ++ record { part = part; rest = x.label } ∷ [] }) v) (append-nil e.all) h

  pub trees_with_label : (roots : List (Option PathEdge)) (ts : List (Option (Grown Part ℕ))) → LeadToEach e roots ts → LeadToEach with_label roots ts
  trees_with_label roots ts h = none_more (λ z v. LeadToEach z roots v) ts (trees_more e [] (record { part = part; rest = x.label } ∷ []) roots ts h)

  pub front_part : (y : PathEdge) → y.label ≡ suc (length e.cells) → x.node ≡ y.node → (t : Option (Grown Part ℕ)) → LeadsToTree e (Some x) t → LeadsToTree with_label (Some y) (with_prefix (part ∷ []) t)
  front_part y label node None h = absurd h
  front_part y label node (Some g) h = (
    subst (λ z. IsLabel with_label.cells z (part ∷ g.label)) (sym label) (label_front e.cells part x.label g.label h.0),
    subst (λ z. IsTreeAt with_label z g.tree) node (none_more (λ z v. IsTreeAt z x.node v) g.tree (stands_more e [] (record { part = part; rest = x.label } ∷ []) h.1)),
  )

pub front_none : (e : EdgeStock) (part : Part) (t : Option (Grown Part ℕ)) → LeadsToTree e None t → LeadsToTree e None (with_prefix (part ∷ []) t)
front_none e part None h = tt
front_none e part (Some g) h = absurd h
