-- What the loop over a tree's edges keeps, edge by edge.
use Rattle.std.proofs.Common.{◌≡◌, ℕ, ◌<◌, Bool, List, [], ◌∷◌, ◌++◌, inl, inr, ⊎_elim, Option, Some, None, reverse, map, refl, sym, ap, subst, ◌∙◌, append_assoc, append-nil}
use Rattle.std.proofs.lemmas.List.{reverse-append, reverse-reverse}
use Rattle.std.specs.Prelude.{IfSome}
use Rattle.kex_code.specs.declared.symbol.Symbol.{Symbol}
use Rattle.kex_code.specs.Codes.{IsAmong}
use Rattle.kex_model.specs.Moves.{Move, accept, read, choose, forced, go}
use Rattle.kex_model.specs.Labelled.{Labelled, tip, fork, Grown, with_prefix, fork_of}
use Rattle.kex_model.proofs.Shapes.{among-append}
use Rattle.kex_frontier.specs.declared.forest.TreeEdge.{TreeEdge}
use Rattle.kex_frontier.specs.Edges.{Edge, CodeTrees, as_is, edges_of, HasCodeTrees, last_code_tree, with_front, with_fork, IsTipIf, TipsBelow, IsTreeBelow}
use Rattle.kex_frontier.specs.Views.{edge_of, edges_at}
use Rattle.kex_machine.specs.Advancing.{both, left_or_right, at_end, first_accepting}
use Rattle.kex_frontier.specs.Going.{AdvancesCodes, trees_at_end}

pub behind_two : (c d : List Symbol) (a : Option (Grown Symbol ℕ)) → with_prefix c (with_prefix d a) ≡ with_prefix (c ++ d) a
behind_two c d None = refl
behind_two c d (Some g) = ap (λ z. Some (record { label = z; tree = g.tree })) (sym (append_assoc c d g.label))

-- the edges that a stack of edges still has, the last first
abbrev pub left_of : List TreeEdge → List Edge
left_of ts = edges_at (reverse ts)

pub left_pop : (all rest : List TreeEdge) (t : TreeEdge) → all ≡ rest ++ t ∷ [] → left_of all ≡ edge_of t ∷ left_of rest
left_pop all rest t e = ap (λ z. left_of z) e ∙ ap (λ z. edges_at z) (reverse-append rest (t ∷ []))

pub left_start : (all ts : List TreeEdge) → all ≡ reverse ts → left_of all ≡ edges_at ts
left_start all ts e = ap (λ z. left_of z) e ∙ ap (λ z. edges_at z) (reverse-reverse ts)

-- an edge after trees, the last first: it makes a tip, or a fork of the last two
abbrev pub stacked : List Symbol → Option ℕ → List (Grown Symbol ℕ) → Option (List (Grown Symbol ℕ))
stacked c (Some p) ts = Some (record { label = c; tree = tip p } ∷ ts)
stacked c None (r ∷ l ∷ ts) = Some (record { label = c; tree = fork l.label l.tree r.label r.tree } ∷ ts)
stacked c None [] = None
stacked c None (r ∷ []) = None

-- the trees that edges make after others
abbrev pub made : Option (List (Grown Symbol ℕ)) → List Edge → Option (List (Grown Symbol ℕ))
made None ks = None
made (Some ts) [] = Some ts
made (Some ts) (k ∷ ks) = made (stacked k.label k.at ts) ks

made_edges : (t : Labelled Symbol ℕ) (c : List Symbol) (ts : List (Grown Symbol ℕ)) (rest : List Edge) → made (Some ts) (edges_of t c ++ rest) ≡ made (Some (record { label = c; tree = t } ∷ ts)) rest
made_edges (tip p) c ts rest = refl
made_edges (fork x l y r) c ts rest =
    let k : Edge = record { label = c; at = None } in
    ap (λ z. made (Some ts) z) (append_assoc (edges_of l x ++ edges_of r y) (k ∷ []) rest ∙ append_assoc (edges_of l x) (edges_of r y) (k ∷ rest))
    ∙ made_edges l x ts (edges_of r y ++ k ∷ rest)
    ∙ made_edges r y (record { label = x; tree = l } ∷ ts) (k ∷ rest)

abbrev pub whole : Labelled Symbol ℕ → Grown Symbol ℕ
whole t = record { label = []; tree = t }

made_whole : (t : Labelled Symbol ℕ) (ks : List Edge) → ks ≡ edges_of t [] → made (Some []) ks ≡ Some (whole t ∷ [])
made_whole t ks e = ap (λ z. made (Some []) z) (e ∙ sym (append-nil (edges_of t []))) ∙ made_edges t [] [] []

-- each tip is below the count
abbrev pub EachTip : ℕ → List Edge → Type 0
EachTip m ks = (k : Edge) → IsAmong ks k → IfSome k.at (λ p. p < m)

tree_tips : (m : ℕ) (t : Labelled Symbol ℕ) (c : List Symbol) → TipsBelow m t → EachTip m (edges_of t c)
tree_tips m (tip p) c h k i = ⊎_elim (λ e. subst (λ z. IfSome z.at (λ p. p < m)) e h) (λ k. absurd k) i
tree_tips m (fork x l y r) c h k i =
    ⊎_elim
    (λ i. ⊎_elim (λ i. tree_tips m l x h.0 k i) (λ i. tree_tips m r y h.1 k i) (among-append (edges_of l x) (edges_of r y) k i))
    (λ i. ⊎_elim (λ e. subst (λ z. IfSome z.at (λ p. p < m)) e tt) (λ k. absurd k) i)
    (among-append (edges_of l x ++ edges_of r y) (record { label = c; at = None } ∷ []) k i)

pub tips_start : (m : ℕ) (all ts : List TreeEdge) → all ≡ reverse ts → IsTreeBelow m (edges_at ts) → EachTip m (left_of all)
tips_start m all ts e h = subst (λ z. EachTip m z) (sym (left_start all ts e ∙ h.1)) (tree_tips m h.0 [] h.2)

pub tips_left : (m : ℕ) (all rest : List TreeEdge) (t : TreeEdge) → all ≡ rest ++ t ∷ [] → EachTip m (left_of all) → EachTip m (left_of rest)
tips_left m all rest t e h k i = h k (subst (λ z. IsAmong z k) (sym (left_pop all rest t e)) (inr i))

pub tip_first : (m : ℕ) (all rest : List TreeEdge) (t : TreeEdge) → all ≡ rest ++ t ∷ [] → EachTip m (left_of all) → IfSome t.at (λ p. p < m)
tip_first m all rest t e h = h (edge_of t) (subst (λ z. IsAmong z (edge_of t)) (sym (left_pop all rest t e)) (inl refl))

module _ (moves : ℕ → Move ℕ) (b : ℕ) (f0 : List Bool) where
  -- the trees go on one after another, each with its label in front
  abbrev pub Steps : List (Grown Symbol ℕ) → List (Option (Grown Symbol ℕ)) → List Bool → Type 0
  Steps [] [] f = f0 ≡ f
  Steps (t ∷ ts) (r ∷ rs) f = (g : List Bool) × (a : Option (Grown Symbol ℕ)) × Steps ts rs g × AdvancesCodes moves b g t.tree a f × (r ≡ with_prefix t.label a)
  Steps [] (r ∷ rs) f = ⊥
  Steps (t ∷ ts) [] f = ⊥

  -- with the edges that are left the trees that were made make the whole tree, and the forest has what they go on with
  pub record Grows (t : Labelled Symbol ℕ) (f : List Bool) (left : List Edge) (forest : CodeTrees) : Type 0 where
    pub trees : List (Grown Symbol ℕ)
    pub results : List (Option (Grown Symbol ℕ))
    pub makes : made (Some trees) left ≡ Some (whole t ∷ [])
    pub has : HasCodeTrees as_is forest results
    pub steps : Steps trees results f

  pub grows_start : (t : Labelled Symbol ℕ) (all ts : List TreeEdge) (forest : CodeTrees) → all ≡ reverse ts → HasCodeTrees as_is forest [] → edges_at ts ≡ edges_of t [] → Grows t f0 (left_of all) forest
  grows_start t all ts forest e has is = record { trees = []; results = []; makes = made_whole t (left_of all) (left_start all ts e ∙ is); has = has; steps = refl }

  pub grows_tip : (t : Labelled Symbol ℕ) (f f' : List Bool) (all rest : List TreeEdge) (x : TreeEdge) (p : ℕ) (old new : CodeTrees) → all ≡ rest ++ x ∷ [] → x.at ≡ Some p → (a : Option (Grown Symbol ℕ)) × AdvancesCodes moves b f (tip p) a f' × ((rs : List (Option (Grown Symbol ℕ))) → HasCodeTrees as_is old rs → HasCodeTrees as_is new (with_prefix x.label.items a ∷ rs)) → Grows t f (left_of all) old → Grows t f' (left_of rest) new
  grows_tip t f f' all rest x p old new e at (a, adv, done) h = record {
    trees = record { label = x.label.items; tree = tip p } ∷ h.trees;
    results = with_prefix x.label.items a ∷ h.results;
    makes = ap (λ z. made (stacked x.label.items z h.trees) (left_of rest)) (sym at) ∙ ap (λ z. made (Some h.trees) z) (sym (left_pop all rest x e)) ∙ h.makes;
    has = done h.results h.has;
    steps = (f, a, h.steps, adv, refl);
  }

  pub grows_fork : (t : Labelled Symbol ℕ) (f : List Bool) (all rest : List TreeEdge) (x : TreeEdge) (old new : CodeTrees) → all ≡ rest ++ x ∷ [] → x.at ≡ None → ((rs : List (Option (Grown Symbol ℕ))) → HasCodeTrees as_is old rs → HasCodeTrees as_is new (with_front x.label.items (with_fork rs))) → Grows t f (left_of all) old → Grows t f (left_of rest) new
  grows_fork t f all rest x old new e at done h = by h.trees h.results (ap (λ z. made (stacked x.label.items z h.trees) (left_of rest)) (sym at) ∙ ap (λ z. made (Some h.trees) z) (sym (left_pop all rest x e)) ∙ h.makes) h.has h.steps
    where
      by : (ts : List (Grown Symbol ℕ)) (rs : List (Option (Grown Symbol ℕ))) → made (stacked x.label.items None ts) (left_of rest) ≡ Some (whole t ∷ []) → HasCodeTrees as_is old rs → Steps ts rs f → Grows t f (left_of rest) new
      by [] rs m has s = cc
      by (r ∷ []) rs m has s = cc
      by (r ∷ l ∷ ts) [] m has s = absurd s
      by (r ∷ l ∷ ts) (r' ∷ []) m has (g, a, s, adv, is) = absurd s
      by (r ∷ l ∷ ts) (r' ∷ l' ∷ rs) m has (g, a, (g', a', s, adv', is'), adv, is) = record {
        trees = record { label = x.label.items; tree = fork l.label l.tree r.label r.tree } ∷ ts;
        results = with_prefix x.label.items (fork_of l' r') ∷ rs;
        makes = m;
        has = done (r' ∷ l' ∷ rs) has;
        steps = (g', fork_of (with_prefix l.label a') (with_prefix r.label a), s, both adv' adv, ap (λ z. with_prefix x.label.items (fork_of z r')) is' ∙ ap (λ z. with_prefix x.label.items (fork_of (with_prefix l.label a') z)) is);
      }

module _ (moves : ℕ → Move ℕ) where
  -- what of a tree accepts, with its label in front
  abbrev pub found_in : Grown Symbol ℕ → Option (Grown Symbol ℕ)
  found_in g = with_prefix g.label (first_accepting moves g.tree)

  end_tip : (m : Move ℕ) (p : ℕ) → IsTipIf (at_end m p)
  end_tip accept p = (p, refl)
  end_tip (read s t) p = tt
  end_tip (choose l r) p = tt
  end_tip (forced x t) p = tt
  end_tip (go e t) p = tt

  behind_tip : (c : List Symbol) (a : Option (Grown Symbol ℕ)) → IsTipIf a → IsTipIf (with_prefix c a)
  behind_tip c None h = h
  behind_tip c (Some g) h = h

  picked_tip : (a b : Option (Grown Symbol ℕ)) → IsTipIf a → IsTipIf b → IsTipIf (left_or_right a b)
  picked_tip None b h h' = h'
  picked_tip (Some g) b h h' = h

  pub accepting_tip : (t : Labelled Symbol ℕ) → IsTipIf (first_accepting moves t)
  accepting_tip (tip p) = end_tip (moves p) p
  accepting_tip (fork x l y r) = picked_tip (with_prefix x (first_accepting moves l)) (with_prefix y (first_accepting moves r)) (behind_tip x (first_accepting moves l) (accepting_tip l)) (behind_tip y (first_accepting moves r) (accepting_tip r))

  pub record Ends (t : Labelled Symbol ℕ) (left : List Edge) (forest : CodeTrees) : Type 0 where
    pub trees : List (Grown Symbol ℕ)
    pub makes : made (Some trees) left ≡ Some (whole t ∷ [])
    pub has : HasCodeTrees as_is forest (map found_in trees)

  pub ends_start : (t : Labelled Symbol ℕ) (all ts : List TreeEdge) (forest : CodeTrees) → all ≡ reverse ts → HasCodeTrees as_is forest [] → edges_at ts ≡ edges_of t [] → Ends t (left_of all) forest
  ends_start t all ts forest e has is = record { trees = []; makes = made_whole t (left_of all) (left_start all ts e ∙ is); has = has }

  pub ends_edge : (t : Labelled Symbol ℕ) (all rest : List TreeEdge) (x : TreeEdge) (old mid new : CodeTrees) → all ≡ rest ++ x ∷ [] → ((rs : List (Option (Grown Symbol ℕ))) → IsTipIf (last_code_tree rs) → HasCodeTrees as_is old rs → HasCodeTrees as_is mid (trees_at_end moves x.at rs)) → ((rs : List (Option (Grown Symbol ℕ))) → HasCodeTrees as_is mid rs → HasCodeTrees as_is new (with_front x.label.items rs)) → Ends t (left_of all) old → Ends t (left_of rest) new
  ends_edge t all rest x old mid new e done done' h = by x.at h.trees (ap (λ z. made (Some h.trees) z) (sym (left_pop all rest x e)) ∙ h.makes) h.has done
    where
      first_tip : (ts : List (Grown Symbol ℕ)) → IsTipIf (last_code_tree (map found_in ts))
      first_tip [] = tt
      first_tip (t ∷ ts) = behind_tip t.label (first_accepting moves t.tree) (accepting_tip t.tree)

      by : (at : Option ℕ) (ts : List (Grown Symbol ℕ)) → made (stacked x.label.items at ts) (left_of rest) ≡ Some (whole t ∷ []) → HasCodeTrees as_is old (map found_in ts) → ((rs : List (Option (Grown Symbol ℕ))) → IsTipIf (last_code_tree rs) → HasCodeTrees as_is old rs → HasCodeTrees as_is mid (trees_at_end moves at rs)) → Ends t (left_of rest) new
      by (Some p) ts m has done = record { trees = record { label = x.label.items; tree = tip p } ∷ ts; makes = m; has = done' (at_end (moves p) p ∷ map found_in ts) (done (map found_in ts) (first_tip ts) has) }
      by None [] m has done = cc
      by None (r ∷ []) m has done = cc
      by None (r ∷ l ∷ ts) m has done = record { trees = record { label = x.label.items; tree = fork l.label l.tree r.label r.tree } ∷ ts; makes = m; has = done' (left_or_right (found_in l) (found_in r) ∷ map found_in ts) (done (found_in r ∷ found_in l ∷ map found_in ts) (first_tip (r ∷ ts)) has) }
