-- The trees that are kept of targets.
use Rattle.std.proofs.Common.{◌≡◌, ℕ, List, [], ◌∷◌, ◌++◌, inl, inr, ⊎_elim, Option, Some, None, cond, refl, sym, ap, subst, ◌∙◌}
use Rattle.std.specs.Prelude.{nat_eq}
use Rattle.std.specs.Map.{lookup}
use Rattle.std.proofs.lemmas.Bool.{ne_eqb}
use Rattle.std.proofs.lemmas.Bool.Decides.{eqb_tells}
use Rattle.indexmap.specs.IndexMap.{insert_entry}
use Rattle.kex_code.specs.Codes.{IsAmong}
use Rattle.kex_model.specs.Labelled.{Shape}
use Rattle.kex_machine.specs.Nodes.{Graph}
use Rattle.kex_paths.specs.Nexts.{Outline, IsOfShape, inner_of, places_of}
use Rattle.kex_paths.proofs.LeftTrees.{lists_same}
use Rattle.kex_tabfile.specs.Walks.{Target, MeetsTarget}
use Rattle.kex_tabfile.specs.Checking.{TreesOf, AreTargets}
use Rattle.kex_tabfile.proofs.TableRows.{target, still_one}

-- an entry of the state, or none
pub data IsLookup (k : ℕ) : List (ℕ × Outline) → Option Outline → Type 0 where
  found_here : {e : ℕ × Outline} {es : List (ℕ × Outline)} → e.0 ≡ k → IsLookup k (e ∷ es) (Some e.1)
  found_later : {e : ℕ × Outline} {es : List (ℕ × Outline)} {o : Option Outline} → (e.0 ≡ k → ⊥) → IsLookup k es o → IsLookup k (e ∷ es) o
  found_none : IsLookup k [] None

-- what a map looks up
pub lookup_is : (k : ℕ) (entries : List (ℕ × Outline)) (o : Option Outline) → o ≡ lookup (nat_eq k) entries → IsLookup k entries o
lookup_is k [] o e = subst (λ z. IsLookup k [] z) (sym e) found_none
lookup_is k (x ∷ entries) o e = subst (λ z. IsLookup k (x ∷ entries) z) (sym e) (⊎_elim
    (λ h. subst (λ b. IsLookup k (x ∷ entries) (cond b (Some x.1) (lookup (nat_eq k) entries))) (sym h.0) (found_here (sym h.1)))
    (λ h. subst (λ b. IsLookup k (x ∷ entries) (cond b (Some x.1) (lookup (nat_eq k) entries))) (sym h.0) (found_later (λ d. h.1 (sym d)) (lookup_is k entries (lookup (nat_eq k) entries) refl)))
    (eqb_tells k x.0))

-- the tree that is found is that of a target
pub found_target : (g : Graph) (k : ℕ) (entries : List (ℕ × Outline)) (t : Outline) (targets : List Target) → IsLookup k entries (Some t) → TreesOf g entries targets → (s : Shape ℕ) × (t.machine ≡ g) × IsOfShape t s × IsAmong targets (target k s)
found_target g k (e ∷ es) t (x ∷ xs) (found_here is) (at, machine, shape, rest) = (x.tree, machine, shape, inl (same x (sym at ∙ is)))
  where
    same : (x : Target) → x.state ≡ k → x ≡ target k x.tree
    same x e = ap (λ z. target z x.tree) e
found_target g k (e ∷ es) t (x ∷ xs) (found_later apart h) (at, machine, shape, rest) = let r = found_target g k es t xs h rest in (r.0, r.1, r.2, inr r.3)
found_target g k [] t targets h trees = elim h [ ]
found_target g k (e ∷ es) t [] h trees = absurd trees

-- where none is found there is no target
pub no_target : (g : Graph) (k : ℕ) (entries : List (ℕ × Outline)) (targets : List Target) → IsLookup k entries None → TreesOf g entries targets → (s : Shape ℕ) → IsAmong targets (target k s) → ⊥
no_target g k (e ∷ es) (x ∷ xs) (found_later apart h) (at, machine, shape, rest) s (inl is) = apart (at ∙ ap (λ z. z.state) is)
no_target g k (e ∷ es) (x ∷ xs) (found_later apart h) (at, machine, shape, rest) s (inr i) = no_target g k es xs h rest s i
no_target g k [] [] h trees s i = i
no_target g k [] (x ∷ xs) h trees s i = absurd trees
no_target g k (e ∷ es) [] h trees s i = absurd trees

trees_more : (g : Graph) (entries : List (ℕ × Outline)) (targets : List Target) (k : ℕ) (t : Outline) (s : Shape ℕ) → TreesOf g entries targets → t.machine ≡ g → IsOfShape t s → TreesOf g (entries ++ (k, t) ∷ []) (targets ++ target k s ∷ [])
trees_more g [] [] k t s h m shape = (refl, m, shape, tt)
trees_more g (e ∷ es) (x ∷ xs) k t s (at, machine, is, rest) m shape = (at, machine, is, trees_more g es xs k t s rest m shape)
trees_more g [] (x ∷ xs) k t s h m shape = absurd h
trees_more g (e ∷ es) [] k t s h m shape = absurd h

module _ (g : Graph) (entries : List (ℕ × Outline)) (targets : List Target) (h : AreTargets g entries targets) (k : ℕ) (tree : Outline) (m : tree.machine ≡ g) (s : Shape ℕ) (shape : IsOfShape tree s) where
  -- a state that has the tree
  pub meet_known : (known : Outline) → IsLookup k entries (Some known) → known.shape ≡ tree.shape → known.leaves ≡ tree.leaves → (after : List Target) × AreTargets g entries after × MeetsTarget targets (target k s) after
  meet_known known l e f =
      let r = found_target g k entries known targets l h.trees in
      let same : r.0 ≡ s = lists_same r.0 s (sym r.2.0 ∙ e ∙ shape.0) (sym r.2.1 ∙ f ∙ shape.1) in
      (targets, h, inl (subst (λ z. IsAmong targets (target k z)) same r.3, refl))

  -- a state that has another tree
  pub meet_other : (known : Outline) → IsLookup k entries (Some known) → (known.shape ≡ tree.shape → known.leaves ≡ tree.leaves → ⊥) → (after : List Target) → MeetsTarget targets (target k s) after → ⊥
  meet_other known l differs after meets =
      let r = found_target g k entries known targets l h.trees in
      ⊎_elim
      (λ i. let same : r.0 ≡ s = h.one k r.0 s r.3 i.0 in differs (r.2.0 ∙ ap inner_of same ∙ sym shape.0) (r.2.1 ∙ ap places_of same ∙ sym shape.1))
      (λ n. n.0 r.0 r.3)
      meets

  -- a state that is new
  pub meet_new : IsLookup k entries None → (after : List Target) × AreTargets g (entries ++ (k, tree) ∷ []) after × MeetsTarget targets (target k s) after
  meet_new l =
      let meets : MeetsTarget targets (target k s) (targets ++ target k s ∷ []) = inr ((λ x i. no_target g k entries targets l h.trees x i), refl) in
      (targets ++ target k s ∷ [], record { trees = trees_more g entries targets k tree s h.trees m shape; one = still_one g [] targets (target k s) (targets ++ target k s ∷ []) meets h.one }, meets)

-- a new entry goes last
pub insert_new : (k : ℕ) (entries : List (ℕ × Outline)) (t : Outline) → IsLookup k entries None → insert_entry nat_eq entries k t ≡ entries ++ (k, t) ∷ []
insert_new k [] t h = refl
insert_new k (e ∷ es) t (found_later apart h) = ap (λ b. cond b ((e.0, t) ∷ es) (e ∷ insert_entry nat_eq es k t)) (ne_eqb k e.0 (λ d. apart (sym d))) ∙ ap (λ z. e ∷ z) (insert_new k es t h)
