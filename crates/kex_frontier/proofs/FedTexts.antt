-- A frontier that was fed a text, after a byte, after the end, and after symbols are taken.
use Rattle.std.proofs.Common.{◌≡◌, ℕ, ◌<◌, Bool, true, false, List, [], ◌∷◌, ◌++◌, ◌⊎◌, inl, inr, ⊎_elim, Option, Some, None, length, replicate, refl, sym, ap, subst, ◌∙◌, append_assoc, append-nil, length-set}
use Rattle.std.proofs.lemmas.List.{length-replicate}
use Rattle.kex_code.specs.declared.symbol.Symbol.{Symbol}
use Rattle.kex_code.specs.declared.symbol.Symbol.TheVariants.{L, R, Byte}
use Rattle.kex_model.specs.Moves.{Move, symbol_of}
use Rattle.kex_model.specs.Labelled.{Labelled, tip, fork, Grown, with_prefix, fork_of}
use Rattle.kex_model.specs.Survivors.{HasTree}
use Rattle.kex_model.proofs.Shapes.{tree_agrees}
use Rattle.kex_machine.specs.Nodes.{node_moves}
use Rattle.kex_machine.specs.Answers.{IsViableFor, HasRun, IsSaid, IsGreedy}
use Rattle.kex_frontier.specs.Edges.{Edge, edges_of, is_there, root_label, bare_edges, TipsBelow, IsTreeBelow, IsKeptTree}
use Rattle.kex_machine.specs.Advancing.{known, stops, parts_off, is_forced, passes_on, dies, reads_on, both, first_accepting}
use Rattle.kex_frontier.specs.Going.{VisitsCodes, AdvancesCodes, TreeWentOn}
use Rattle.kex_frontier.specs.declared.forest.TreeEdge.{TreeEdge}
use Rattle.kex_frontier.specs.Views.{edges_at}
use Rattle.kex_frontier.specs.declared.frontier.Fed.TheVariants.{Dead}
use Rattle.kex_frontier.specs.declared.frontier.Ended.TheVariants.{Cut}
use Rattle.kex_frontier.specs.Frontiers.{Front, IsFed, IsFedBy, IsOver, answer_of, end_answer}
use Rattle.kex_machine.proofs.Nexts.{IsTrim, next_shows, first_shows}
use Rattle.kex_machine.proofs.LongestFronts.{viable_before, said_of_tree, said_later, no_parse}
use Rattle.kex_machine.proofs.AcceptingTips.{none_parses, greedy_found}

-- the tree's tips, if it is there, are below the count
abbrev pub TipsIf : ℕ → Option (Grown Symbol ℕ) → Type 0
TipsIf m None = Unit {0}
TipsIf m (Some g) = TipsBelow m g.tree

behind_tips : (m : ℕ) (c : List Symbol) (a : Option (Grown Symbol ℕ)) → TipsIf m a → TipsIf m (with_prefix c a)
behind_tips m c None h = h
behind_tips m c (Some g) h = h

joined_tips : (m : ℕ) (a b : Option (Grown Symbol ℕ)) → TipsIf m a → TipsIf m b → TipsIf m (fork_of a b)
joined_tips m None None h h' = tt
joined_tips m None (Some r) h h' = h'
joined_tips m (Some l) None h h' = h
joined_tips m (Some l) (Some r) h h' = (h, h')

module _ (moves : ℕ → Move ℕ) (m : ℕ) where
  visit_tips : {f g : List Bool} {n : ℕ} {a : Option (Grown Symbol ℕ)} → VisitsCodes moves f n a g → length f ≡ m → (length g ≡ m) × TipsIf m a
  visit_tips (known e) l = (l, tt)
  visit_tips {f = f} (stops {n = n} lt e w) l = (length-set f n true ∙ l, subst (λ z. n < z) l lt)
  visit_tips {f = f} (parts_off {n = n} {a = a} {b = b} lt e mv va vb) l =
      let p = visit_tips va (length-set f n true ∙ l) in
      let q = visit_tips vb p.0 in
      (q.0, joined_tips m (with_prefix (L ∷ []) a) (with_prefix (R ∷ []) b) (behind_tips m (L ∷ []) a p.1) (behind_tips m (R ∷ []) b q.1))
  visit_tips {f = f} (is_forced {n = n} {x = x} {a = a} lt e mv va) l = let p = visit_tips va (length-set f n true ∙ l) in (p.0, behind_tips m (symbol_of x ∷ []) a p.1)
  visit_tips {f = f} (passes_on {n = n} lt e mv va) l = visit_tips va (length-set f n true ∙ l)

  advance_tips : {b : ℕ} {f g : List Bool} {t : Labelled Symbol ℕ} {a : Option (Grown Symbol ℕ)} → AdvancesCodes moves b f t a g → length f ≡ m → (length g ≡ m) × TipsIf m a
  advance_tips (dies h) l = (l, tt)
  advance_tips {b = b} (reads_on {a = a} h v) l = let p = visit_tips v l in (p.0, behind_tips m (Byte b ∷ []) a p.1)
  advance_tips (both {u = u} {v = v} {x = x} {y = y} va vb) l =
      let p = advance_tips va l in
      let q = advance_tips vb p.0 in
      (q.0, joined_tips m (with_prefix u x) (with_prefix v y) (behind_tips m u x p.1) (behind_tips m v y q.1))

  bare_kept : (a : Option (Grown Symbol ℕ)) (ks : List Edge) → ks ≡ bare_edges a → TipsIf m a → (ks ≡ []) ⊎ IsTreeBelow m ks
  bare_kept None ks e h = inl e
  bare_kept (Some g) ks e h = inr (g.tree, e, h)

  pub went_kept : (b : ℕ) (t : Labelled Symbol ℕ) (there : Bool) (before after : List Symbol) (ks : List Edge) (marks : List Bool) → length marks ≡ m → TreeWentOn moves b m t there before after ks → IsKeptTree m ks marks
  went_kept b t there before after ks marks l w = record { long = l; tree = bare_kept w.grown ks w.has (advance_tips w.advances (length-replicate m false)).1 }

  pub first_kept : (start : ℕ) (a : Option (Grown Symbol ℕ)) (g : List Bool) (ks : List Edge) (marks : List Bool) → VisitsCodes moves (replicate m false) start a g → length marks ≡ m → ks ≡ bare_edges a → IsKeptTree m ks marks
  first_kept start a g ks marks v l e = record { long = l; tree = bare_kept a ks e (visit_tips v (length-replicate m false)).1 }

no_edges : (t : Labelled Symbol ℕ) (c : List Symbol) → edges_of t c ≡ [] → ⊥
no_edges (tip p) c e = cc
no_edges (fork x l y r) c e = none (edges_of l x ++ edges_of r y) e
  where
    none : (ks : List Edge) → ks ++ record { label = c; at = None } ∷ [] ≡ [] → ⊥
    none [] e = cc
    none (k ∷ ks) e = cc

pub kept_tree : (m : ℕ) (ks : List Edge) (marks : List Bool) → IsKeptTree m ks marks → (ks ≡ [] → ⊥) → IsTreeBelow m ks
kept_tree m ks marks h some = ⊎_elim (λ e. absurd (some e)) (λ t. t) h.tree

-- what is agreed is said of a text that a frontier was fed
pub said_of_fed : (f : Front) (w : List ℕ) (taken : List Symbol) → IsTrim (node_moves f.machine.nodes) f.machine.start → IsFed f w taken → IsSaid f.machine w (taken ++ f.untaken)
said_of_fed f w taken trim h = ⊎_elim (λ l. said_of_tree f.machine trim w (taken ++ f.untaken) l.0 l.1) (λ d. d.1) h

module _ (f : Front) (w : List ℕ) (taken : List Symbol) (trim : IsTrim (node_moves f.machine.nodes) f.machine.start) where
  -- with a byte a live frontier has the tree of the longer text, or is dead
  went_live : (b m : ℕ) (t : Labelled Symbol ℕ) (new : Front) → new.machine ≡ f.machine → HasTree (node_moves f.machine.nodes) f.machine.start w (taken ++ f.untaken) t → (a : Option (Grown Symbol ℕ)) (g : List Bool) → AdvancesCodes (node_moves f.machine.nodes) b (replicate m false) t a g → new.untaken ≡ f.untaken ++ root_label a → new.edges ≡ bare_edges a → IsFedBy (answer_of (is_there a)) new (w ++ b ∷ []) taken
  went_live b m t new same has None g v code edges =
      let dead : ¬ IsViableFor f.machine (w ++ b ∷ []) = next_shows (node_moves f.machine.nodes) f.machine.start trim w (taken ++ f.untaken) t has b m None g v in
      let said : IsSaid f.machine (w ++ b ∷ []) (taken ++ f.untaken) = said_later f.machine trim w b (taken ++ f.untaken) (said_of_tree f.machine trim w (taken ++ f.untaken) t has) dead in
      let kept : taken ++ new.untaken ≡ taken ++ f.untaken = ap (λ z. taken ++ z) (code ∙ append-nil f.untaken) in
      (subst (λ z. ¬ IsViableFor z (w ++ b ∷ [])) (sym same) dead, inr (subst (λ z. ¬ IsViableFor z (w ++ b ∷ [])) (sym same) dead, subst (λ z. IsSaid z (w ++ b ∷ []) (taken ++ new.untaken)) (sym same) (subst (λ z. IsSaid f.machine (w ++ b ∷ []) z) (sym kept) said), edges))
  went_live b m t new same has (Some s) g v code edges =
      let tree : HasTree (node_moves f.machine.nodes) f.machine.start (w ++ b ∷ []) ((taken ++ f.untaken) ++ s.label) s.tree = next_shows (node_moves f.machine.nodes) f.machine.start trim w (taken ++ f.untaken) t has b m (Some s) g v in
      let kept : taken ++ new.untaken ≡ (taken ++ f.untaken) ++ s.label = ap (λ z. taken ++ z) code ∙ sym (append_assoc taken f.untaken s.label) in
      let here : HasTree (node_moves new.machine.nodes) new.machine.start (w ++ b ∷ []) (taken ++ new.untaken) s.tree = subst (λ z. HasTree (node_moves z.nodes) z.start (w ++ b ∷ []) (taken ++ new.untaken) s.tree) (sym same) (subst (λ z. HasTree (node_moves f.machine.nodes) f.machine.start (w ++ b ∷ []) z s.tree) (sym kept) tree) in
      ((tree_agrees (node_moves new.machine.nodes) new.machine.start (w ++ b ∷ []) (taken ++ new.untaken) s.tree here).viable, inl (s.tree, here, edges))

  pub fed : (b m : ℕ) (there : Bool) (new : Front) → new.machine ≡ f.machine → (f.edges ≡ [] → ⊥) → ((t : Labelled Symbol ℕ) → f.edges ≡ edges_of t [] → TreeWentOn (node_moves f.machine.nodes) b m t there f.untaken new.untaken new.edges) → IsFed f w taken → IsFedBy (answer_of there) new (w ++ b ∷ []) taken
  fed b m there new same some went h =
      ⊎_elim
      (λ l. let x = went l.0 l.2 in subst (λ z. IsFedBy (answer_of z) new (w ++ b ∷ []) taken) (sym x.tells) (went_live b m l.0 new same l.1 x.grown x.marks x.advances x.code x.has))
      (λ d. absurd (some d.2))
      h

  pub fed_dead : (b : ℕ) → f.edges ≡ [] → IsFed f w taken → IsFedBy Dead f (w ++ b ∷ []) taken
  fed_dead b none h =
      ⊎_elim
      (λ l. absurd (no_edges l.0 [] (sym l.2 ∙ none)))
      (λ d.
      let dead : ¬ IsViableFor f.machine (w ++ b ∷ []) = λ v. d.0 (viable_before f.machine trim w b v) in
      (dead, inr (dead, said_later f.machine trim w b (taken ++ f.untaken) d.1 dead, none)))
      h

  pub over_dead : f.edges ≡ [] → IsFed f w taken → (new : Front) → new.machine ≡ f.machine → new.untaken ≡ f.untaken → IsOver Cut new w taken
  over_dead none h new same code =
      ⊎_elim
      (λ l. absurd (no_edges l.0 [] (sym l.2 ∙ none)))
      (λ d. (
        subst (λ z. ¬ HasRun z w) (sym same) (no_parse f.machine trim w d.0),
        subst (λ z. IsSaid z w (taken ++ new.untaken)) (sym same) (subst (λ z. IsSaid f.machine w (taken ++ z)) (sym code) d.1),
      ))
      h

  -- the end
  over_live : (t : Labelled Symbol ℕ) (new : Front) → new.machine ≡ f.machine → HasTree (node_moves f.machine.nodes) f.machine.start w (taken ++ f.untaken) t → (a : Option (Grown Symbol ℕ)) → first_accepting (node_moves f.machine.nodes) t ≡ a → new.untaken ≡ f.untaken ++ root_label a → IsOver (end_answer (is_there a)) new w taken
  over_live t new same has None e code = (
    subst (λ z. ¬ HasRun z w) (sym same) (none_parses f.machine trim w (taken ++ f.untaken) t has e),
    subst (λ z. IsSaid z w (taken ++ new.untaken)) (sym same) (subst (λ z. IsSaid f.machine w (taken ++ z)) (sym (code ∙ append-nil f.untaken)) (said_of_tree f.machine trim w (taken ++ f.untaken) t has)),
  )
  over_live t new same has (Some s) e code =
      subst (λ z. IsGreedy z w (taken ++ new.untaken)) (sym same) (subst (λ z. IsGreedy f.machine w z) (sym (ap (λ z. taken ++ z) code ∙ sym (append_assoc taken f.untaken s.label))) (greedy_found f.machine trim w (taken ++ f.untaken) t has s e))

  pub over : (there : Bool) (new : Front) → new.machine ≡ f.machine → (f.edges ≡ [] → ⊥) → ((t : Labelled Symbol ℕ) → f.edges ≡ edges_of t [] → (there ≡ is_there (first_accepting (node_moves f.machine.nodes) t)) × (new.untaken ≡ f.untaken ++ root_label (first_accepting (node_moves f.machine.nodes) t))) → IsFed f w taken → IsOver (end_answer there) new w taken
  over there new same some ends h =
      ⊎_elim
      (λ l. let x = ends l.0 l.2 in subst (λ z. IsOver (end_answer z) new w taken) (sym x.0) (over_live l.0 new same l.1 (first_accepting (node_moves f.machine.nodes) l.0) refl x.1))
      (λ d. absurd (some d.2))
      h

-- the frontier of the empty text
pub begins : (f : Front) (m : ℕ) (a : Option (Grown Symbol ℕ)) (g : List Bool) → IsTrim (node_moves f.machine.nodes) f.machine.start → VisitsCodes (node_moves f.machine.nodes) (replicate m false) f.machine.start a g → f.untaken ≡ root_label a → f.edges ≡ bare_edges a → IsFed f [] []
begins f m None g trim v code edges = absurd (first_shows (node_moves f.machine.nodes) f.machine.start trim m None g v)
begins f m (Some s) g trim v code edges = inl (s.tree, subst (λ z. HasTree (node_moves f.machine.nodes) f.machine.start [] z s.tree) (sym code) (first_shows (node_moves f.machine.nodes) f.machine.start trim m (Some s) g v), edges)

-- what was agreed is taken
pub code_taken : (old new : Front) (w : List ℕ) (taken code : List Symbol) → IsTrim (node_moves old.machine.nodes) old.machine.start → new.machine ≡ old.machine → new.edges ≡ old.edges → new.untaken ≡ [] → code ≡ old.untaken → IsFed old w taken → IsFed new w (taken ++ code) × IsSaid old.machine w (taken ++ code)
code_taken old new w taken code trim same edges none is h = (
  ⊎_elim
      (λ l. inl (l.0, subst (λ z. HasTree (node_moves z.nodes) z.start w ((taken ++ code) ++ new.untaken) l.0) (sym same) (subst (λ z. HasTree (node_moves old.machine.nodes) old.machine.start w z l.0) (sym kept) l.1), edges ∙ l.2))
      (λ d. inr (subst (λ z. ¬ IsViableFor z w) (sym same) d.0, subst (λ z. IsSaid z w ((taken ++ code) ++ new.untaken)) (sym same) (subst (λ z. IsSaid old.machine w z) (sym kept) d.1), edges ∙ d.2))
      h,
  subst (λ z. IsSaid old.machine w (taken ++ z)) (sym is) (said_of_fed old w taken trim h),
)
  where
    kept : (taken ++ code) ++ new.untaken ≡ taken ++ old.untaken
    kept = ap (λ z. (taken ++ code) ++ z) none ∙ append-nil (taken ++ code) ∙ ap (λ z. taken ++ z) is

pub nothing_behind : (a : Option (Grown Symbol ℕ)) (c : List Symbol) → c ≡ [] → with_prefix c a ≡ a
nothing_behind None c e = refl
nothing_behind (Some g) c e = ap (λ z. Some (record { label = z ++ g.label; tree = g.tree })) e

edges_none : (ts : List TreeEdge) → edges_at ts ≡ [] → ts ≡ []
edges_none [] e = refl
edges_none (t ∷ ts) e = cc

pub some_edges : (ts : List TreeEdge) → (length ts ≡ 0 → ⊥) → edges_at ts ≡ [] → ⊥
some_edges ts some e = some (ap length (edges_none ts e))
