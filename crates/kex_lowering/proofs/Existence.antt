-- On each text a trimmed machine has an answer: its tree can be made byte by byte.
use Rattle.std.proofs.Common.{◌≡◌, ℕ, zero, suc, ◌<◌, ◌≤◌, Bool, true, false, List, [], ◌∷◌, ◌++◌, ◌⊎◌, inl, inr, ⊎_elim, Option, Some, None, length, take, get_or, set, replicate, refl, sym, ap, subst, ◌∙◌, append_assoc, append-nil, length-set, arith}
use Rattle.std.specs.Prelude.{IsTrue, slice_get}
use Rattle.std.proofs.lemmas.Option.{slice_get-get_or, slice_get_within}
use Rattle.std.proofs.lemmas.List.{length-replicate, take_all}
use Rattle.kex_code.specs.declared.symbol.Symbol.{Symbol}
use Rattle.kex_code.specs.declared.symbol.Symbol.TheVariants.{Byte}
use Rattle.kex_code.specs.Codes.{Begins, bytes_of, HasNumber, IsAmong}
use Rattle.kex_model.specs.Programs.{Grammar}
use Rattle.kex_model.specs.Moves.{Move, accept, read, choose, forced, go, Step, took, Allows, reads, code_of, IsWaiting}
use Rattle.kex_model.specs.Labelled.{Labelled, tip, fork, Grown, leaves_of}
use Rattle.kex_model.specs.Survivors.{Agreed, IsPath, LeadsToEnd, LongestViable, HasTree, Survives}
use Rattle.kex_model.specs.Answers.{Answer, LongestGood, Pipeline, Report, bad_byte, too_long, cut_off, whole, still_open}
use Rattle.kex_model.specs.Alike.{Alike}
use Rattle.kex_model.proofs.Tables.{some_same}
use Rattle.kex_model.proofs.Walks.{bytes_of-append}
use Rattle.kex_model.proofs.Derivations.{code_of-append, walk-append}
use Rattle.kex_model.proofs.Shapes.{tree_agrees}
use Rattle.kex_machine.specs.declared.MNode.{MNode}
use Rattle.kex_machine.specs.Nodes.{Graph, move_of, node_moves, IsTrimmed, MoveBelow, StaysWithin}
use Rattle.kex_machine.specs.Advancing.{itself, Visits, known, stops, parts_off, is_forced, passes_on, Advances, dies, reads_on, both, first_accepting}
use Rattle.kex_machine.specs.Answers.{IsViableFor, HasRun, IsGreedy, SaysByRun, MeansByRun, MachineAnswers}
use Rattle.kex_machine.proofs.Nexts.{IsTrim, ShowsFirst, ShowsTree, first_shows, next_shows}
use Rattle.kex_machine.proofs.Ranges.{is_trim, trimmed_by_ends}
use Rattle.kex_machine.proofs.LongestFronts.{longest_self, longest_later, viable_before}
use Rattle.kex_machine.proofs.AcceptingTips.{none_parses, greedy_found}
use Rattle.kex_machine.proofs.Sizes.{unseen, unseen-set, visit_fits, advance_fits}
use Rattle.kex_trim.specs.Trim.{IsTrimOf, KeepsMove, still_accepts, still_reads, still_chooses, only_left, only_right, still_forced, still_goes}
use Rattle.kex_trim.proofs.KeptNodes.{alike_kept}
use Rattle.kex_lowering.specs.Existence.{MachineHasAnswers}
use Rattle.kex_lowering.specs.Stages.{IsKeptOf}
use Rattle.kex_lowering.proofs.Pairs.{end_ahead}
use Rattle.kex_lowering.proofs.PairedNodes.{carries}
use Rattle.kex_model.specs.Laws as stages

not_true : {x : Bool} → x ≡ false → IsTrue x → ⊥
not_true e h = cc

module _ (moves : ℕ → Move ℕ) (m : ℕ) (within : (n : ℕ) → n < m → MoveBelow m (moves n)) where
  -- what a visit from place n finds, and what is marked then
  abbrev Visit : List Bool → ℕ → Type 0
  Visit f n = (a : Option (Grown Symbol ℕ)) × (g : List Bool) × Visits itself moves f n a g

  abbrev VisitsBelow : ℕ → Type 0
  VisitsBelow k = (f : List Bool) (n : ℕ) → length f ≡ m → n < m → unseen f ≤ k → Visit f n

  -- the visit of a place that isn't marked, where those that mark less are there
  by_move : (k : ℕ) → VisitsBelow k → (f : List Bool) (n : ℕ) → length f ≡ m → n < m → unseen f ≤ suc k → get_or f n false ≡ false → (v : Move ℕ) → moves n ≡ v → MoveBelow m v → Visit f n
  by_move k less f n e lt h x accept v b = (_, _, stops (omega (arith, e, lt)) x (subst (λ z. IsWaiting z) (sym v) tt))
  by_move k less f n e lt h x (read s t) v b = (_, _, stops (omega (arith, e, lt)) x (subst (λ z. IsWaiting z) (sym v) tt))
  by_move k less f n e lt h x (choose l r) v b =
      let in_f : n < length f = omega (arith, e, lt) in
      let long : length (set f n true) ≡ m = length-set f n true ∙ e in
      let few : unseen (set f n true) ≤ k = omega (arith, h, unseen-set f n in_f x) in
      let left = less (set f n true) l long b.0 few in
      let fits = visit_fits m left.2 long in
      let right = less left.1 r fits.long b.1 (omega (arith, few, fits.small)) in
      (_, right.1, parts_off in_f x v left.2 right.2)
  by_move k less f n e lt h x (forced y t) v b =
      let in_f : n < length f = omega (arith, e, lt) in
      let on = less (set f n true) t (length-set f n true ∙ e) b (omega (arith, h, unseen-set f n in_f x)) in
      (_, on.1, is_forced in_f x v on.2)
  by_move k less f n e lt h x (go y t) v b =
      let in_f : n < length f = omega (arith, e, lt) in
      let on = less (set f n true) t (length-set f n true ∙ e) b (omega (arith, h, unseen-set f n in_f x)) in
      (_, on.1, passes_on in_f x v on.2)

  by_mark : (k : ℕ) → ((f : List Bool) (n : ℕ) → length f ≡ m → n < m → unseen f ≤ k → get_or f n false ≡ false → Visit f n) → VisitsBelow k
  by_mark k fresh f n e lt h = by (get_or f n false) refl
    where
      by : (x : Bool) → get_or f n false ≡ x → Visit f n
      by true x = (None, f, known x)
      by false x = fresh f n e lt h x

  -- from each place there is a visit
  visit : (k : ℕ) → VisitsBelow k
  visit zero = by_mark zero (λ f n e lt h x. absurd (omega (arith, e, lt, h, unseen-set f n (omega (arith, e, lt)) x)))
  visit (suc k) = by_mark (suc k) (λ f n e lt h x. by_move k (visit k) f n e lt h x (moves n) refl (within n lt))

  module _ (b : ℕ) (outside : (n : ℕ) → (n < m) ⊎ (moves n ≡ accept)) where
    abbrev Advance : List Bool → Labelled Symbol ℕ → Type 0
    Advance f t = (a : Option (Grown Symbol ℕ)) × (g : List Bool) × Advances itself (Byte b) moves b f t a g

    at_tip : (f : List Bool) (p : ℕ) → length f ≡ m → (v : Move ℕ) → moves p ≡ v → MoveBelow m v → Advance f (tip p)
    at_tip f p e accept v h = (None, f, dies (λ t a. none (subst (λ z. Allows z (took b t)) v a)))
      where
        none : {t : ℕ} → Allows accept (took b t) → ⊥
        none a = elim a [ ]
    at_tip f p e (choose l r) v h = (None, f, dies (λ t a. none (subst (λ z. Allows z (took b t)) v a)))
      where
        none : {t : ℕ} → Allows (choose l r) (took b t) → ⊥
        none a = elim a [ ]
    at_tip f p e (forced y t) v h = (None, f, dies (λ u a. none (subst (λ z. Allows z (took b u)) v a)))
      where
        none : {u : ℕ} → Allows (forced y t) (took b u) → ⊥
        none a = elim a [ ]
    at_tip f p e (go y t) v h = (None, f, dies (λ u a. none (subst (λ z. Allows z (took b u)) v a)))
      where
        none : {u : ℕ} → Allows (go y t) (took b u) → ⊥
        none a = elim a [ ]
    at_tip f p e (read s t) v h = by (get_or s b false) refl
      where
        has : {u : ℕ} → Allows (read s t) (took b u) → IsTrue (get_or s b false)
        has (reads i) = i

        by : (x : Bool) → get_or s b false ≡ x → Advance f (tip p)
        by true x =
            let on = visit (unseen f) f t e h (omega arith) in
            (_, on.1, reads_on (subst (λ z. Allows z (took b t)) (sym v) (reads x)) on.2)
        by false x = (None, f, dies (λ u a. not_true x (has (subst (λ z. Allows z (took b u)) v a))))

    -- each tree goes on with the byte
    advance : (t : Labelled Symbol ℕ) (f : List Bool) → length f ≡ m → Advance f t
    advance (tip p) f e = ⊎_elim (λ lt. at_tip f p e (moves p) refl (within p lt)) (λ z. at_tip f p e accept z tt) (outside p)
    advance (fork u l v r) f e =
        let left = advance l f e in
        let right = advance r left.1 (advance_fits m left.2 e).long in
        (_, right.1, both left.2 right.2)

lt_or_le : (a b : ℕ) → (a < b) ⊎ (b ≤ a)
lt_or_le a b = grind arith

module _ (g : Graph) (within : StaysWithin g.nodes) (start_in : g.start < length g.nodes) (trimmed : IsTrimmed g) where
  abbrev ms : ℕ → Move ℕ
  ms = node_moves g.nodes

  trim : IsTrim ms g.start
  trim = is_trim g trimmed

  abbrev fresh : List Bool
  fresh = replicate (length g.nodes) false

  -- a text has a tree, or it isn't viable and its longest viable front has one
  data Treed (w : List ℕ) : Type 0 where
    viable : (c : List Symbol) (t : Labelled Symbol ℕ) → HasTree ms g.start w c t → Treed w
    dead : (v : List ℕ) (c : List Symbol) (t : Labelled Symbol ℕ) → ¬ IsViableFor g w → LongestViable ms g.start w v → HasTree ms g.start v c t → Treed w

  first : Treed []
  first = by on.0 (first_shows ms g.start trim (length g.nodes) on.0 on.1 on.2)
    where
      on : Visit ms (length g.nodes) within fresh g.start
      on = visit ms (length g.nodes) within (unseen fresh) fresh g.start (length-replicate (length g.nodes) false) start_in (omega arith)

      by : (a : Option (Grown Symbol ℕ)) → ShowsFirst ms g.start trim a → Treed []
      by None h = absurd h
      by (Some x) h = viable x.label x.tree h

  -- with a byte more
  next : (w : List ℕ) (b : ℕ) → Treed w → Treed (w ++ b ∷ [])
  next w b (dead v c t none longest has) =
      let gone : ¬ IsViableFor g (w ++ b ∷ []) = λ h. none (viable_before g trim w b h) in
      dead v c t gone (longest_later ms g.start w v b longest gone) has
  next w b (viable c t has) = by on.0 (next_shows ms g.start trim w c t has b (length g.nodes) on.0 on.1 on.2)
    where
      outside : (n : ℕ) → (n < length g.nodes) ⊎ (ms n ≡ accept)
      outside n = by (slice_get g.nodes n) refl
        where
          by : (o : Option MNode) → slice_get g.nodes n ≡ o → (n < length g.nodes) ⊎ (ms n ≡ accept)
          by None e = inr (ap move_of e)
          by (Some x) e = inl (slice_get_within g.nodes n x e)

      on : Advance ms (length g.nodes) within b outside fresh t
      on = advance ms (length g.nodes) within b outside t fresh (length-replicate (length g.nodes) false)

      by : (a : Option (Grown Symbol ℕ)) → ShowsTree ms g.start trim (w ++ b ∷ []) c a → Treed (w ++ b ∷ [])
      by None h = dead w c t h (longest_later ms g.start w w b (longest_self ms g.start w (tree_agrees ms g.start w c t has).viable) h) has
      by (Some x) h = viable (c ++ x.label) x.tree h

  more : (w v : List ℕ) → Treed w → Treed (w ++ v)
  more w [] h = subst Treed (sym (append-nil w)) h
  more w (b ∷ v) h = subst Treed (append_assoc w (b ∷ []) v) (more (w ++ b ∷ []) v (next w b h))

  -- each text has a tree, or its longest viable front has one
  treed : (w : List ℕ) → Treed w
  treed w = more [] w first

  -- a text that has a tree says something: some run goes on from its first survivor
  says : (w : List ℕ) (c : List Symbol) (t : Labelled Symbol ℕ) → HasTree ms g.start w c t → (text : List ℕ) × SaysByRun g w text
  says w c t has = (
    _,
    record {
      agreed = c;
      is_agreed = agreed;
      run = front ++ last.0;
      runs = (last.1, walk-append ms front last.0 g.start from last.1 path.walk last.2, last.3);
      reads = (bytes_of (code_of last.0), ap bytes_of code ∙ bytes_of-append (code_of front) (code_of last.0) ∙ ap (λ z. z ++ bytes_of (code_of last.0)) path.reads);
      begins = (common.0 ++ code_of last.0, code ∙ ap (λ z. z ++ code_of last.0) (survivor.reached.2 ∙ common.1) ∙ append_assoc c common.0 (code_of last.0));
      said = refl;
    },
  )
    where
      agreed : Agreed ms g.start w c
      agreed = tree_agrees ms g.start w c t has

      from : ℕ
      from = agreed.viable.0

      leaf : (d : List Symbol) × IsAmong (leaves_of t c) (record { at = from; code = d })
      leaf = has.lists.all from agreed.viable.1

      survivor : Survives ms g.start w from leaf.0
      survivor = has.lists.each (record { at = from; code = leaf.0 }) leaf.1

      front : List (Step ℕ)
      front = survivor.reached.0

      path : IsPath ms g.start w from front
      path = survivor.reached.1

      last : LeadsToEnd ms from
      last = survivor.alive

      common : Begins leaf.0 c
      common = agreed.common from leaf.0 survivor

      code : code_of (front ++ last.0) ≡ code_of front ++ code_of last.0
      code = code_of-append front last.0

  -- a text that has a greedy code means something: what its path does
  means : (w : List ℕ) (c : List Symbol) → IsGreedy g w c → (text : List ℕ) × MeansByRun g w text
  means w c h =
      let s = h.greedy.2 in
      let r = s.reached in
      (_, record { greedy = c; is_greedy = h.greedy; least = h.least; run = r.0; runs = (h.greedy.0, r.1.walk, h.greedy.1); codes = r.2; meant = refl })

  good : (w v : List ℕ) → LongestViable ms g.start w v → LongestGood (IsViableFor g) (SaysByRun g) (HasRun g) (MeansByRun g) w v
  good w v h = record { front = h.front; good = h.viable; longest = h.longest }

  can_go_on : (w : List ℕ) (c : List Symbol) (t : Labelled Symbol ℕ) → HasTree ms g.start w c t → IsViableFor g w
  can_go_on w c t h = (tree_agrees ms g.start w c t h).viable

  -- the end of a text within the limit
  at_the_end : (limit : ℕ) (w : List ℕ) (c : List Symbol) (t : Labelled Symbol ℕ) → length w ≤ limit → HasTree ms g.start w c t → (a : Answer) × MachineAnswers g limit w true a
  at_the_end limit w c t short has = by (first_accepting ms t) refl
    where
      by : (o : Option (Grown Symbol ℕ)) → first_accepting ms t ≡ o → (a : Answer) × MachineAnswers g limit w true a
      by None e = let s = says w c t has in (_, cut_off short (can_go_on w c t has) (none_parses g trim w c t has e) s.1)
      by (Some x) e = let s = means w (c ++ x.label) (greedy_found g trim w c t has x e) in (_, whole short s.1)

  within_limit : (limit : ℕ) (w : List ℕ) (e : Bool) → length w ≤ limit → (c : List Symbol) (t : Labelled Symbol ℕ) → HasTree ms g.start w c t → (a : Answer) × MachineAnswers g limit w e a
  within_limit limit w true short c t has = at_the_end limit w c t short has
  within_limit limit w false short c t has = let s = says w c t has in (_, still_open short (can_go_on w c t has) s.1)

  pub has_answers : MachineHasAnswers g
  has_answers limit w e = by (treed (take limit w))
    where
      by : Treed (take limit w) → (a : Answer) × MachineAnswers g limit w e a
      by (dead v c t gone longest has) = let s = says v c t has in (_, bad_byte v gone (good (take limit w) v longest) s.1)
      by (viable c t has) =
          ⊎_elim
          (λ long. let s = says (take limit w) c t has in (_, too_long long (can_go_on (take limit w) c t has) s.1))
          (λ short. within_limit limit w e short c t (subst (λ z. HasTree ms g.start z c t) (take_all limit w short) has))
          (lt_or_le limit (length w))

-- what is left of a stage's machine leads to what is left, and is trimmed
module _ (g h : Graph) (trim : IsTrimOf g h) where
  abbrev Kept : ℕ → ℕ → Type 0
  Kept s t = HasNumber trim.kept s t

  alike : Alike (node_moves g.nodes) (node_moves h.nodes) Kept
  alike = alike_kept (node_moves g.nodes) (node_moves h.nodes) Kept trim.keeps trim.once (λ s s' n p q. some_same s s' (sym p ∙ q))

  kept_in : (s t : ℕ) → Kept s t → t < length h.nodes
  kept_in s t k = let lt = slice_get_within trim.kept t s k in omega (arith, lt, trim.count)

  at_node : (t : ℕ) → t < length h.nodes → Kept (get_or trim.kept t 0) t
  at_node t lt = slice_get-get_or trim.kept t 0 (omega (arith, lt, trim.count))

  move_in : {v w : Move ℕ} → KeepsMove Kept (λ q. LeadsToEnd (node_moves g.nodes) q → ⊥) v w → MoveBelow (length h.nodes) w
  move_in still_accepts = tt
  move_in (still_reads {s = s} {t = t} r) = kept_in s t r
  move_in (still_chooses {s = s} {s' = s'} {t = t} {t' = t'} r r') = (kept_in s t r, kept_in s' t' r')
  move_in (only_left {s = s} {t = t} r lost) = kept_in s t r
  move_in (only_right {s' = s} {t = t} lost r) = kept_in s t r
  move_in (still_forced {s = s} {t = t} r) = kept_in s t r
  move_in (still_goes {s = s} {t = t} r) = kept_in s t r

  pub left_within : StaysWithin h.nodes
  left_within t lt = move_in (trim.keeps (get_or trim.kept t 0) t (at_node t lt))

  pub left_start : h.start < length h.nodes
  left_start = kept_in g.start h.start trim.start

  pub left_trimmed : IsTrimmed h
  left_trimmed = trimmed_by_ends h (λ t lt. end_ahead (node_moves g.nodes) (node_moves h.nodes) Kept alike (get_or trim.kept t 0) t (at_node t lt) (trim.each (get_or trim.kept t 0) t (at_node t lt)).0)

-- a stage has answers where a machine of it has them
pub stage_answers : (P : Grammar) (root : ℕ) (m : Graph) → IsKeptOf P root m → (limit : ℕ) (w : List ℕ) (e : Bool) → (a : Answer) × stages.StageAnswers P root limit w e a
stage_answers P root m kept limit w e =
    let a = has_answers m (left_within kept.whole m kept.trimmed) (left_start kept.whole m kept.trimmed) (left_trimmed kept.whole m kept.trimmed) limit w e in
    (a.0, ((carries P root kept.whole m kept.of_places kept.trimmed).answers limit w e a.0).1 a.1)

-- a pipeline has an answer where each of its stages has one
pub pipeline_answers : {T : Type 0} (Gives : T → List ℕ → Bool → Answer → Type 0) (ss : List T) → ((s : T) → IsAmong ss s → (w : List ℕ) (e : Bool) → (a : Answer) × Gives s w e a) → (i : ℕ) (w : List ℕ) (e : Bool) → (text : List ℕ) × (report : Option Report) × Pipeline Gives i ss w e text report
pipeline_answers Gives [] each i w e = (w, None, (refl, refl))
pipeline_answers Gives (s ∷ ss) each i w e =
    let a = each s (inl refl) w e in
    let rest = pipeline_answers Gives ss (λ t h. each t (inr h)) (suc i) a.0.text a.0.ended in
    (rest.0, _, (a.0, rest.1, a.1, rest.2, refl))
