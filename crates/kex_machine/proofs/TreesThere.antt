-- Each text that can go on has a tree, so each place that is reached has a least code.
use Rattle.std.proofs.Common.{◌≡◌, ℕ, zero, suc, ◌<◌, ◌≤◌, Bool, true, false, List, [], ◌∷◌, ◌++◌, ◌⊎◌, inl, inr, ⊎_elim, Option, Some, None, length, get_or, set, replicate, refl, sym, ap, subst, ◌∙◌, append_assoc, arith, length-set}
use Rattle.std.proofs.lemmas.List.{length-replicate}
use Rattle.kex_code.specs.declared.symbol.Symbol.{Symbol}
use Rattle.kex_code.specs.declared.symbol.Symbol.TheVariants.{Byte}
use Rattle.kex_code.specs.Codes.{AtMost}
use Rattle.kex_model.specs.Moves.{Move, accept, read, choose, forced, go, took, Allows, reads, IsWaiting}
use Rattle.kex_model.specs.Labelled.{Labelled, tip, fork, shape_of, Grown}
use Rattle.kex_model.specs.Survivors.{Reaches, Survives, HasTree}
use Rattle.kex_machine.specs.Nodes.{Graph, node_moves, MoveBelow, IsMachineInRange, IsTrimmed}
use Rattle.kex_machine.specs.Answers.{IsViableFor, HasRun, IsGreedy}
use Rattle.kex_machine.specs.Advancing.{itself, Visits, known, stops, parts_off, is_forced, passes_on, Advances, dies, reads_on, both, EachPlace, first_accepting}
use Rattle.kex_machine.proofs.Sizes.{unseen, unseen-set, visit_fits, advance_fits}
use Rattle.kex_machine.proofs.Nexts.{IsTrim, first_shows, next_shows}
use Rattle.kex_machine.proofs.Ranges.{stays_within, is_trim}
use Rattle.kex_machine.proofs.AcceptingTips.{none_parses, greedy_found}
use Rattle.kex_machine.proofs.LongestFronts.{viable_before}

none_unseen : (f : List Bool) (n : ℕ) → n < length f → unseen f ≤ 0 → get_or f n false ≡ true
none_unseen [] n lt h = absurd (omega (arith, lt))
none_unseen (true ∷ f) zero lt h = refl
none_unseen (false ∷ f) zero lt h = absurd (omega (arith, h))
none_unseen (true ∷ f) (suc n) lt h = none_unseen f n (omega (arith, lt)) h
none_unseen (false ∷ f) (suc n) lt h = absurd (omega (arith, h))

module _ (moves : ℕ → Move ℕ) (m : ℕ) (within : (n : ℕ) → n < m → MoveBelow m (moves n)) where
  -- a visit finds something, whatever is marked
  pub record Found (f : List Bool) (n : ℕ) : Type 0 where
    pub tree : Option (Grown Symbol ℕ)
    pub marks : List Bool
    pub visits : Visits itself moves f n tree marks
    pub long : length marks ≡ m
    pub fewer : unseen marks ≤ unseen f

  found : (f : List Bool) (n : ℕ) (a : Option (Grown Symbol ℕ)) (g : List Bool) → length f ≡ m → Visits itself moves f n a g → Found f n
  found f n a g l v = let h = visit_fits m v l in record { tree = a; marks = g; visits = v; long = h.long; fewer = omega (arith, h.small) }

  pub visit : (most : ℕ) (f : List Bool) (n : ℕ) → length f ≡ m → n < m → unseen f ≤ most → Found f n
  visit zero f n l lt few = found f n None f l (known (none_unseen f n (subst (λ z. n < z) (sym l) lt) few))
  visit (suc most) f n l lt few = by (λ g k lg lk h. visit most g k lg lk h) (get_or f n false) refl
    where
      in_f : n < length f
      in_f = subst (λ z. n < z) (sym l) lt

      at : ((g : List Bool) (k : ℕ) → length g ≡ m → k < m → unseen g ≤ most → Found g k) → get_or f n false ≡ false → (x : Move ℕ) → moves n ≡ x → MoveBelow m x → Found f n
      at rest e accept h b = found f n _ _ l (stops in_f e (subst (λ z. IsWaiting z) (sym h) tt))
      at rest e (read s t) h b = found f n _ _ l (stops in_f e (subst (λ z. IsWaiting z) (sym h) tt))
      at rest e (choose u v) h b =
          let fewer : unseen (set f n true) ≤ most = omega (arith, unseen-set f n in_f e, few) in
          let left = rest (set f n true) u (length-set f n true ∙ l) b.0 fewer in
          let right = rest left.marks v left.long b.1 (omega (arith, left.fewer, fewer)) in
          found f n _ _ l (parts_off in_f e h left.visits right.visits)
      at rest e (forced x t) h b =
          let fewer : unseen (set f n true) ≤ most = omega (arith, unseen-set f n in_f e, few) in
          let r = rest (set f n true) t (length-set f n true ∙ l) b fewer in
          found f n _ _ l (is_forced in_f e h r.visits)
      at rest e (go x t) h b =
          let fewer : unseen (set f n true) ≤ most = omega (arith, unseen-set f n in_f e, few) in
          let r = rest (set f n true) t (length-set f n true ∙ l) b fewer in
          found f n _ _ l (passes_on in_f e h r.visits)

      by : ((g : List Bool) (k : ℕ) → length g ≡ m → k < m → unseen g ≤ most → Found g k) → (x : Bool) → get_or f n false ≡ x → Found f n
      by rest true e = found f n None f l (known e)
      by rest false e = at rest e (moves n) refl (within n lt)

  -- and so does a tree that goes on
  pub record Gone (b : ℕ) (f : List Bool) (t : Labelled Symbol ℕ) : Type 0 where
    pub tree : Option (Grown Symbol ℕ)
    pub marks : List Bool
    pub advances : Advances itself (Byte b) moves b f t tree marks
    pub long : length marks ≡ m

  pub go_on : (b : ℕ) (f : List Bool) (t : Labelled Symbol ℕ) → length f ≡ m → EachPlace m (shape_of t) → Gone b f t
  go_on b f (tip p) l h = at (moves p) refl (within p h)
    where
      dead : (x : Move ℕ) → moves p ≡ x → ((t : ℕ) → Allows x (took b t) → ⊥) → Gone b f (tip p)
      dead x e none = record { tree = None; marks = f; advances = dies (λ t a. none t (subst (λ z. Allows z (took b t)) e a)); long = l }

      at : (x : Move ℕ) → moves p ≡ x → MoveBelow m x → Gone b f (tip p)
      at accept e k = dead accept e (λ t a. no a)
        where
          no : {t : ℕ} → Allows accept (took b t) → ⊥
          no a = elim a [ ]
      at (read s t) e k = by (get_or s b false) refl
        where
          by : (y : Bool) → get_or s b false ≡ y → Gone b f (tip p)
          by true q = let r = visit (unseen f) f t l k (omega arith) in record { tree = _; marks = r.marks; advances = reads_on (subst (λ z. Allows z (took b t)) (sym e) (reads q)) r.visits; long = r.long }
          by false q = dead (read s t) e (λ u a. no a)
            where
              no : {u : ℕ} → Allows (read s t) (took b u) → ⊥
              no (reads i) = let bad : true ≡ false = sym i ∙ q in cc
      at (choose u v) e k = dead (choose u v) e (λ t a. no a)
        where
          no : {t : ℕ} → Allows (choose u v) (took b t) → ⊥
          no a = elim a [ ]
      at (forced y v) e k = dead (forced y v) e (λ t a. no a)
        where
          no : {t : ℕ} → Allows (forced y v) (took b t) → ⊥
          no a = elim a [ ]
      at (go y v) e k = dead (go y v) e (λ t a. no a)
        where
          no : {t : ℕ} → Allows (go y v) (took b t) → ⊥
          no a = elim a [ ]
  go_on b f (fork x u y v) l h =
      let left = go_on b f u l h.0 in
      let right = go_on b left.marks v left.long h.1 in
      record { tree = _; marks = right.marks; advances = both left.advances right.advances; long = right.long }

module _ (g : Graph) (range : IsMachineInRange g.start g.nodes g.registers) (trimmed : IsTrimmed g) where
  abbrev ms : ℕ → Move ℕ
  ms = node_moves g.nodes

  abbrev none : List Bool
  none = replicate (length g.nodes) false

  trim : IsTrim ms g.start
  trim = is_trim g trimmed

  -- a text's tree, with places in range
  pub record Tree (w : List ℕ) : Type 0 where
    pub code : List Symbol
    pub tree : Labelled Symbol ℕ
    pub has : HasTree ms g.start w code tree
    pub places : EachPlace (length g.nodes) (shape_of tree)

  abbrev TreeOr : List ℕ → Type 0
  TreeOr w = (¬ IsViableFor g w) ⊎ Tree w

  first : Tree []
  first =
      let r = visit ms (length g.nodes) (stays_within g range) (unseen none) none g.start (length-replicate (length g.nodes) false) range.start_in (omega arith) in
      by r.tree r.visits
    where
      by : (a : Option (Grown Symbol ℕ)) {h : List Bool} → Visits itself ms none g.start a h → Tree []
      by None {h} v = absurd (first_shows ms g.start trim (length g.nodes) None h v)
      by (Some a) {h} v = record { code = a.label; tree = a.tree; has = first_shows ms g.start trim (length g.nodes) (Some a) h v; places = (visit_fits (length g.nodes) v (length-replicate (length g.nodes) false)).places }

  next : (w : List ℕ) (b : ℕ) → TreeOr w → TreeOr (w ++ b ∷ [])
  next w b (inl dead) = inl (λ v. dead (viable_before g trim w b v))
  next w b (inr t) =
      let r = go_on ms (length g.nodes) (stays_within g range) b none t.tree (length-replicate (length g.nodes) false) t.places in
      by r.tree r.advances
    where
      by : (a : Option (Grown Symbol ℕ)) {h : List Bool} → Advances itself (Byte b) ms b none t.tree a h → TreeOr (w ++ b ∷ [])
      by None {h} v = inl (next_shows ms g.start trim w t.code t.tree t.has b (length g.nodes) None h v)
      by (Some a) {h} v = inr (record { code = t.code ++ a.label; tree = a.tree; has = next_shows ms g.start trim w t.code t.tree t.has b (length g.nodes) (Some a) h v; places = (advance_fits (length g.nodes) v (length-replicate (length g.nodes) false)).places })

  along : (w v : List ℕ) → TreeOr w → TreeOr (w ++ v)
  along w [] h = subst (λ z. TreeOr z) (sym (append_nil w)) h
    where
      append_nil : (xs : List ℕ) → xs ++ [] ≡ xs
      append_nil [] = refl
      append_nil (x ∷ xs) = ap (λ z. x ∷ z) (append_nil xs)
  along w (b ∷ v) h = subst (λ z. TreeOr z) (append_assoc w (b ∷ []) v) (along (w ++ b ∷ []) v (next w b h))

  -- a text has a tree, or isn't viable
  pub tree_or : (w : List ℕ) → (¬ IsViableFor g w) ⊎ Tree w
  tree_or w = along [] w (inr first)

  pub tree_of : (w : List ℕ) → IsViableFor g w → Tree w
  tree_of w v = ⊎_elim (λ dead. absurd (dead v)) (λ t. t) (tree_or w)

  -- a place that is reached has a least code
  pub least_code : (w : List ℕ) (p : ℕ) (c : List Symbol) → Reaches ms g.start w p c → (d : List Symbol) × Survives ms g.start w p d × AtMost d c
  least_code w p c r =
      let t = tree_of w (p, (c, r, trim.ends p)) in
      let y = t.has.lists.all p (c, r, trim.ends p) in
      let s = t.has.lists.each (record { at = p; code = y.0 }) y.1 in
      (y.0, s, s.least c r)

  -- what has a parse has a greedy one
  pub greedy_of : (w : List ℕ) → HasRun g w → IsViableFor g w → (d : List Symbol) × IsGreedy g w d
  greedy_of w h v = let t = tree_of w v in by t (first_accepting ms t.tree) refl
    where
      by : (t : Tree w) (a : Option (Grown Symbol ℕ)) → first_accepting ms t.tree ≡ a → (d : List Symbol) × IsGreedy g w d
      by t None e = absurd (none_parses g trim w t.code t.tree t.has e h)
      by t (Some a) e = (t.code ++ a.label, greedy_found g trim w t.code t.tree t.has a e)
