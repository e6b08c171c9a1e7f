-- A table whose states leave covered leaves out shows the uncovered tree of each text, so it passes on what is best.
use Rattle.std.proofs.Common.{◌≡◌, ℕ, suc, ◌+◌, ◌<◌, ◌≤◌, Bool, true, false, List, [], ◌∷◌, ◌++◌, inl, inr, ⊎_elim, Option, Some, None, length, map, replicate, refl, sym, ap, ap₂, subst, ◌∙◌, append_assoc, append-nil, arith, if◌then◌else◌}
use Rattle.std.specs.Prelude.{slice_get, MatchBool}
use Rattle.std.proofs.lemmas.Bool.{cases_lt}
use Rattle.std.proofs.lemmas.List.{map-append}
use Rattle.kex_byteset.specs.Classes.{class_at}
use Rattle.kex_code.specs.declared.symbol.Symbol.{Symbol}
use Rattle.kex_code.specs.declared.symbol.Symbol.TheVariants.{Byte}
use Rattle.kex_code.specs.Codes.{IsAmong, Before}
use Rattle.kex_model.specs.Moves.{Move, took, Allows}
use Rattle.kex_model.specs.Labelled.{Labelled, tip, fork, leaves_of, labels_of, Shape, place, parts, shape_of, size_of, map_labels, Grown, with_prefix, fork_of}
use Rattle.kex_model.specs.States.{IsState}
use Rattle.kex_model.specs.Survivors.{CodedPlace, Rising, Survives, HasTree}
use Rattle.kex_model.proofs.Orders.{not_both, at_most_both}
use Rattle.kex_model.proofs.Shapes.{parted_rises, among_left, among_right, among-append, tree_agrees}
use Rattle.kex_model.proofs.Tables.{some_same}
use Rattle.kex_machine.specs.Nodes.{Graph, node_moves, HasClasses, IsMachineInRange, IsTrimmed}
use Rattle.kex_machine.specs.Answers.{IsViableFor, HasRun, IsGreedy}
use Rattle.kex_machine.specs.Advancing.{itself, Advances, dies, both, first_accepting, map_labels_if}
use Rattle.kex_machine.specs.Covering.{restrict, restrict_if, EndsBy, KeepsUncovered, HasUncoveredTree, ShowsUncovered}
use Rattle.kex_machine.proofs.Nexts.{IsTrim}
use Rattle.kex_machine.proofs.Ranges.{is_trim}
use Rattle.kex_machine.proofs.Classes.{byte_read}
use Rattle.kex_machine.proofs.LongestFronts.{viable_before}
use Rattle.kex_machine.proofs.Labels.{map_labels-with_prefix, map_labels-fork_of, map_labels-first_accepting, relabelled_advance}
use Rattle.kex_machine.proofs.RestrictedTrees.{tree_best, one_uncovered, restricted_shows, next_uncovered, first_uncovered, none_end, greedy_end}
use Rattle.kex_sst.specs.declared.parts.Part.{Part}
use Rattle.kex_sst.specs.declared.parts.Part.TheVariants.{Put, Input}
use Rattle.kex_sst.specs.declared.table.Transition.{Transition}
use Rattle.kex_sst.specs.Parts.{parts_code, numbered_tree}
use Rattle.kex_sst.specs.Tables.{Transducer, transition_if, transition_on}
use Rattle.kex_sst.specs.Passes.{Pass, first_pass, next_of, next_pass, passes_if, passes, way_of, ended_by, whole_code}
use Rattle.kex_sst.specs.Machines.{IsBestTableOf}
use Rattle.kex_sst.proofs.Passes.{by_class}
use Rattle.kex_paths.specs.KeptLeaves.{restrict_shape}
use Rattle.kex_paths.specs.Nexts.{IsNext, places_of}
use Rattle.kex_paths.proofs.LeftTrees.{shape_if, left_shape}
use Rattle.kex_paths.proofs.Meanings.{parts_code-append, registers_hold}
use Rattle.kex_paths.proofs.NextTrees.{first_shows, next_shows}
use Rattle.kex_determine.specs.Rows.{way_to}
use Rattle.kex_determine.proofs.MachineTables.{relabelled_labels, relabelled_shape}
use Rattle.kex_cover.specs.Pairs.{IsCoveredBy, IsUncoveredBy}
use Rattle.kex_cover.specs.Optimal.{LeftState, IsLeftState, DoesBest, AreBestRows, has_place}
use Rattle.kex_cover.proofs.LeftLeaves.{leaf_places, of_place, no_before}

-- leaves are left out alike, whatever labels are written in
module _ {A B : Type 0} (h : List A → List B) (empty : h [] ≡ []) (joins : (x y : List A) → h (x ++ y) ≡ h x ++ h y) (keep : ℕ → Bool) where
  tip_alike : (b : Bool) (p : ℕ) → map_labels_if h (if b then Some (record { label = []; tree = tip p }) else None) ≡ (if b then Some (record { label = []; tree = tip p }) else None)
  tip_alike true p = ap (λ z. Some (record { label = z; tree = tip p })) empty
  tip_alike false p = refl

  restricted_alike : (t : Labelled A ℕ) → map_labels_if h (restrict keep t) ≡ restrict keep (map_labels h t)
  restricted_alike (tip p) = tip_alike (keep p) p
  restricted_alike (fork u l v r) =
      map_labels-fork_of h empty joins (with_prefix u (restrict keep l)) (with_prefix v (restrict keep r))
      ∙ ap₂ (λ x y. fork_of x y) (map_labels-with_prefix h empty joins u (restrict keep l) ∙ ap (λ z. with_prefix (h u) z) (restricted_alike l)) (map_labels-with_prefix h empty joins v (restrict keep r) ∙ ap (λ z. with_prefix (h v) z) (restricted_alike r))

  restricted_alike_if : (a : Option (Grown A ℕ)) → map_labels_if h (restrict_if keep a) ≡ restrict_if keep (map_labels_if h a)
  restricted_alike_if None = refl
  restricted_alike_if (Some g) = map_labels-with_prefix h empty joins g.label (restrict keep g.tree) ∙ ap (λ z. with_prefix (h g.label) z) (restricted_alike g.tree)

-- a member, with those before and after it
record Stands {A : Type 0} (xs : List A) (x : A) : Type 0 where
  pub front : List A
  pub back : List A
  pub whole : xs ≡ front ++ x ∷ back

stands : {A : Type 0} (xs : List A) (x : A) → IsAmong xs x → Stands xs x
stands [] x i = absurd i
stands (y ∷ xs) x i = ⊎_elim (λ e. record { front = []; back = xs; whole = ap (λ z. z ∷ xs) e }) (λ j. let r = stands xs x j in record { front = y ∷ r.front; back = r.back; whole = ap (λ z. y ∷ z) r.whole }) i

rising_front : (front back : List (CodedPlace ℕ)) (x y : CodedPlace ℕ) → Rising (front ++ x ∷ back) → IsAmong front y → Before y.code x.code
rising_front [] back x y h i = absurd i
rising_front (z ∷ front) back x y h i = ⊎_elim (λ e. subst (λ u. Before u.code x.code) e (h.0 x (among_right front (x ∷ back) x (inl refl)))) (λ j. rising_front front back x y h.1 j) i

rising_back : (front back : List (CodedPlace ℕ)) (x y : CodedPlace ℕ) → Rising (front ++ x ∷ back) → IsAmong back y → Before x.code y.code
rising_back [] back x y h i = h.0 y i
rising_back (z ∷ front) back x y h i = rising_back front back x y h.1 i

place_of : (xs : List (CodedPlace ℕ)) (x : CodedPlace ℕ) → IsAmong xs x → IsAmong (map (λ z. z.at) xs) x.at
place_of [] x i = i
place_of (y ∷ xs) x i = ⊎_elim (λ e. inl (ap (λ z. z.at) e)) (λ j. inr (place_of xs x j)) i

-- on a number that is no byte no place goes on
beyond : (moves : ℕ → Move ℕ) (b k : ℕ) (f : List Bool) (s : Shape ℕ) → ((p t : ℕ) → Allows (moves p) (took b t) → ⊥) → Advances (λ s. Put s) Input moves b f (numbered_tree k s) None f
beyond moves b k f (place p) no_way = dies (no_way p)
beyond moves b k f (parts l r) no_way = both (beyond moves b (suc k) f l no_way) (beyond moves b (suc (k + size_of l)) f r no_way)

module _ (g : Graph) (range : IsMachineInRange g.start g.nodes g.registers) (trimmed : IsTrimmed g) where
  abbrev ms : ℕ → Move ℕ
  ms = node_moves g.nodes

  trim : IsTrim ms g.start
  trim = is_trim g trimmed

  -- of a text whose tree has the shape, kept are the survivors that aren't covered
  keeps_of : (s : LeftState) → IsLeftState g s → (w : List ℕ) (c : List Symbol) (t : Labelled Symbol ℕ) → HasTree ms g.start w c t → shape_of t ≡ s.whole → KeepsUncovered g w (has_place s.left)
  keeps_of s k w c t has is = record {
    kept = λ p d sv e. let z = at p d sv in let q = subst (λ y. MatchBool y (IsUncoveredBy g p (map (λ x. x.at) z.front)) (IsCoveredBy g p (map (λ x. x.at) z.front))) e (told p d sv) in (q.0, record { survives = sv; ends = q.1; none_before = λ o f so before on. q.2 o (earlier p d sv o f so before) on });
    left_out = λ p d sv e. let z = at p d sv in let q = subst (λ y. MatchBool y (IsUncoveredBy g p (map (λ x. x.at) z.front)) (IsCoveredBy g p (map (λ x. x.at) z.front))) e (told p d sv) in (λ x on. let r = q x on in let o = of_place z.front r.0 r.1 in let so = each o.0 (subst (λ y. IsAmong y o.0) (sym z.whole) (among_left z.front (record { at = p; code = d } ∷ z.back) o.0 o.1)) in (o.0.at, o.0.code, so, rising_front z.front z.back (record { at = p; code = d }) o.0 (subst Rising z.whole rises) o.1, subst (λ y. EndsBy g y x) (sym o.2) r.2));
  }
    where
      rises : Rising (leaves_of t c)
      rises = parted_rises t c has.parted

      each : (x : CodedPlace ℕ) → IsAmong (leaves_of t c) x → Survives ms g.start w x.at x.code
      each = has.lists.each

      in_tree : (p : ℕ) (d : List Symbol) → Survives ms g.start w p d → IsAmong (leaves_of t c) (record { at = p; code = d })
      in_tree p d sv =
          let y = has.lists.all p (d, sv.reached, sv.alive) in
          let sy = has.lists.each (record { at = p; code = y.0 }) y.1 in
          subst (λ z. IsAmong (leaves_of t c) (record { at = p; code = z })) (at_most_both y.0 d (sy.least d sv.reached) (sv.least y.0 sy.reached)) y.1

      at : (p : ℕ) (d : List Symbol) → Survives ms g.start w p d → Stands (leaves_of t c) (record { at = p; code = d })
      at p d sv = stands (leaves_of t c) (record { at = p; code = d }) (in_tree p d sv)

      told : (p : ℕ) (d : List Symbol) (sv : Survives ms g.start w p d) → MatchBool (has_place s.left p) (IsUncoveredBy g p (map (λ x. x.at) (at p d sv).front)) (IsCoveredBy g p (map (λ x. x.at) (at p d sv).front))
      told p d sv = let z = at p d sv in k.tells (map (λ x. x.at) z.front) p (map (λ x. x.at) z.back) (ap places_of (sym is) ∙ leaf_places t c ∙ ap (λ y. map (λ x. x.at) y) z.whole ∙ map-append (λ x. x.at) z.front (record { at = p; code = d } ∷ z.back))

      earlier : (p : ℕ) (d : List Symbol) (sv : Survives ms g.start w p d) (o : ℕ) (f : List Symbol) → Survives ms g.start w o f → Before f d → IsAmong (map (λ x. x.at) (at p d sv).front) o
      earlier p d sv o f so before =
          let z = at p d sv in
          let x : CodedPlace ℕ = record { at = p; code = d } in
          let y : CodedPlace ℕ = record { at = o; code = f } in
          let h = subst Rising z.whole rises in
          ⊎_elim
          (λ i. place_of z.front y i)
          (λ i. ⊎_elim (λ e. absurd (no_before f (subst (λ u. Before f u) (ap (λ u. u.code) e) before))) (λ j. absurd (not_both d f (rising_back z.front z.back x y h j) before)) i)
          (among-append z.front (x ∷ z.back) y (subst (λ u. IsAmong u y) z.whole (in_tree o f so)))

  -- how the tree that is left goes on, with labels for registers
  goes : (t : Labelled Symbol ℕ) (b : ℕ) (a : Option (Grown Part ℕ)) → IsNext g b (shape_of t) a → (marks : List Bool) × Advances itself (Byte b) ms b (replicate (length g.nodes) false) t (map_labels_if (parts_code (labels_of t) b) a) marks
  goes t b a (marks, v) = (
    marks,
    subst (λ z. Advances itself (Byte b) ms b (replicate (length g.nodes) false) z (map_labels_if (parts_code (labels_of t) b) a) marks) (registers_hold b t)
        (relabelled_advance (parts_code (labels_of t) b) refl (parts_code-append (labels_of t) b) (λ s. Put s) itself (λ s. refl) ms Input (Byte b) refl v),
  )

  -- what is kept of a grown tree, with labels for registers
  kept_there : (regs : List (List Symbol)) (b : ℕ) (keep : ℕ → Bool) (a r : Option (Grown Part ℕ)) → restrict_if keep a ≡ r → restrict_if keep (map_labels_if (parts_code regs b) a) ≡ map_labels_if (parts_code regs b) r
  kept_there regs b keep a r e = sym (restricted_alike_if (parts_code regs b) refl (parts_code-append regs b) keep a) ∙ ap (map_labels_if (parts_code regs b)) e

  -- the uncovered tree of a text has the shape that is left
  abbrev HasLeft : LeftState → List ℕ → List Symbol → Type 0
  HasLeft s w c = (u : Grown Symbol ℕ) × HasUncoveredTree g w (c ++ u.label) u.tree × (shape_of u.tree ≡ s.left)

  whole_left : (s : LeftState) → IsLeftState g s → (w : List ℕ) (c : List Symbol) (t : Labelled Symbol ℕ) → HasTree ms g.start w c t → shape_of t ≡ s.whole → HasLeft s w c
  whole_left s k w c t has is = by (restrict (has_place s.left) t) (left_shape (has_place s.left) t ∙ ap (restrict_shape (has_place s.left)) is ∙ k.left_is) (restricted_shows g range trimmed w c t (has_place s.left) has (keeps_of s k w c t has is))
    where
      by : (r : Option (Grown Symbol ℕ)) → shape_if r ≡ Some s.left → ShowsUncovered g w c r → HasLeft s w c
      by None e h = let bad : ⊥ = cc in absurd bad
      by (Some u) e h = (u, h, some_same (shape_of u.tree) s.left e)

  -- where a text's tree has the state's shape, and goes on to the target's
  module _ (s to : LeftState) (k : IsLeftState g s) (kt : IsLeftState g to) (w : List ℕ) (c : List Symbol) (t : Labelled Symbol ℕ) (has : HasTree ms g.start w c t) (is : shape_of t ≡ s.whole) (b : ℕ) (whole : Grown Part ℕ) (is_whole : IsNext g b s.whole (Some whole)) (whole_is : shape_of whole.tree ≡ to.whole) (a : Option (Grown Part ℕ)) (is_next : IsNext g b s.left a) where
    abbrev keep : ℕ → Bool
    keep = has_place to.left

    abbrev wide : List Part → List Symbol
    wide = parts_code (labels_of t) b

    abbrev whole_code_of : List Symbol
    whole_code_of = c ++ wide whole.label

    more : HasTree ms g.start (w ++ b ∷ []) whole_code_of (map_labels wide whole.tree)
    more = next_shows g trim w c t has b (Some whole) (subst (λ z. IsNext g b z (Some whole)) (sym is) is_whole)

    shape : shape_of (map_labels wide whole.tree) ≡ to.whole
    shape = relabelled_shape wide whole.tree ∙ whole_is

    module _ (u : HasLeft s w c) (v : HasLeft to (w ++ b ∷ []) whole_code_of) where
      abbrev narrow : List Part → List Symbol
      narrow = parts_code (labels_of u.0.tree) b

      shown : ShowsUncovered g (w ++ b ∷ []) (c ++ u.0.label) (restrict_if keep (map_labels_if narrow a))
      shown =
          let on = goes u.0.tree b a (subst (λ z. IsNext g b z a) (sym u.2) is_next) in
          next_uncovered g range trimmed w (c ++ u.0.label) u.0.tree b (length g.nodes) (map_labels_if narrow a) on.0 u.1 on.1 keep (keeps_of to kt (w ++ b ∷ []) whole_code_of (map_labels wide whole.tree) more shape)

      same_left_shape : (r : Option (Grown Part ℕ)) → restrict_if keep a ≡ r → (rest : Grown Part ℕ) × (restrict_if keep a ≡ Some rest) × (shape_of rest.tree ≡ to.left)
      same_left_shape None e =
          let none : ¬ IsViableFor g (w ++ b ∷ []) = subst (λ z. ShowsUncovered g (w ++ b ∷ []) (c ++ u.0.label) z) (kept_there (labels_of u.0.tree) b keep a None e) shown in
          absurd (none (tree_agrees ms g.start (w ++ b ∷ []) whole_code_of (map_labels wide whole.tree) more).viable)
      same_left_shape (Some rest) e =
          let here : HasUncoveredTree g (w ++ b ∷ []) ((c ++ u.0.label) ++ narrow rest.label) (map_labels narrow rest.tree) = subst (λ z. ShowsUncovered g (w ++ b ∷ []) (c ++ u.0.label) z) (kept_there (labels_of u.0.tree) b keep a (Some rest) e) shown in
          let same = one_uncovered g range trimmed (w ++ b ∷ []) ((c ++ u.0.label) ++ narrow rest.label) (whole_code_of ++ v.0.label) (map_labels narrow rest.tree) v.0.tree here v.1 in
          (rest, e, sym (relabelled_shape narrow rest.tree) ∙ ap shape_of same.0 ∙ v.2)

    next_left : (rest : Grown Part ℕ) × (restrict_if keep a ≡ Some rest) × (shape_of rest.tree ≡ to.left)
    next_left = same_left_shape (whole_left s k w c t has is) (whole_left to kt (w ++ b ∷ []) whole_code_of (map_labels wide whole.tree) more shape) (restrict_if keep a) refl

  -- of what the tree that is left goes on to something is kept, which has the target's shape
  pub goes_left : (s to : LeftState) → IsLeftState g s → IsLeftState g to → IsState ms g.start s.whole → (b : ℕ) (whole : Grown Part ℕ) → IsNext g b s.whole (Some whole) → shape_of whole.tree ≡ to.whole → (a : Option (Grown Part ℕ)) → IsNext g b s.left a → (rest : Grown Part ℕ) × (restrict_if (has_place to.left) a ≡ Some rest) × (shape_of rest.tree ≡ to.left)
  goes_left s to k kt (w, (c, t, has, is)) b whole is_whole whole_is a is_next = next_left s to k kt w c t has is b whole is_whole whole_is a is_next

  module _ (t : Transducer) (states : List LeftState) (classed : HasClasses g.nodes t.classes) (table : AreBestRows g t states) where
    -- the state has the shapes of w's trees, what was passed on is best, and the registers hold the labels of what is left
    record ShowsPass (w : List ℕ) (p : Pass) : Type 0 where
      pub code : List Symbol
      pub whole : Labelled Symbol ℕ
      pub has : HasTree ms g.start w code whole
      pub tree : Labelled Symbol ℕ
      pub has_left : HasUncoveredTree g w p.code tree
      pub registers : p.registers ≡ labels_of tree
      pub state : LeftState
      pub at : slice_get states p.state ≡ Some state
      pub whole_is : shape_of whole ≡ state.whole
      pub left_is : shape_of tree ≡ state.left

    abbrev Shows : List ℕ → Option Pass → Type 0
    Shows w None = ¬ IsViableFor g w
    Shows w (Some p) = ShowsPass w p

    shows_begun : Shows [] (Some (first_pass t.initial))
    shows_begun =
        let f = table.begins in
        let h = first_shows g trim f.first f.is_first in
        let hold = parts_code [] 0 in
        let whole = map_labels hold f.first.tree in
        let shape : shape_of whole ≡ f.state.whole = relabelled_shape hold f.first.tree ∙ f.whole_is in
        let keeps = keeps_of f.state (table.each 0 f.state f.at) [] (hold f.first.label) whole h shape in
        let left = subst (λ z. ShowsUncovered g [] [] z) (kept_there [] 0 (has_place f.state.left) (Some f.first) (Some f.rest) f.is_rest) (first_uncovered g range trimmed (hold f.first.label) whole (has_place f.state.left) h keeps) in
        record {
          code = hold f.first.label;
          whole = whole;
          has = h;
          tree = map_labels hold f.rest.tree;
          has_left = subst (λ z. HasUncoveredTree g [] (hold z) (map_labels hold f.rest.tree)) (sym f.change.0) left;
          registers = ap (λ z. map (λ x. parts_code [] 0 x) z) f.change.1 ∙ relabelled_labels hold f.rest.tree;
          state = f.state;
          at = f.at;
          whole_is = shape;
          left_is = relabelled_shape hold f.rest.tree ∙ f.left_is;
        }

    does : (i b : ℕ) (s : LeftState) → slice_get states i ≡ Some s → b < 256 → DoesBest g states s b (next_of t i b)
    does i b s at lt =
        let r = table.rows i s at in
        let is : next_of t i b ≡ transition_if (slice_get r.0.go (class_at t.classes b)) =
        (by_class t i).byte b (omega (arith, lt, classed.refined.numbered.long)) ∙ ap (λ o. transition_on o (class_at t.classes b)) r.1 in
        subst (λ z. DoesBest g states s b z) (sym is) (r.2.does b lt)

    no_more : (w : List ℕ) (p : Pass) (h : ShowsPass w p) (b : ℕ) → IsNext g b h.state.whole None → ¬ IsViableFor g (w ++ b ∷ [])
    no_more w p h b n = next_shows g trim w h.code h.whole h.has b None (subst (λ z. IsNext g b z None) (sym h.whole_is) n)

    no_next : (w : List ℕ) (p : Pass) (h : ShowsPass w p) (b : ℕ) → 256 ≤ b → ¬ IsViableFor g (w ++ b ∷ [])
    no_next w p h b past = no_more w p h b (replicate (length g.nodes) false, beyond ms b 0 (replicate (length g.nodes) false) h.state.whole (λ q u way. omega (arith, byte_read g.nodes t.classes classed q b u way, past)))

    shows_step : (w : List ℕ) (b : ℕ) (p : Pass) → ShowsPass w p → Shows (w ++ b ∷ []) (next_pass (next_of t p.state b) b p)
    shows_step w b p h = ⊎_elim
        (λ lt. by (next_of t p.state b) (does p.state b h.state h.at lt))
        (λ past. subst (λ z. Shows (w ++ b ∷ []) (next_pass z b p)) (sym ((by_class t p.state).no_byte b (omega (arith, past, classed.refined.numbered.long)))) (no_next w p h b past))
        (cases_lt b 256)
      where
        by : (r : Option Transition) → DoesBest g states h.state b r → Shows (w ++ b ∷ []) (next_pass r b p)
        by None n = no_more w p h b n
        by (Some r) n =
            let hold = parts_code (labels_of h.tree) b in
            let wide = parts_code (labels_of h.whole) b in
            let has = next_shows g trim w h.code h.whole h.has b (Some n.whole) (subst (λ z. IsNext g b z (Some n.whole)) (sym h.whole_is) n.is_whole) in
            let shape : shape_of (map_labels wide n.whole.tree) ≡ n.to.whole = relabelled_shape wide n.whole.tree ∙ n.whole_is in
            let keeps = keeps_of n.to (table.each r.target n.to n.at) (w ++ b ∷ []) (h.code ++ wide n.whole.label) (map_labels wide n.whole.tree) has shape in
            let v = goes h.tree b (Some n.next) (subst (λ z. IsNext g b z (Some n.next)) (sym h.left_is) n.is_next) in
            let left = subst (λ z. ShowsUncovered g (w ++ b ∷ []) p.code z) (kept_there (labels_of h.tree) b (has_place n.to.left) (Some n.next) (Some n.rest) n.is_rest) (next_uncovered g range trimmed w p.code h.tree b (length g.nodes) (map_labels_if hold (Some n.next)) v.0 h.has_left v.1 (has_place n.to.left) keeps) in
            record {
              code = h.code ++ wide n.whole.label;
              whole = map_labels wide n.whole.tree;
              has = has;
              tree = map_labels hold n.rest.tree;
              has_left = subst (λ z. HasUncoveredTree g (w ++ b ∷ []) (p.code ++ z) (map_labels hold n.rest.tree)) (ap₂ (λ x y. parts_code x b y) (sym h.registers) (sym n.change.0)) left;
              registers = ap₂ (λ x y. map (λ z. parts_code x b z) y) h.registers n.change.1 ∙ relabelled_labels hold n.rest.tree;
              state = n.to;
              at = n.at;
              whole_is = shape;
              left_is = relabelled_shape hold n.rest.tree ∙ n.left_is;
            }

    viable_front : (w v : List ℕ) → IsViableFor g (w ++ v) → IsViableFor g w
    viable_front w [] h = subst (λ z. IsViableFor g z) (append-nil w) h
    viable_front w (b ∷ v) h = viable_before g trim w b (viable_front (w ++ b ∷ []) v (subst (λ z. IsViableFor g z) (sym (append_assoc w (b ∷ []) v)) h))

    shows_all : (w v : List ℕ) (p : Option Pass) → Shows w p → Shows (w ++ v) (passes_if t p v)
    shows_all w [] None h = subst (λ z. IsViableFor g z → ⊥) (sym (append-nil w)) h
    shows_all w (b ∷ v) None h = λ viable. h (viable_front w (b ∷ v) viable)
    shows_all w [] (Some p) h = subst (λ z. Shows z (Some p)) (sym (append-nil w)) h
    shows_all w (b ∷ v) (Some p) h = subst (λ z. Shows z (passes_if t (next_pass (next_of t p.state b) b p) v)) (append_assoc w (b ∷ []) v) (shows_all (w ++ b ∷ []) v (next_pass (next_of t p.state b) b p) (shows_step w b p h))

    -- along each text the table shows the text's uncovered tree
    shows : (w : List ℕ) → Shows w (passes t w)
    shows w = shows_all [] w (Some (first_pass t.initial)) shows_begun

    module _ (w : List ℕ) (p : Pass) (h : ShowsPass w p) where
      abbrev hold : List Part → List Symbol
      hold xs = parts_code p.registers 0 xs

      found_there : map_labels_if hold (first_accepting ms (numbered_tree 0 h.state.left)) ≡ first_accepting ms h.tree
      found_there = map_labels-first_accepting hold refl (parts_code-append p.registers 0) ms (numbered_tree 0 h.state.left) ∙ ap (first_accepting ms) (ap (λ z. map_labels hold (numbered_tree 0 z)) (sym h.left_is) ∙ subst (λ z. map_labels (λ xs. parts_code z 0 xs) (numbered_tree 0 (shape_of h.tree)) ≡ h.tree) (sym h.registers) (registers_hold 0 h.tree))

      ends_by : (a : Option (Grown Part ℕ)) → first_accepting ms (numbered_tree 0 h.state.left) ≡ a → ((c : List Symbol) → ended_by (way_to a) p ≡ Some c → IsGreedy g w c) × (ended_by (way_to a) p ≡ None → ¬ HasRun g w)
      ends_by None e = ((λ c f. let bad : ⊥ = cc in absurd bad), (λ _. none_end g range trimmed w p.code h.tree h.has_left (sym found_there ∙ ap (map_labels_if hold) e)))
      ends_by (Some a) e = (
        (λ c f. subst (λ z. IsGreedy g w z) (same f) (greedy_end g range trimmed w p.code h.tree h.has_left (record { label = hold a.label; tree = map_labels hold a.tree }) (sym found_there ∙ ap (map_labels_if hold) e))),
        (λ f. let bad : ⊥ = cc in absurd bad),
      )
        where
          same : {c : List Symbol} → Some (p.code ++ hold a.label) ≡ Some c → p.code ++ hold a.label ≡ c
          same f = cc

    ends : (w : List ℕ) (p : Pass) → ShowsPass w p → ((c : List Symbol) → whole_code t p ≡ Some c → IsGreedy g w c) × (whole_code t p ≡ None → ¬ HasRun g w)
    ends w p h =
        let r = table.rows p.state h.state h.at in
        subst (λ o. ((c : List Symbol) → ended_by (way_of o) p ≡ Some c → IsGreedy g w c) × (ended_by (way_of o) p ≡ None → ¬ HasRun g w)) (sym r.1)
        (subst (λ o. ((c : List Symbol) → ended_by o p ≡ Some c → IsGreedy g w c) × (ended_by o p ≡ None → ¬ HasRun g w)) (sym r.2.ends) (ends_by w p h (first_accepting ms (numbered_tree 0 h.state.left)) refl))

    passed : (w : List ℕ) (p : Pass) → passes t w ≡ Some p → ShowsPass w p
    passed w p e = subst (λ z. Shows w z) e (shows w)

    -- the table passes on what is best
    pub is_best_table : IsBestTableOf g t
    is_best_table = record {
      goes_on = λ w p e. let h = passed w p e in tree_best g range trimmed w p.code h.tree h.has_left;
      stops = λ w e. subst (λ z. Shows w z) e (shows w);
      parsed = λ w p c e f. (ends w p (passed w p e)).0 c f;
      cut = λ w p e f. (ends w p (passed w p e)).1 f;
    }
