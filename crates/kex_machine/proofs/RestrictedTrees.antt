-- The tree of the survivors that aren't covered: it is a restriction of the whole tree, what it begins with is best, and it
-- goes on by itself.
use Rattle.std.proofs.Common.{◌≡◌, ℕ, Bool, true, false, List, [], ◌∷◌, ◌++◌, ◌⊎◌, inl, inr, ⊎_elim, Option, Some, None, replicate, length, refl, sym, ap, subst, ◌∙◌, append-nil, arith, if◌then◌else◌}
use Rattle.kex_code.specs.declared.symbol.Symbol.{Symbol}
use Rattle.kex_code.specs.declared.symbol.Symbol.TheVariants.{Byte}
use Rattle.kex_code.specs.Codes.{bytes_of, AtMost, IsAmong}
use Rattle.kex_model.specs.Moves.{Move, accept, Step, took, chose, went, Allows, code_of, Walk}
use Rattle.kex_model.specs.Labelled.{Leaf, Labelled, tip, fork, leaves_of, Grown, leaves_if, with_prefix}
use Rattle.kex_model.specs.Survivors.{CodedPlace, NoReturn, IsParted, Reaches, Survives, HasTree}
use Rattle.kex_model.proofs.Orders.{at_most_both}
use Rattle.kex_model.proofs.Shapes.{among_left, among_right, among-append, behind_leaves, a_leaf, leaf_front, longest_front, parted_rises}
use Rattle.kex_model.proofs.AgreedFronts.{once_joined}
use Rattle.kex_model.proofs.Walks.{bytes_of-append}
use Rattle.kex_model.proofs.Derivations.{code_of-append, walk-append}
use Rattle.kex_machine.specs.Nodes.{Graph, node_moves, IsMachineInRange, IsTrimmed}
use Rattle.kex_machine.specs.Answers.{IsViableFor, HasRun, IsGreedy}
use Rattle.kex_machine.specs.Advancing.{itself, Advances, first_accepting}
use Rattle.kex_machine.specs.Covering.{cut_behind, restrict, restrict_if, IsFirstBy, IsUncovered, Best, KeepsUncovered, HasUncoveredTree, ShowsUncovered}
use Rattle.kex_machine.proofs.Visits.{in_sides, from_left, from_right}
use Rattle.kex_machine.proofs.Onward.{Advanced, advanced, leaf_code}
use Rattle.kex_machine.proofs.Nexts.{IsTrim, IsPartedIf, behind_parted, both_parted, advances_parted, none_marked}
use Rattle.kex_machine.proofs.Ranges.{is_trim}
use Rattle.kex_machine.proofs.Unique.{one_tree, one_list}
use Rattle.kex_machine.proofs.AcceptingTips.{accepting_none, accepting_found}
use Rattle.kex_machine.proofs.StraightWalks.{no_side, no_effect}
use Rattle.kex_machine.proofs.TreesThere.{least_code, greedy_of}
use Rattle.kex_machine.proofs.UncoveredPlaces.{uncut, From, first_leads, best_is, uncovered_from}

clash : {X : Type 0} {b : Bool} → b ≡ true → b ≡ false → X
clash e e' = let bad : true ≡ false = sym e ∙ e' in absurd (cc)

both_same : (x : CodedPlace ℕ) (p : ℕ) (d : List Symbol) → x.at ≡ p → x.code ≡ d → x ≡ record { at = p; code = d }
both_same x p d e f = ap (λ z. record { at = z; code = x.code }) e ∙ ap (λ z. record { at = p; code = z }) f

tip_kept : {A : Type 0} (b : Bool) (p : ℕ) (c : List A) (x : Leaf A ℕ) → IsAmong (leaves_if (if b then Some (record { label = []; tree = tip p }) else None) c) x → (b ≡ true) × (record { at = p; code = c } ≡ x)
tip_kept true p c x i = (refl, ap (λ z. record { at = p; code = z }) (sym (append-nil c)) ∙ ⊎_elim (λ e. e) (λ k. absurd k) i)
tip_kept false p c x i = absurd i

-- the leaves of a restricted tree are those that are kept
pub restricted : {A : Type 0} (keep : ℕ → Bool) (t : Labelled A ℕ) (c : List A) (x : Leaf A ℕ) → IsAmong (leaves_if (restrict keep t) c) x → IsAmong (leaves_of t c) x × (keep x.at ≡ true)
restricted keep (tip p) c x i = let k = tip_kept (keep p) p c x i in (inl k.1, ap (λ z. keep z.at) (sym k.1) ∙ k.0)
restricted keep (fork u l v r) c x i =
    ⊎_elim
    (λ j. let k = restricted keep l (c ++ u) x j in (among_left (leaves_of l (c ++ u)) (leaves_of r (c ++ v)) x k.0, k.1))
    (λ j. let k = restricted keep r (c ++ v) x j in (among_right (leaves_of l (c ++ u)) (leaves_of r (c ++ v)) x k.0, k.1))
    (in_sides u v (restrict keep l) (restrict keep r) c x i)

pub keeps : {A : Type 0} (keep : ℕ → Bool) (t : Labelled A ℕ) (c : List A) (x : Leaf A ℕ) → IsAmong (leaves_of t c) x → keep x.at ≡ true → IsAmong (leaves_if (restrict keep t) c) x
keeps keep (tip p) c x i k = ⊎_elim (λ e. subst (λ b. IsAmong (leaves_if (if b then Some (record { label = []; tree = tip p }) else None) c) x) (sym (ap (λ z. keep z.at) e ∙ k)) (inl (ap (λ z. record { at = p; code = z }) (append-nil c) ∙ e))) (λ j. absurd j) i
keeps keep (fork u l v r) c x i k =
    ⊎_elim
    (λ j. from_left u v (restrict keep l) (restrict keep r) c x (keeps keep l (c ++ u) x j k))
    (λ j. from_right u v (restrict keep l) (restrict keep r) c x (keeps keep r (c ++ v) x j k))
    (among-append (leaves_of l (c ++ u)) (leaves_of r (c ++ v)) x i)

pub restricted_if : {A : Type 0} (keep : ℕ → Bool) (a : Option (Grown A ℕ)) (c : List A) (x : Leaf A ℕ) → IsAmong (leaves_if (restrict_if keep a) c) x → IsAmong (leaves_if a c) x × (keep x.at ≡ true)
restricted_if keep None c x i = absurd i
restricted_if keep (Some g) c x i = restricted keep g.tree (c ++ g.label) x (subst (λ z. IsAmong z x) (behind_leaves g.label (restrict keep g.tree) c) i)

pub keeps_if : {A : Type 0} (keep : ℕ → Bool) (a : Option (Grown A ℕ)) (c : List A) (x : Leaf A ℕ) → IsAmong (leaves_if a c) x → keep x.at ≡ true → IsAmong (leaves_if (restrict_if keep a) c) x
keeps_if keep None c x i k = absurd i
keeps_if keep (Some g) c x i k = subst (λ z. IsAmong z x) (sym (behind_leaves g.label (restrict keep g.tree) c)) (keeps keep g.tree (c ++ g.label) x i k)

tip_parted : (b : Bool) (p : ℕ) → IsPartedIf (if b then Some (record { label = []; tree = tip p }) else None)
tip_parted true p = tt
tip_parted false p = tt

pub restrict_parted : (keep : ℕ → Bool) (t : Labelled Symbol ℕ) → IsParted t → IsPartedIf (restrict keep t)
restrict_parted keep (tip p) h = tip_parted (keep p) p
restrict_parted keep (fork u l v r) h = both_parted u v (restrict keep l) (restrict keep r) h.0 h.2 (restrict_parted keep l h.1) (restrict_parted keep r h.3)

pub restrict_parted_if : (keep : ℕ → Bool) (a : Option (Grown Symbol ℕ)) → IsPartedIf a → IsPartedIf (restrict_if keep a)
restrict_parted_if keep None h = h
restrict_parted_if keep (Some g) h = behind_parted g.label (restrict keep g.tree) (restrict_parted keep g.tree h)

module _ (g : Graph) (range : IsMachineInRange g.start g.nodes g.registers) (trimmed : IsTrimmed g) where
  abbrev ms : ℕ → Move ℕ
  ms = node_moves g.nodes

  trim : IsTrim ms g.start
  trim = is_trim g trimmed

  one_code : (w : List ℕ) (p : ℕ) (c d : List Symbol) → Survives ms g.start w p c → Survives ms g.start w p d → c ≡ d
  one_code w p c d h k = at_most_both c d (h.least d k.reached) (k.least c h.reached)

  -- what the tree begins with is best
  pub tree_best : (w : List ℕ) (c : List Symbol) (t : Labelled Symbol ℕ) → HasUncoveredTree g w c t → Best g w c
  tree_best w c t h = (best_is g range trimmed w).best c (record {
    viable = let y = a_leaf t c in let s = (h.each y.0 y.1).1.survives in (y.0.at, (y.0.code, s.reached, s.alive));
    common = λ p d u. leaf_front t c (record { at = p; code = d }) (h.all p d u);
    longest = λ c' all. longest_front t c c' h.parted (λ x i. all x.at x.code (h.each x i));
  })

  -- there is one
  pub one_uncovered : (w : List ℕ) (c d : List Symbol) (t u : Labelled Symbol ℕ) → HasUncoveredTree g w c t → HasUncoveredTree g w d u → (t ≡ u) × (c ≡ d)
  one_uncovered w c d t u h k = one_tree t u c d h.parted k.parted (one_list (leaves_of t c) (leaves_of u d) (parted_rises t c h.parted) (parted_rises u d k.parted) (λ x i. k.all x.at x.code (h.each x i)) (λ x i. h.all x.at x.code (k.each x i)))

  -- a restriction of leaves among which all that aren't covered are, each with its code
  shown : (w : List ℕ) (c : List Symbol) (keep : ℕ → Bool) (a : Option (Grown Symbol ℕ)) → KeepsUncovered g w keep → IsPartedIf a → ((x : CodedPlace ℕ) → IsAmong (leaves_if a c) x → Survives ms g.start w x.at x.code ⊎ (keep x.at ≡ false)) → ((p : ℕ) (d : List Symbol) → IsUncovered g w p d → IsAmong (leaves_if a c) (record { at = p; code = d })) → ShowsUncovered g w c (restrict_if keep a)
  shown w c keep a k parted each all = by (restrict_if keep a) (restrict_parted_if keep a parted) here there
    where
      keeps_it : (p : ℕ) (d : List Symbol) → IsUncovered g w p d → (b : Bool) → keep p ≡ b → keep p ≡ true
      keeps_it p d u true e = e
      keeps_it p d u false e = absurd ((best_is g range trimmed w).apart p d (k.left_out p d u.1.survives e) u)

      here : (x : CodedPlace ℕ) → IsAmong (leaves_if (restrict_if keep a) c) x → IsUncovered g w x.at x.code
      here x i = let r = restricted_if keep a c x i in ⊎_elim (λ s. k.kept x.at x.code s r.1) (λ e. clash r.1 e) (each x r.0)

      there : (p : ℕ) (d : List Symbol) → IsUncovered g w p d → IsAmong (leaves_if (restrict_if keep a) c) (record { at = p; code = d })
      there p d u = keeps_if keep a c (record { at = p; code = d }) (all p d u) (keeps_it p d u (keep p) refl)

      by : (r : Option (Grown Symbol ℕ)) → IsPartedIf r → ((x : CodedPlace ℕ) → IsAmong (leaves_if r c) x → IsUncovered g w x.at x.code) → ((p : ℕ) (d : List Symbol) → IsUncovered g w p d → IsAmong (leaves_if r c) (record { at = p; code = d })) → ShowsUncovered g w c r
      by None h here there = λ v. let s = (best_is g range trimmed w).some v in there s.0 s.1 s.2
      by (Some s) h here there = record { each = here; all = there; parted = h }

  -- it is the whole tree's restriction
  pub restricted_shows : (w : List ℕ) (c : List Symbol) (t : Labelled Symbol ℕ) (keep : ℕ → Bool) → HasTree ms g.start w c t → KeepsUncovered g w keep → ShowsUncovered g w c (restrict keep t)
  restricted_shows w c t keep has k = same (restrict keep t) (shown w c keep (Some (record { label = []; tree = t })) k has.parted (λ x i. inl (has.lists.each x (back x i))) (λ p d u. forth (record { at = p; code = d }) (in_tree p d u.1.survives)))
    where
      back : (x : CodedPlace ℕ) → IsAmong (leaves_of t (c ++ [])) x → IsAmong (leaves_of t c) x
      back x i = subst (λ z. IsAmong (leaves_of t z) x) (append-nil c) i

      forth : (x : CodedPlace ℕ) → IsAmong (leaves_of t c) x → IsAmong (leaves_of t (c ++ [])) x
      forth x i = subst (λ z. IsAmong (leaves_of t z) x) (sym (append-nil c)) i

      in_tree : (p : ℕ) (d : List Symbol) → Survives ms g.start w p d → IsAmong (leaves_of t c) (record { at = p; code = d })
      in_tree p d s = let y = has.lists.all p (d, s.reached, s.alive) in subst (λ z. IsAmong (leaves_of t c) (record { at = p; code = z })) (one_code w p y.0 d (has.lists.each (record { at = p; code = y.0 }) y.1) s) y.1

      same : (a : Option (Grown Symbol ℕ)) → ShowsUncovered g w c (with_prefix [] a) → ShowsUncovered g w c a
      same None h = h
      same (Some s) h = h

  -- ---- and goes on by itself

  module _ (w : List ℕ) (c : List Symbol) (t : Labelled Symbol ℕ) (b m : ℕ) (a : Option (Grown Symbol ℕ)) (f : List Bool) (has : HasUncoveredTree g w c t) (v : Advances itself (Byte b) ms b (replicate m false) t a f) where
    adv : Advanced ms b (replicate m false) t a f
    adv = advanced ms b v has.parted (λ n k i. absurd (none_marked m n i))

    -- a leaf is reached
    pub next_real : (x : CodedPlace ℕ) → IsAmong (leaves_if a c) x → Reaches ms g.start (w ++ b ∷ []) x.at x.code
    next_real x i =
        let l = adv.leaf c x i in
        let e = l.0 in
        let from = l.2 in
        let s = (has.each e l.1).1.survives.reached in
        let ks : List (Step ℕ) = s.0 ++ took b from.to ∷ from.steps in
        let walk : Walk ms g.start ks x.at = walk-append ms s.0 (took b from.to ∷ from.steps) g.start e.at x.at s.1.walk (from.byte, from.by.0.0) in
        let code : code_of ks ≡ x.code = code_of-append s.0 (took b from.to ∷ from.steps) ∙ ap (λ z. z ++ Byte b ∷ code_of from.steps) s.2 ∙ sym (leaf_code ms b e x from.steps from.by.1) in
        let text : bytes_of (code_of ks) ≡ w ++ b ∷ [] = ap bytes_of (code_of-append s.0 (took b from.to ∷ from.steps)) ∙ bytes_of-append (code_of s.0) (Byte b ∷ code_of from.steps) ∙ ap (λ z. z ++ b ∷ bytes_of (code_of from.steps)) s.1.reads ∙ ap (λ z. w ++ b ∷ z) from.by.0.1 in
        (ks, record { walk = walk; waits = l.3; once = once_joined ms s.0 (g.start ∷ []) b from.to from.steps s.1.once from.once; reads = text }, code)

    -- a survivor that isn't covered is there with its code
    pub next_there : (p : ℕ) (d : List Symbol) → IsUncovered g (w ++ b ∷ []) p d → IsAmong (leaves_if a c) (record { at = p; code = d })
    next_there p d u = let r = uncovered_from g range trimmed w b p d u in by r.0 r.1 r.0.back r.0.last r.0.once r.0.back_bytes r.0.whole
      where
        by : (r : From g range trimmed w (b ∷ []) d p) → IsUncovered g w r.at r.code → (back : List (Step ℕ)) → Walk ms r.at back p → NoReturn (r.at ∷ []) back → bytes_of (code_of back) ≡ b ∷ [] → d ≡ r.code ++ code_of back → IsAmong (leaves_if a c) (record { at = p; code = d })
        by r o [] walk once bytes whole = cc
        by r o (chose y to ∷ back) walk once bytes whole = absurd (no_side r.survives.reached.1.waits walk.0)
        by r o (went y to ∷ back) walk once bytes whole = absurd (no_effect r.survives.reached.1.waits walk.0)
        by r o (took y to ∷ back) walk once bytes whole =
            let same : y ≡ b = cc in
            let quiet : bytes_of (code_of back) ≡ [] = cc in
            let e : CodedPlace ℕ = record { at = r.at; code = r.code } in
            ⊎_elim
            (λ i. absurd (none_marked m p i))
            (λ x.
            let up : AtMost x.0.code d = subst (λ z. AtMost x.0.code z) (ap (λ z. r.code ++ Byte z ∷ code_of back) (sym same) ∙ sym whole) x.3 in
            let down : AtMost d x.0.code = u.1.survives.least x.0.code (subst (λ z. Reaches ms g.start (w ++ b ∷ []) z x.0.code) x.2 (next_real x.0 x.1)) in
            let is : x.0 ≡ record { at = p; code = d } = both_same x.0 p d x.2 (at_most_both x.0.code d up down) in
            subst (λ z. IsAmong (leaves_if a c) z) is x.1)
            (adv.all c e (has.all r.at r.code o) to (subst (λ z. Allows (ms r.at) (took z to)) same walk.0) back p once (walk.1, quiet) u.1.survives.reached.1.waits)

    -- with a byte more, restricted again, it is that of the longer text
    pub next_uncovered : (keep : ℕ → Bool) → KeepsUncovered g (w ++ b ∷ []) keep → ShowsUncovered g (w ++ b ∷ []) c (restrict_if keep a)
    next_uncovered keep k = shown (w ++ b ∷ []) c keep a k (advances_parted v has.parted) (λ x i. one x i (keep x.at) refl) next_there
      where
        one : (x : CodedPlace ℕ) → IsAmong (leaves_if a c) x → (z : Bool) → keep x.at ≡ z → Survives ms g.start (w ++ b ∷ []) x.at x.code ⊎ (keep x.at ≡ false)
        one x i false e = inr e
        one x i true e =
            let y = least_code g range trimmed (w ++ b ∷ []) x.at x.code (next_real x i) in
            let u = next_there x.at y.0 (k.kept x.at y.0 y.1 e) in
            let same : record { at = x.at; code = y.0 } ≡ x = adv.single c (record { at = x.at; code = y.0 }) x u i refl in
            inl (subst (λ z. Survives ms g.start (w ++ b ∷ []) x.at z) (ap (λ z. z.code) same) y.1)

  -- where nothing is left of it, the longer text isn't viable
  pub next_none : (w : List ℕ) (c : List Symbol) (t : Labelled Symbol ℕ) (b m : ℕ) (f : List Bool) → HasUncoveredTree g w c t → Advances itself (Byte b) ms b (replicate m false) t None f → ¬ IsViableFor g (w ++ b ∷ [])
  next_none w c t b m f has v good = let u = (best_is g range trimmed (w ++ b ∷ [])).some good in next_there w c t b m None f has v u.0 u.1 u.2

  -- the start's tree, restricted
  pub first_uncovered : (c : List Symbol) (t : Labelled Symbol ℕ) (keep : ℕ → Bool) → HasTree ms g.start [] c t → KeepsUncovered g [] keep → ShowsUncovered g [] [] (restrict_if keep (Some (record { label = c; tree = t })))
  first_uncovered c t keep has k = same (restrict keep t) (restricted_shows [] c t keep has k)
    where
      same : (a : Option (Grown Symbol ℕ)) → ShowsUncovered g [] c a → ShowsUncovered g [] [] (with_prefix c a)
      same None h = h
      same (Some s) h = h

  -- at the end: the first leaf that accepts
  accepts : (w : List ℕ) (p : ℕ) (c : List Symbol) → IsFirstBy g w [] p c → ms p ≡ accept
  accepts w p c first = by first.ends.0 first.ends.2 first.ends.4
    where
      by : (ks : List (Step ℕ)) → Walk ms p ks first.ends.1 → bytes_of (code_of ks) ≡ [] → ms p ≡ accept
      by [] walk e = ap ms walk ∙ first.ends.3
      by (took y t ∷ ks) walk e = cc
      by (chose y t ∷ ks) walk e = absurd (no_side first.survives.reached.1.waits walk.0)
      by (went y t ∷ ks) walk e = absurd (no_effect first.survives.reached.1.waits walk.0)

  -- the survivor at which the greedy parse ends isn't covered
  pub greedy_uncovered : (w : List ℕ) (d : List Symbol) → IsGreedy g w d → (p : ℕ) × IsUncovered g w p d × (ms p ≡ accept)
  greedy_uncovered w d greedy =
      let f = first_leads g range trimmed w [] d (subst (λ z. IsGreedy g z d) (sym (append-nil w)) greedy) in
      let r = greedy.greedy.2.reached in
      let whole : cut_behind (length w) d ≡ d = uncut (length w) d (omega (arith, ap length (ap bytes_of (sym r.2) ∙ r.1.reads))) in
      let same : f.1 ≡ d = sym f.4 ∙ whole in
      (f.0, ([], subst (λ z. IsFirstBy g w [] f.0 z) same f.2), accepts w f.0 f.1 f.2)

  pub none_end : (w : List ℕ) (c : List Symbol) (t : Labelled Symbol ℕ) → HasUncoveredTree g w c t → first_accepting ms t ≡ None → ¬ HasRun g w
  none_end w c t h e parse =
      let best = tree_best w c t h in
      let d = greedy_of g range trimmed w parse best.viable in
      let p = greedy_uncovered w d.0 d.1 in
      accepting_none ms t c e (record { at = p.0; code = d.0 }) (h.all p.0 d.0 p.1) p.2

  pub greedy_end : (w : List ℕ) (c : List Symbol) (t : Labelled Symbol ℕ) → HasUncoveredTree g w c t → (s : Grown Symbol ℕ) → first_accepting ms t ≡ Some s → IsGreedy g w (c ++ s.label)
  greedy_end w c t h s e =
      let found = accepting_found ms t c s h.parted e in
      let u = h.each (record { at = found.place; code = c ++ s.label }) found.leaf in
      let sv = u.1.survives in
      let d = greedy_of g range trimmed w (sv.reached.0, (found.place, sv.reached.1.walk, found.accepts), sv.reached.1.reads) (found.place, (c ++ s.label, sv.reached, sv.alive)) in
      let p = greedy_uncovered w d.0 d.1 in
      let up : AtMost (c ++ s.label) d.0 = found.first (record { at = p.0; code = d.0 }) (h.all p.0 d.0 p.1) p.2 in
      let down : AtMost d.0 (c ++ s.label) = d.1.least (c ++ s.label) (found.place, found.accepts, sv) in
      subst (λ z. IsGreedy g w z) (at_most_both d.0 (c ++ s.label) down up) d.1
