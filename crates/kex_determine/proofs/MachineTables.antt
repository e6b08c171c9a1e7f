-- A table with the rows of the shapes shows the tree of each text, and so it is that of the machine.
use Rattle.std.proofs.Common.{◌≡◌, ℕ, zero, suc, ◌+◌, ◌<◌, ◌≤◌, Bool, false, List, [], ◌∷◌, ◌++◌, ◌⊎◌, inl, inr, ⊎_elim, Option, Some, None, length, map, replicate, refl, sym, ap, ap₂, subst, ◌∙◌, append_assoc, append-nil, arith}
use Rattle.std.specs.Prelude.{slice_get}
use Rattle.std.proofs.lemmas.Bool.{cases_lt}
use Rattle.std.proofs.lemmas.List.{map-append}
use Rattle.kex_byteset.specs.Classes.{class_at}
use Rattle.kex_code.specs.declared.symbol.Symbol.{Symbol}
use Rattle.kex_code.specs.Codes.{IsAmong}
use Rattle.kex_model.specs.Moves.{Move, took, Allows}
use Rattle.kex_model.specs.Labelled.{Labelled, tip, fork, labels_of, Shape, place, parts, shape_of, size_of, map_labels, Grown}
use Rattle.kex_model.specs.Survivors.{HasTree}
use Rattle.kex_model.specs.States.{IsState}
use Rattle.kex_model.proofs.Shapes.{tree_agrees}
use Rattle.kex_machine.specs.Nodes.{Graph, node_moves, HasClasses}
use Rattle.kex_machine.specs.Answers.{IsViableFor, HasRun, IsGreedy}
use Rattle.kex_machine.specs.Advancing.{Advances, dies, both, first_accepting, map_labels_if}
use Rattle.kex_machine.proofs.Nexts.{IsTrim}
use Rattle.kex_machine.proofs.LongestFronts.{viable_before}
use Rattle.kex_machine.proofs.AcceptingTips.{greedy_found, none_parses}
use Rattle.kex_machine.proofs.Classes.{byte_read}
use Rattle.kex_machine.proofs.Labels.{map_labels-first_accepting}
use Rattle.kex_machine.proofs.Unique.{tree_unique}
use Rattle.kex_sst.specs.declared.parts.Part.{Part}
use Rattle.kex_sst.specs.declared.parts.Part.TheVariants.{Put, Input}
use Rattle.kex_sst.specs.declared.table.Transition.{Transition}
use Rattle.kex_sst.specs.Parts.{parts_code, numbered_tree}
use Rattle.kex_sst.specs.Tables.{Transducer, transition_if, transition_on}
use Rattle.kex_sst.specs.Passes.{Pass, first_pass, next_of, next_pass, passes_if, passes, way_of, ended_by, whole_code}
use Rattle.kex_sst.specs.Machines.{IsTableOf}
use Rattle.kex_sst.proofs.Passes.{by_class}
use Rattle.kex_paths.specs.Nexts.{IsNext}
use Rattle.kex_paths.proofs.Meanings.{parts_code-append, registers_hold}
use Rattle.kex_paths.proofs.NextTrees.{first_shows, next_shows}
use Rattle.kex_determine.specs.Determined.{ShowsText}
use Rattle.kex_determine.specs.Rows.{DoesOn, way_to, AreRows, IsFound, at_first, by_byte}

pub relabelled_labels : {A B S : Type 0} (f : List A → List B) (t : Labelled A S) → map f (labels_of t) ≡ labels_of (map_labels f t)
relabelled_labels f (tip p) = refl
relabelled_labels f (fork x l y r) = ap (λ z. f x ∷ z) (map-append f (labels_of l) (y ∷ labels_of r) ∙ ap₂ (λ u v. u ++ f y ∷ v) (relabelled_labels f l) (relabelled_labels f r))

pub relabelled_shape : {A B S : Type 0} (f : List A → List B) (t : Labelled A S) → shape_of (map_labels f t) ≡ shape_of t
relabelled_shape f (tip p) = refl
relabelled_shape f (fork x l y r) = ap₂ (λ u v. parts u v) (relabelled_shape f l) (relabelled_shape f r)

pub among_get : {A : Type 0} (xs : List A) (i : ℕ) (x : A) → slice_get xs i ≡ Some x → IsAmong xs x
among_get [] i x e = cc
among_get (y ∷ xs) zero x e = inl (cc)
among_get (y ∷ xs) (suc i) x e = inr (among_get xs i x e)

-- on a number that is no byte no place goes on
beyond : (moves : ℕ → Move ℕ) (b k : ℕ) (f : List Bool) (s : Shape ℕ) → ((p t : ℕ) → Allows (moves p) (took b t) → ⊥) → Advances (λ s. Put s) Input moves b f (numbered_tree k s) None f
beyond moves b k f (place p) no_way = dies (no_way p)
beyond moves b k f (parts l r) no_way = both (beyond moves b (suc k) f l no_way) (beyond moves b (suc (k + size_of l)) f r no_way)

module _ (g : Graph) (trim : IsTrim (node_moves g.nodes) g.start) where
  abbrev ms : ℕ → Move ℕ
  ms = node_moves g.nodes

  module _ (t : Transducer) (shapes : List (Shape ℕ)) (classed : HasClasses g.nodes t.classes) (table : AreRows g t shapes) where
    abbrev Shows : List ℕ → Option Pass → Type 0
    Shows w p = ShowsText g shapes w p

    shows_begun : Shows [] (Some (first_pass t.initial))
    shows_begun =
        let f = table.begins in
        let a = f.0 in
        let h = first_shows g trim a f.1 in (
          map_labels (parts_code [] 0) a.tree,
          subst (λ z. HasTree ms g.start [] (parts_code [] 0 z) (map_labels (parts_code [] 0) a.tree)) (sym f.2.0) h,
          ap (λ z. map (λ x. parts_code [] 0 x) z) f.2.1 ∙ relabelled_labels (parts_code [] 0) a.tree,
          f.3 ∙ ap (λ z. Some z) (sym (relabelled_shape (parts_code [] 0) a.tree)),
        )

    -- what a state of this shape does on a byte
    does : (i b : ℕ) (s : Shape ℕ) → slice_get shapes i ≡ Some s → b < 256 → DoesOn g shapes s b (next_of t i b)
    does i b s at lt =
        let r = table.rows i s at in
        let is : next_of t i b ≡ transition_if (slice_get r.0.go (class_at t.classes b)) =
        (by_class t i).byte b (omega (arith, lt, classed.refined.numbered.long)) ∙ ap (λ o. transition_on o (class_at t.classes b)) r.1 in
        subst (λ z. DoesOn g shapes s b z) (sym is) (r.2.does b lt)

    no_next : (w : List ℕ) (p : Pass) (b : ℕ) (tree : Labelled Symbol ℕ) → HasTree ms g.start w p.code tree → 256 ≤ b → ¬ IsViableFor g (w ++ b ∷ [])
    no_next w p b tree has past = next_shows g trim w p.code tree has b None (replicate (length g.nodes) false, beyond ms b 0 (replicate (length g.nodes) false) (shape_of tree) (λ q u way. omega (arith, byte_read g.nodes t.classes classed q b u way, past)))

    shows_step : (w : List ℕ) (b : ℕ) (p : Pass) → Shows w (Some p) → Shows (w ++ b ∷ []) (next_pass (next_of t p.state b) b p)
    shows_step w b p (tree, has, regs, at) = ⊎_elim
        (λ lt. by (next_of t p.state b) (does p.state b (shape_of tree) at lt))
        (λ past. subst (λ z. Shows (w ++ b ∷ []) (next_pass z b p)) (sym ((by_class t p.state).no_byte b (omega (arith, past, classed.refined.numbered.long)))) (no_next w p b tree has past))
        (cases_lt b 256)
      where
        by : (r : Option Transition) → DoesOn g shapes (shape_of tree) b r → Shows (w ++ b ∷ []) (next_pass r b p)
        by None next = next_shows g trim w p.code tree has b None next
        by (Some r) (a, next, change, target) =
            let h = next_shows g trim w p.code tree has b (Some a) next in (
              map_labels (parts_code (labels_of tree) b) a.tree,
              subst (λ z. HasTree ms g.start (w ++ b ∷ []) (p.code ++ z) (map_labels (parts_code (labels_of tree) b) a.tree)) (ap₂ (λ u v. parts_code u b v) (sym regs) (sym change.0)) h,
              ap₂ (λ u v. map (λ x. parts_code u b x) v) regs change.1 ∙ relabelled_labels (parts_code (labels_of tree) b) a.tree,
              target ∙ ap (λ z. Some z) (sym (relabelled_shape (parts_code (labels_of tree) b) a.tree)),
            )

    viable_front : (w v : List ℕ) → IsViableFor g (w ++ v) → IsViableFor g w
    viable_front w [] h = subst (λ z. IsViableFor g z) (append-nil w) h
    viable_front w (b ∷ v) h = viable_before g trim w b (viable_front (w ++ b ∷ []) v (subst (λ z. IsViableFor g z) (sym (append_assoc w (b ∷ []) v)) h))

    shows_all : (w v : List ℕ) (p : Option Pass) → Shows w p → Shows (w ++ v) (passes_if t p v)
    shows_all w [] None h = subst (λ z. IsViableFor g z → ⊥) (sym (append-nil w)) h
    shows_all w (b ∷ v) None h = λ viable. h (viable_front w (b ∷ v) viable)
    shows_all w [] (Some p) h = subst (λ z. Shows z (Some p)) (sym (append-nil w)) h
    shows_all w (b ∷ v) (Some p) h = subst (λ z. Shows z (passes_if t (next_pass (next_of t p.state b) b p) v)) (append_assoc w (b ∷ []) v) (shows_all (w ++ b ∷ []) v (next_pass (next_of t p.state b) b p) (shows_step w b p h))

    -- along each text the table shows the text's tree
    pub shows : (w : List ℕ) → Shows w (passes t w)
    shows w = shows_all [] w (Some (first_pass t.initial)) shows_begun

    -- the shape of each text is that of a state
    pub all_states : (s : Shape ℕ) → IsState ms g.start s → IsAmong shapes s
    all_states s (w, (c, tree, has, is)) = by (passes t w) (shows w)
      where
        by : (p : Option Pass) → Shows w p → IsAmong shapes s
        by None h = absurd (h (tree_agrees ms g.start w c tree has).viable)
        by (Some p) (tree', has', regs, at) =
            let same = tree_unique ms g.start w c p.code tree tree' has has' in
            among_get shapes p.state s (at ∙ ap (λ z. Some z) (ap shape_of (sym same.0) ∙ is))

    -- at its end: the tree's first leaf that accepts
    module _ (w : List ℕ) (p : Pass) (tree : Labelled Symbol ℕ) (has : HasTree ms g.start w p.code tree) (regs : p.registers ≡ labels_of tree) where
      abbrev hold : List Part → List Symbol
      hold xs = parts_code p.registers 0 xs

      found_there : map_labels_if hold (first_accepting ms (numbered_tree 0 (shape_of tree))) ≡ first_accepting ms tree
      found_there = map_labels-first_accepting hold refl (parts_code-append p.registers 0) ms (numbered_tree 0 (shape_of tree)) ∙ ap (first_accepting ms) (subst (λ z. map_labels (λ xs. parts_code z 0 xs) (numbered_tree 0 (shape_of tree)) ≡ tree) (sym regs) (registers_hold 0 tree))

      ends_by : (a : Option (Grown Part ℕ)) → first_accepting ms (numbered_tree 0 (shape_of tree)) ≡ a → ((c : List Symbol) → ended_by (way_to a) p ≡ Some c → IsGreedy g w c) × (ended_by (way_to a) p ≡ None → ¬ HasRun g w)
      ends_by None e = ((λ c f. let bad : ⊥ = cc in absurd bad), (λ _. none_parses g trim w p.code tree has (sym found_there ∙ ap (map_labels_if hold) e)))
      ends_by (Some a) e = (
        (λ c f. subst (λ z. IsGreedy g w z) (same f) (greedy_found g trim w p.code tree has (record { label = hold a.label; tree = map_labels hold a.tree }) (sym found_there ∙ ap (map_labels_if hold) e))),
        (λ f. let bad : ⊥ = cc in absurd bad),
      )
        where
          same : {c : List Symbol} → Some (p.code ++ hold a.label) ≡ Some c → p.code ++ hold a.label ≡ c
          same f = cc

    ends : (w : List ℕ) (p : Pass) → Shows w (Some p) → ((c : List Symbol) → whole_code t p ≡ Some c → IsGreedy g w c) × (whole_code t p ≡ None → ¬ HasRun g w)
    ends w p (tree, has, regs, at) =
        let r = table.rows p.state (shape_of tree) at in
        subst (λ o. ((c : List Symbol) → ended_by (way_of o) p ≡ Some c → IsGreedy g w c) × (ended_by (way_of o) p ≡ None → ¬ HasRun g w)) (sym r.1)
        (subst (λ o. ((c : List Symbol) → ended_by o p ≡ Some c → IsGreedy g w c) × (ended_by o p ≡ None → ¬ HasRun g w)) (sym r.2.ends) (ends_by w p tree has regs (first_accepting ms (numbered_tree 0 (shape_of tree))) refl))

    passed : (w : List ℕ) (p : Pass) → passes t w ≡ Some p → Shows w (Some p)
    passed w p e = subst (λ z. Shows w z) e (shows w)

    -- the table is that of the machine
    pub is_table : IsTableOf g t
    is_table = record {
      goes_on = λ w p e. let h = passed w p e in tree_agrees ms g.start w p.code h.0 h.1;
      stops = λ w e. subst (λ z. Shows w z) e (shows w);
      parsed = λ w p c e f. (ends w p (passed w p e)).0 c f;
      cut = λ w p e f. (ends w p (passed w p e)).1 f;
    }

  -- what is found is the shape of a text
  pub found_state : (s : Shape ℕ) → IsFound g s → IsState ms g.start s
  found_state s (at_first a f) = ([], (parts_code [] 0 a.label, map_labels (parts_code [] 0) a.tree, first_shows g trim a f, relabelled_shape (parts_code [] 0) a.tree))
  found_state s (by_byte {s = s'} b a from next) =
      let r = found_state s' from in
      let c = r.1.0 in
      let t = r.1.1 in (
        r.0 ++ b ∷ [],
        (
          c ++ parts_code (labels_of t) b a.label,
          map_labels (parts_code (labels_of t) b) a.tree,
          next_shows g trim r.0 c t r.1.2 b (Some a) (subst (λ z. IsNext g b z (Some a)) (sym r.1.3) next),
          relabelled_shape (parts_code (labels_of t) b) a.tree,
        ),
      )
