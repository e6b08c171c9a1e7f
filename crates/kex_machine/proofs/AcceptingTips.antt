-- The end: the first tip of a tree that accepts has the code of the greedy parse.
use Rattle.std.proofs.Common.{◌≡◌, ℕ, List, [], ◌++◌, inl, inr, ⊎_elim, Option, Some, None, refl, sym, ap, subst, ◌∙◌, append_assoc, append-nil}
use Rattle.kex_code.specs.declared.symbol.Symbol.{Symbol}
use Rattle.kex_code.specs.Codes.{AtMost, IsAmong}
use Rattle.kex_model.specs.Moves.{Move, accept, read, choose, forced, go, IsWaiting}
use Rattle.kex_model.specs.Labelled.{Labelled, tip, fork, leaves_of, Grown, with_prefix}
use Rattle.kex_model.specs.Survivors.{CodedPlace, IsParted, Survives, HasTree}
use Rattle.kex_model.proofs.Orders.{at_most_trans}
use Rattle.kex_model.proofs.Shapes.{among-append, among_left, among_right, behind_start, leaf_front}
use Rattle.kex_machine.specs.Nodes.{Graph, node_moves}
use Rattle.kex_machine.specs.Answers.{HasRun, IsGreedy}
use Rattle.kex_machine.specs.Advancing.{left_or_right, at_end, first_accepting}
use Rattle.kex_machine.proofs.Nexts.{IsTrim, reached_by}

module _ (moves : ℕ → Move ℕ) where
  end_none : (m : Move ℕ) (p : ℕ) → at_end {A = Symbol} m p ≡ None → m ≡ accept → ⊥
  end_none accept p e f = cc
  end_none (read s t) p e f = cc
  end_none (choose l r) p e f = cc
  end_none (forced x t) p e f = cc
  end_none (go x t) p e f = cc

  behind_none : (c : List Symbol) (a : Option (Grown Symbol ℕ)) → with_prefix c a ≡ None → a ≡ None
  behind_none c None e = refl
  behind_none c (Some g) e = cc

  picked_none : (a b : Option (Grown Symbol ℕ)) → left_or_right a b ≡ None → (a ≡ None) × (b ≡ None)
  picked_none None b e = (refl, e)
  picked_none (Some g) b e = cc

  -- where nothing is found, no tip accepts
  pub accepting_none : (t : Labelled Symbol ℕ) (c : List Symbol) → first_accepting moves t ≡ None → (x : CodedPlace ℕ) → IsAmong (leaves_of t c) x → moves x.at ≡ accept → ⊥
  accepting_none (tip p) c e x i acc = ⊎_elim (λ f. end_none (moves p) p e (ap (λ z. moves z.at) f ∙ acc)) (λ k. k) i
  accepting_none (fork u l v r) c e x i acc =
      let q = picked_none (with_prefix u (first_accepting moves l)) (with_prefix v (first_accepting moves r)) e in
      ⊎_elim
      (λ i. accepting_none l (c ++ u) (behind_none u (first_accepting moves l) q.0) x i acc)
      (λ i. accepting_none r (c ++ v) (behind_none v (first_accepting moves r) q.1) x i acc)
      (among-append (leaves_of l (c ++ u)) (leaves_of r (c ++ v)) x i)

  -- what is found is a tip that accepts, with its code, before all others
  pub record IsFound (t : Labelled Symbol ℕ) (c : List Symbol) (g : Grown Symbol ℕ) : Type 0 where
    pub place : ℕ
    pub accepts : moves place ≡ accept
    pub leaf : IsAmong (leaves_of t c) (record { at = place; code = c ++ g.label })
    pub first : (x : CodedPlace ℕ) → IsAmong (leaves_of t c) x → moves x.at ≡ accept → AtMost (c ++ g.label) x.code

  found_tip : (m : Move ℕ) (p : ℕ) (g : Grown Symbol ℕ) → at_end {A = Symbol} m p ≡ Some g → (m ≡ accept) × (g ≡ record { label = []; tree = tip p })
  found_tip accept p g e = (refl, (cc))
  found_tip (read s t) p g e = cc
  found_tip (choose l r) p g e = cc
  found_tip (forced x t) p g e = cc
  found_tip (go x t) p g e = cc

  pub accepting_found : (t : Labelled Symbol ℕ) (c : List Symbol) (g : Grown Symbol ℕ) → IsParted t → first_accepting moves t ≡ Some g → IsFound t c g
  accepting_found (tip p) c g parted e =
      let q = found_tip (moves p) p g e in
      let code : c ≡ c ++ g.label = sym (append-nil c) ∙ ap (λ z. c ++ z.label) (sym q.1) in
      record {
        place = p;
        accepts = q.0;
        leaf = inl (ap (λ z. record { at = p; code = z }) code);
        first = λ x i acc. inl (⊎_elim (λ f. sym code ∙ ap (λ z. z.code) f) (λ k. absurd k) i);
      }
  accepting_found (fork u l v r) c g parted e = by (λ s f. accepting_found l (c ++ u) s parted.1 f) (λ s f. accepting_found r (c ++ v) s parted.3 f) (first_accepting moves l) refl (first_accepting moves r) refl
    where
      by : ((s : Grown Symbol ℕ) → first_accepting moves l ≡ Some s → IsFound l (c ++ u) s) → ((s : Grown Symbol ℕ) → first_accepting moves r ≡ Some s → IsFound r (c ++ v) s) → (al : Option (Grown Symbol ℕ)) → first_accepting moves l ≡ al → (ar : Option (Grown Symbol ℕ)) → first_accepting moves r ≡ ar → IsFound (fork u l v r) c g
      by left right (Some s) el ar er =
          let is : record { label = u ++ s.label; tree = s.tree } ≡ g = (cc) in
          let h = left s el in
          let code : (c ++ u) ++ s.label ≡ c ++ g.label = append_assoc c u s.label ∙ ap (λ z. c ++ z.label) is in
          record {
            place = h.place;
            accepts = h.accepts;
            leaf = among_left (leaves_of l (c ++ u)) (leaves_of r (c ++ v)) (record { at = h.place; code = c ++ g.label }) (subst (λ z. IsAmong (leaves_of l (c ++ u)) (record { at = h.place; code = z })) code h.leaf);
            first = λ x i acc.
                ⊎_elim
                (λ i. subst (λ z. AtMost z x.code) code (h.first x i acc))
                (λ i.
                let p = behind_start c u (c ++ g.label) parted.0 (s.label, sym code) in
                let q = behind_start c v x.code parted.2 (leaf_front r (c ++ v) x i) in
                inr (c, p.0, q.0, p.1, q.1))
                (among-append (leaves_of l (c ++ u)) (leaves_of r (c ++ v)) x i);
          }
      by left right None el None er = cc
      by left right None el (Some s) er =
          let is : record { label = v ++ s.label; tree = s.tree } ≡ g = (cc) in
          let h = right s er in
          let code : (c ++ v) ++ s.label ≡ c ++ g.label = append_assoc c v s.label ∙ ap (λ z. c ++ z.label) is in
          record {
            place = h.place;
            accepts = h.accepts;
            leaf = among_right (leaves_of l (c ++ u)) (leaves_of r (c ++ v)) (record { at = h.place; code = c ++ g.label }) (subst (λ z. IsAmong (leaves_of r (c ++ v)) (record { at = h.place; code = z })) code h.leaf);
            first = λ x i acc.
                ⊎_elim
                (λ i. absurd (accepting_none l (c ++ u) el x i acc))
                (λ i. subst (λ z. AtMost z x.code) code (h.first x i acc))
                (among-append (leaves_of l (c ++ u)) (leaves_of r (c ++ v)) x i);
          }

module _ (g : Graph) (trim : IsTrim (node_moves g.nodes) g.start) (w : List ℕ) (c : List Symbol) (t : Labelled Symbol ℕ) (has : HasTree (node_moves g.nodes) g.start w c t) where
  abbrev ms : ℕ → Move ℕ
  ms = node_moves g.nodes

  -- where no tip accepts there is no parse
  pub none_parses : first_accepting ms t ≡ None → ¬ HasRun g w
  none_parses e (ks, (e', walk, acc), q) =
      let r = reached_by ms g.start trim w e' ks walk (subst (λ z. IsWaiting z) (sym acc) tt) q in
      let y = has.lists.all e' (r.0, r.1, trim.ends e') in
      accepting_none ms t c e (record { at = e'; code = y.0 }) y.1 acc

  -- the code at the first tip that accepts is the greedy parse's
  pub greedy_found : (s : Grown Symbol ℕ) → first_accepting ms t ≡ Some s → IsGreedy g w (c ++ s.label)
  greedy_found s e = record {
    parse = let r = survives.reached in (r.0, (found.place, r.1.walk, found.accepts), r.1.reads);
    greedy = (found.place, found.accepts, survives);
    least = λ d (e', acc, sv).
        let y = has.lists.all e' (d, sv.reached, sv.alive) in
        let z : AtMost y.0 d = (has.lists.each (record { at = e'; code = y.0 }) y.1).least d sv.reached in
        at_most_trans (c ++ s.label) y.0 d (found.first (record { at = e'; code = y.0 }) y.1 acc) z;
  }
    where
      found : IsFound ms t c s
      found = accepting_found ms t c s has.parted e

      survives : Survives ms g.start w found.place (c ++ s.label)
      survives = has.lists.each (record { at = found.place; code = c ++ s.label }) found.leaf
