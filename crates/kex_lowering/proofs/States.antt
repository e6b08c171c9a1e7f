-- Two systems that have the same shapes, place for place, have as many states.
use Rattle.std.proofs.Common.{◌≡◌, ℕ, suc, List, [], ◌∷◌, inl, inr, ⊎_elim, length, refl, sym, ap, ap₂, ◌∙◌, subst, arith}
use Rattle.kex_code.specs.Codes.{IsAmong}
use Rattle.kex_model.specs.Labelled.{Shape, place, parts}
use Rattle.kex_model.specs.Moves.{Move}
use Rattle.kex_model.specs.Survivors.{HasShape}
use Rattle.kex_model.specs.States.{AllDifferent, HasMoreStates, HasStates, IsState}
use Rattle.kex_model.specs.Programs.{Grammar}
use Rattle.kex_model.specs.Places.{Place, moves, start_of}
use Rattle.kex_machine.specs.Nodes.{Graph, node_moves}
use Rattle.kex_lowering.specs.Stages.{IsKeptOf}
use Rattle.kex_lowering.specs.Shapes.{SameShape, SameShapes, SameStates, WasPlaceOf}
use Rattle.kex_lowering.proofs.SameShapes.{turned_shape}
use Rattle.kex_lowering.proofs.PairedNodes.{shaped}

module _ {S T : Type 0} (R : S → T → Type 0) where
  pub shape_back : ((p p' : S) (q : T) → R p q → R p' q → p ≡ p') → (s s' : Shape S) (u : Shape T) → SameShape R s u → SameShape R s' u → s ≡ s'
  shape_back one (place p) (place p') (place q) h k = ap place (one p p' q h k)
  shape_back one (parts l r) (parts l' r') (parts x y) h k = ap₂ parts (shape_back one l l' x h.0 k.0) (shape_back one r r' y h.1 k.1)
  shape_back one (place p) s' (parts x y) h k = absurd h
  shape_back one (parts l r) s' (place q) h k = absurd h
  shape_back one (place p) (parts l' r') (place q) h k = absurd k
  shape_back one (parts l r) (place p') (parts x y) h k = absurd k

  pub shape_forth : ((p : S) (q q' : T) → R p q → R p q' → q ≡ q') → (s : Shape S) (u u' : Shape T) → SameShape R s u → SameShape R s u' → u ≡ u'
  shape_forth one (place p) (place q) (place q') h k = ap place (one p q q' h k)
  shape_forth one (parts l r) (parts x y) (parts x' y') h k = ap₂ parts (shape_forth one l x x' h.0 k.0) (shape_forth one r y y' h.1 k.1)
  shape_forth one (place p) (parts x y) u' h k = absurd h
  shape_forth one (parts l r) (place q) u' h k = absurd h
  shape_forth one (place p) (place q) (parts x' y') h k = absurd k
  shape_forth one (parts l r) (parts x y) (place q') h k = absurd k

module _ {S T : Type 0} (f : S → Move S) (g : T → Move T) (s₀ : S) (t₀ : T) (R : S → T → Type 0)
    (on : (w : List ℕ) (s : Shape S) → HasShape f s₀ w s → (u : Shape T) × SameShape R s u × HasShape g t₀ w u)
    (one_back : (p p' : S) (q : T) → R p q → R p' q → p ≡ p') where
  -- the partners of different states, which are different
  record PartnersOf (ss : List (Shape S)) : Type 0 where
    shapes : List (Shape T)
    long : length shapes ≡ length ss
    each : (u : Shape T) → IsAmong shapes u → IsState g t₀ u
    source : (u : Shape T) → IsAmong shapes u → (s : Shape S) × IsAmong ss s × SameShape R s u
    partner : (s : Shape S) → IsAmong ss s → (u : Shape T) × IsAmong shapes u × SameShape R s u
    different : AllDifferent ss → AllDifferent shapes

  partners : (ss : List (Shape S)) → ((s : Shape S) → IsAmong ss s → IsState f s₀ s) → PartnersOf ss
  partners [] all = record { shapes = []; long = refl; each = λ u i. absurd i; source = λ u i. absurd i; partner = λ s i. absurd i; different = λ d. tt }
  partners (s ∷ ss) all =
      let h = all s (inl refl) in
      let x = on h.0 s h.1 in
      let rest = partners ss (λ z i. all z (inr i)) in
      record {
        shapes = x.0 ∷ rest.shapes;
        long = ap suc rest.long;
        each = λ u i. ⊎_elim (λ e. (h.0, subst (λ z. HasShape g t₀ h.0 z) e x.2)) (λ j. rest.each u j) i;
        source = λ u i. ⊎_elim (λ e. (s, inl refl, subst (λ z. SameShape R s z) e x.1)) (λ j. let y = rest.source u j in (y.0, inr y.1, y.2)) i;
        partner = λ z i. ⊎_elim (λ e. (x.0, inl refl, subst (λ v. SameShape R v x.0) e x.1)) (λ j. let y = rest.partner z j in (y.0, inr y.1, y.2)) i;
        different = λ d. ((λ i. let y = rest.source x.0 i in d.0 (subst (λ z. IsAmong ss z) (shape_back R one_back y.0 s x.0 y.2 x.1) y.1)), rest.different d.1);
      }

  pub more_states_on : (n : ℕ) → HasMoreStates f s₀ n → HasMoreStates g t₀ n
  more_states_on n (xs, long, different, each) =
      let all = partners xs each in
      (all.shapes, omega (arith, all.long, long), all.different different, all.each)

  module _ (back : (w : List ℕ) (u : Shape T) → HasShape g t₀ w u → (s : Shape S) × SameShape R s u × HasShape f s₀ w s) (one : (p : S) (q q' : T) → R p q → R p q' → q ≡ q') where
    pub states_on : (n : ℕ) → HasStates f s₀ n → HasStates g t₀ n
    states_on n h =
        let all = partners h.states h.each in
        record {
          states = all.shapes;
          count = h.count ∙ sym all.long;
          different = all.different h.different;
          each = all.each;
          all = λ u i.
              let s = back i.0 u i.1 in
              let y = all.partner s.0 (h.all s.0 (i.0, s.2)) in
              subst (λ z. IsAmong all.shapes z) (shape_forth R one s.0 y.0 u y.2 s.1) y.1;
        }

-- the nodes that are left of a stage's machine
module _ (P : Grammar) (root : ℕ) (m : Graph) (kept : IsKeptOf P root m) where
  abbrev Pairs : Place → ℕ → Type 0
  Pairs p k = WasPlaceOf kept.of_places kept.trimmed p k

  same : SameShapes P root m Pairs
  same = shaped P root kept.whole m kept.of_places kept.trimmed

  places_on : (w : List ℕ) (u : Shape ℕ) → HasShape (node_moves m.nodes) m.start w u → (s : Shape Place) × SameShape (λ k p. Pairs p k) u s × HasShape (moves P) (start_of P root) w s
  places_on w u h = let x = same.shape_of_places w u h in (x.0, turned_shape (λ k p. Pairs p k) u x.0 x.1, x.2)

  nodes_on : (w : List ℕ) (s : Shape Place) → HasShape (moves P) (start_of P root) w s → (u : Shape ℕ) × SameShape (λ k p. Pairs p k) u s × HasShape (node_moves m.nodes) m.start w u
  nodes_on w s h = let u = same.shape_of_nodes w s h in (u.0, turned_shape (λ k p. Pairs p k) u.0 s u.1, u.2)

  pub same_states : (n : ℕ) → SameStates P root m n
  same_states n = record {
    more = (
      more_states_on (moves P) (node_moves m.nodes) (start_of P root) m.start Pairs (λ w s h. same.shape_of_nodes w s h) (λ p p' k h j. same.one_place p p' k h j) n,
      more_states_on (node_moves m.nodes) (moves P) m.start (start_of P root) (λ k p. Pairs p k) places_on (λ k k' p h j. same.one_node p k k' h j) n,
    );
    count = (
      states_on (moves P) (node_moves m.nodes) (start_of P root) m.start Pairs (λ w s h. same.shape_of_nodes w s h) (λ p p' k h j. same.one_place p p' k h j) (λ w u h. same.shape_of_places w u h) (λ p k k' h j. same.one_node p k k' h j) n,
      states_on (node_moves m.nodes) (moves P) m.start (start_of P root) (λ k p. Pairs p k) places_on (λ k k' p h j. same.one_node p k k' h j) nodes_on (λ k p p' h j. same.one_place p p' k h j) n,
    );
  }
