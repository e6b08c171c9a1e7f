-- A stage's machine has as many pairs as the stage's places have.
use Rattle.std.proofs.Common.{ℕ, List, sym, ap, ◌∙◌}
use Rattle.kex_code.specs.Codes.{HasNumber, bytes_of}
use Rattle.kex_model.specs.Programs.{Grammar}
use Rattle.kex_model.specs.Labelled.{Shape}
use Rattle.kex_model.specs.Moves.{Move}
use Rattle.kex_model.specs.Places.{Place, moves, start_of}
use Rattle.kex_model.specs.Survivors.{LeadsToEnd}
use Rattle.kex_model.specs.States.{IsState}
use Rattle.kex_model.specs.Alike.{Alike}
use Rattle.kex_model.proofs.Tables.{some_same}
use Rattle.kex_model.proofs.Transfer.{paired_code, walk_ahead, walk_back}
use Rattle.kex_machine.specs.Nodes.{Graph, node_moves}
use Rattle.kex_trim.proofs.KeptNodes.{alike_kept}
use Rattle.kex_lowering.specs.Stages.{IsKeptOf}
use Rattle.kex_lowering.specs.Shapes.{SameShape, SameShapes, WasPlaceOf}
use Rattle.kex_lowering.proofs.Pairs.{alike_through, end_back}
use Rattle.kex_lowering.proofs.PlaceNodes.{Numbered, alike}
use Rattle.kex_lowering.proofs.PairedNodes.{shaped}
use Rattle.kex_lowering.proofs.SameShapes.{turned_shape}
use Rattle.kex_cover.specs.Pairs.{GetsTo}
use Rattle.kex_cover.specs.Optimal.{SomeAsksMore}
use Rattle.kex_alike.specs.StageTests.{LeadsAlive, HasTooManyPairs, MachinesAskAlike, MachinesAskAsTheirStage}
use Rattle.kex_alike.proofs.AlikeTests.{LeadAlike, turned_lead, test_on}
use Rattle.kex_alike.proofs.OrderedSets.{Leads, IsNodeState, test_without_order, test_with_order, asks_one}

module _ (P : Grammar) (root : ℕ) (m : Graph) (kept : IsKeptOf P root m) where
  abbrev placed : Place → Move Place
  placed p = moves P p

  abbrev numbered : ℕ → Move ℕ
  numbered n = node_moves kept.whole.nodes n

  abbrev left : ℕ → Move ℕ
  left n = node_moves m.nodes n

  abbrev Kept : ℕ → ℕ → Type 0
  Kept s u = HasNumber kept.trimmed.kept s u

  abbrev Was : Place → ℕ → Type 0
  Was p n = WasPlaceOf kept.of_places kept.trimmed p n

  was_alike : Alike placed left Was
  was_alike = alike_through placed numbered left (Numbered P root kept.whole kept.of_places) Kept (alike P root kept.whole kept.of_places) (alike_kept numbered left Kept kept.trimmed.keeps kept.trimmed.once (λ s s' n p q. some_same s s' (sym p ∙ q)))

  -- what was kept leads to the end
  kept_ends : (p : Place) (n : ℕ) → Was p n → LeadsToEnd placed p
  kept_ends p n (before, at, k) = end_back placed numbered (Numbered P root kept.whole kept.of_places) (alike P root kept.whole kept.of_places) p before at (kept.trimmed.each before n k).0

  abbrev Alive : Place → List ℕ → Place → Type 0
  Alive p x q = LeadsAlive placed p x q

  to_nodes : (p : Place) (n : ℕ) (x : List ℕ) (q : Place) → Was p n → Alive p x q → (k : ℕ) × Was q k × GetsTo m n x k
  to_nodes p n x q r ((ks, walk, waits, bytes), end) =
      let y = walk_ahead placed left Was was_alike ks p q n walk end r in
      (y.1, y.3, (y.0, y.2, was_alike.waits q y.1 y.3 waits, sym (ap bytes_of (paired_code placed left Was ks y.0 y.4)) ∙ bytes))

  to_places : (p : Place) (n : ℕ) (x : List ℕ) (k : ℕ) → Was p n → GetsTo m n x k → (q : Place) × Was q k × Alive p x q
  to_places p n x k r (js, walk, waits, bytes) =
      let y = walk_back placed left Was was_alike js p n k walk r in
      (y.1, y.3, ((y.0, y.2, was_alike.waits_back y.1 k y.3 waits, ap bytes_of (paired_code placed left Was y.0 js y.4) ∙ bytes), kept_ends y.1 k y.3))

  lead_alike : LeadAlike (λ p x q. Alive p x q) (λ n x k. Leads m n x k) (λ p n. Was p n)
  lead_alike = record { one = was_alike.one; one_back = was_alike.one_back; ahead = to_nodes; back = to_places }

  shapes : SameShapes P root m (λ p n. Was p n)
  shapes = shaped P root kept.whole m kept.of_places kept.trimmed

  abbrev IsPlaceState : Shape Place → Type 0
  IsPlaceState s = IsState placed (start_of P root) s

  state_to_nodes : (s : Shape Place) → IsPlaceState s → (u : Shape ℕ) × SameShape (λ p n. Was p n) s u × IsNodeState m u
  state_to_nodes s (w, h) = let u = shapes.shape_of_nodes w s h in (u.0, u.1, (w, u.2))

  state_to_places : (u : Shape ℕ) → IsNodeState m u → (s : Shape Place) × SameShape (λ n p. Was p n) u s × IsPlaceState s
  state_to_places u (w, h) = let s = shapes.shape_of_places w u h in (s.0, turned_shape (λ n p. Was p n) u s.0 s.1, (w, s.2))

  pub pairs_to_nodes : (most : ℕ) → HasTooManyPairs P root most → SomeAsksMore m most
  pairs_to_nodes most h = test_with_order m most (test_on (λ p x q. Alive p x q) (λ n x k. Leads m n x k) (λ p n. Was p n) lead_alike (λ s. IsPlaceState s) (λ u. IsNodeState m u) state_to_nodes most h)

  pub pairs_to_places : (most : ℕ) → SomeAsksMore m most → HasTooManyPairs P root most
  pairs_to_places most h =
      test_on (λ n x k. Leads m n x k) (λ p x q. Alive p x q) (λ n p. Was p n)
      (turned_lead (λ p x q. Alive p x q) (λ n x k. Leads m n x k) (λ p n. Was p n) lead_alike)
      (λ u. IsNodeState m u) (λ s. IsPlaceState s) state_to_places most (test_without_order m most h)

pub machines_ask_as_stage : MachinesAskAsTheirStage
machines_ask_as_stage P root m most kept = record {
  more = (pairs_to_nodes P root m kept most, pairs_to_places P root m kept most);
  fits = λ each h. asks_one m most each (pairs_to_nodes P root m kept most h);
}

pub machines_ask : MachinesAskAlike
machines_ask P root m m' most kept kept' asks = pairs_to_nodes P root m' kept' most (pairs_to_places P root m kept most asks)
