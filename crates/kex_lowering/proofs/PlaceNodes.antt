-- A stage's places and the nodes of its machine go alike, number by number.
use Rattle.std.proofs.Common.{◌≡◌, ℕ, sym, ◌∙◌}
use Rattle.kex_code.specs.Codes.{HasNumber}
use Rattle.kex_model.specs.Programs.{Grammar}
use Rattle.kex_model.specs.Moves.{Move}
use Rattle.kex_model.specs.Places.{Place, moves}
use Rattle.kex_model.specs.Alike.{Alike, Goes, accepts, reads_on, chooses, forces, goes_on}
use Rattle.kex_model.proofs.Tables.{some_same}
use Rattle.kex_model.proofs.Likeness.{alike_of}
use Rattle.kex_machine.specs.Nodes.{Graph, node_moves}
use Rattle.kex_desugar.specs.Machines.{IsMachineOf}

goes_back : {S T : Type 0} (R : S → T → Type 0) {m : Move S} {n : Move T} → Goes R m n → Goes (λ t s. R s t) n m
goes_back R accepts = accepts
goes_back R (reads_on r) = reads_on r
goes_back R (chooses r r') = chooses r r'
goes_back R (forces r) = forces r
goes_back R (goes_on r) = goes_on r

module _ (P : Grammar) (root : ℕ) (m : Graph) (is : IsMachineOf P root m) where
  abbrev f : Place → Move Place
  f p = moves P p

  abbrev g : ℕ → Move ℕ
  g n = node_moves m.nodes n

  abbrev pub Numbered : Place → ℕ → Type 0
  Numbered p i = HasNumber is.places p i

  one_place : (p q : Place) (i : ℕ) → Numbered p i → Numbered q i → p ≡ q
  one_place p q i h k = some_same p q (sym h ∙ k)

  pub alike : Alike f g Numbered
  alike = alike_of Numbered f g (λ p i r. is.goes p i r) (λ p i j h k. is.once p i j h k) one_place

  pub alike_back : Alike g f (λ i p. Numbered p i)
  alike_back = alike_of (λ i p. Numbered p i) g f (λ i p r. goes_back Numbered (is.goes p i r)) (λ i p q h k. one_place p q i h k) (λ i j p h k. is.once p i j h k)
