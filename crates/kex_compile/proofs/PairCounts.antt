-- The tests of a stage's leaves have as many pairs in one alike program as in the other.
use Rattle.std.proofs.Common.{◌≡◌, ℕ, List, sym, ap, ◌∙◌}
use Rattle.kex_code.specs.Codes.{IsAmong, bytes_of}
use Rattle.kex_model.specs.Programs.{Grammar}
use Rattle.kex_model.specs.Labelled.{Shape}
use Rattle.kex_model.specs.Places.{Place, moves, start_of}
use Rattle.kex_model.specs.States.{IsState}
use Rattle.kex_lowering.specs.Shapes.{SameShape}
use Rattle.kex_alike.specs.StageTests.{LeadsAlive, HasTooManyPairs}
use Rattle.kex_alike.proofs.AlikeTests.{LeadAlike, test_on}
use Rattle.kex_compile.specs.Stages.{IsFirst, roots_of}
use Rattle.kex_compile.proofs.Alike.{Alike}
use Rattle.kex_compile.proofs.PlacePairs.{Partners, moves_on, walk_on, walk_back, waits_on, waits_back}
use Rattle.kex_compile.proofs.StagePairs.{Known, Both, first_among, first_of, pair_on, roots, same_first}
use Rattle.kex_compile.proofs.States.{Here, one, one_back, shape_ahead}
use Rattle.kex_compile.proofs.SurvivorPairs.{alive_on, alive_back}

module _ (P Q : Grammar) (a : Alike P Q) (known : Known P) (root root' : ℕ) (same : Partners P Q a known root root') where
  abbrev There : Place → Place → Type 0
  There p q = Here P Q a known root root' same p q

  abbrev From : Place → List ℕ → Place → Type 0
  From p x q = LeadsAlive (moves P) p x q

  abbrev To : Place → List ℕ → Place → Type 0
  To p x q = LeadsAlive (moves Q) p x q

  leads_on : (p p' : Place) (x : List ℕ) (q : Place) → There p p' → From p x q → (q' : Place) × There q q' × To p' x q'
  leads_on p p' x q s ((ks, walk, waits, bytes), end) =
      let y = walk_on P Q a known ks p q p' walk s in
      (y.1, y.3, ((y.0, y.2, waits_on (Partners P Q a known) (moves_on P Q a known y.3) waits, ap bytes_of (sym y.4) ∙ bytes), alive_on P Q a known root root' same q y.1 y.3 end))

  leads_back : (p p' : Place) (x : List ℕ) (q' : Place) → There p p' → To p' x q' → (q : Place) × There q q' × From p x q
  leads_back p p' x q' s ((js, walk, waits, bytes), end) =
      let y = walk_back P Q a known js p p' q' walk s in
      (y.1, y.3, ((y.0, y.2, waits_back (Partners P Q a known) (moves_on P Q a known y.3) waits, ap bytes_of y.4 ∙ bytes), alive_back P Q a known root root' same y.1 q' y.3 end))

  lead_alike : LeadAlike (λ p x q. From p x q) (λ p x q. To p x q) (λ p q. There p q)
  lead_alike = record { one = one P Q a known root root' same; one_back = one_back P Q a known root root' same; ahead = leads_on; back = leads_back }

  state_on : (s : Shape Place) → IsState (moves P) (start_of P root) s → (u : Shape Place) × SameShape (λ p q. There p q) s u × IsState (moves Q) (start_of Q root') u
  state_on s (w, h) = let u = shape_ahead P Q a known root root' same w s h in (u.0, u.1, (w, u.2))

  pub more_pairs : (most : ℕ) → HasTooManyPairs P root most → HasTooManyPairs Q root' most
  more_pairs most h = test_on (λ p x q. From p x q) (λ p x q. To p x q) (λ p q. There p q) lead_alike (λ s. IsState (moves P) (start_of P root) s) (λ u. IsState (moves Q) (start_of Q root') u) state_on most h

module _ (P Q : Grammar) (a : Alike P Q) (b : Alike Q P) (known : Known P) (known' : Known Q) (most : ℕ) where
  abbrev Paired : ℕ → ℕ → Type 0
  Paired r q = Both P Q a b known known' r q

  abbrev Many : ℕ → Type 0
  Many r = HasTooManyPairs P r most

  abbrev ManyThere : ℕ → Type 0
  ManyThere q = HasTooManyPairs Q q most

  -- a stage with too many pairs has a partner with too many
  pub pairs_first_on : (n : ℕ) → IsFirst (λ r. Many r) (roots_of P) n → (q : ℕ) × IsAmong (roots_of Q) q × ManyThere q
  pairs_first_on n h =
      let f = first_among (λ r. Many r) (roots_of P) n h in
      let p = pair_on (λ r q. Paired r q) (roots_of P) (roots_of Q) (roots P Q a b known known') f.0 f.1 in
      (p.0, p.1, more_pairs P Q a known f.0 p.0 p.2.0 most f.2)

  -- and so has the partner of one there
  pub pairs_there : (q : ℕ) → IsAmong (roots_of Q) q → ManyThere q → (r : ℕ) × IsAmong (roots_of P) r × Many r
  pairs_there q i h =
      let p = pair_on (λ x y. Both Q P b a known' known x y) (roots_of Q) (roots_of P) (roots Q P b a known' known) q i in
      (p.0, p.1, more_pairs Q P b known' q p.0 p.2.0 most h)

  -- the first stage with too many pairs has one number
  pub one_pairs : (n m : ℕ) → IsFirst (λ r. Many r) (roots_of P) n → IsFirst (λ q. ManyThere q) (roots_of Q) m → n ≡ m
  one_pairs n m h k =
      same_first (λ r q. Paired r q) (λ r. Many r) (λ q. ManyThere q) (λ r q x t. more_pairs P Q a known r q x.0 most t) (λ r q x t. more_pairs Q P b known' q r x.1 most t) (roots_of P) (roots_of Q) n m (roots P Q a b known known')
      (first_of (λ r. Many r) (roots_of P) n h) (first_of (λ q. ManyThere q) (roots_of Q) m k)
