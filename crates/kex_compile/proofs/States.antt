-- The states of a stage in two alike programs: as many.
use Rattle.std.proofs.Common.{◌≡◌, ℕ, List, [], ◌∷◌}
use Rattle.kex_code.specs.Codes.{IsAmong}
use Rattle.kex_model.specs.Programs.{Grammar}
use Rattle.kex_model.specs.Labelled.{Shape}
use Rattle.kex_model.specs.Places.{Place, moves, start_of}
use Rattle.kex_model.specs.Survivors.{HasShape}
use Rattle.kex_model.specs.States.{HasMoreStates, HasStates}
use Rattle.kex_lowering.specs.Shapes.{SameShape}
use Rattle.kex_lowering.proofs.SameShapes.{shape_on, turned_shape}
use Rattle.kex_lowering.proofs.States.{more_states_on, states_on}
use Rattle.kex_compile.specs.declared.limits.Limits.{Limits}
use Rattle.kex_compile.specs.Stages.{AllRun, HasTooManyStates, HaveStatesInAll, IsFirst, roots_of}
use Rattle.kex_compile.proofs.Alike.{Alike}
use Rattle.kex_compile.proofs.PlacePairs.{SamePlace, Partners, one_partner, one_partner_back, place_back, place_forth}
use Rattle.kex_compile.proofs.StagePairs.{Known, Pairwise, Both, first_among, first_of, pair_on, pairs_within, roots, same_first}
use Rattle.kex_compile.proofs.SurvivorPairs.{alive_on, alive_there, reach_on, survives_back, survives_on}

module _ (P Q : Grammar) (a : Alike P Q) (known : Known P) (root root' : ℕ) (same : Partners P Q a known root root') where
  abbrev pub Here : Place → Place → Type 0
  Here = SamePlace (Partners P Q a known)

  pub one : (p q q' : Place) → Here p q → Here p q' → q ≡ q'
  one p q q' h k = place_forth (Partners P Q a known) (one_partner P Q a known root root' same) h k

  pub one_back : (p p' q : Place) → Here p q → Here p' q → p ≡ p'
  one_back p p' q h k = place_back (Partners P Q a known) (one_partner_back P Q a known root root' same) h k

  pub shape_ahead : (w : List ℕ) (s : Shape Place) → HasShape (moves P) (start_of P root) w s → (u : Shape Place) × SameShape Here s u × HasShape (moves Q) (start_of Q root') w u
  shape_ahead w s h = shape_on (moves P) (moves Q) (start_of P root) (start_of Q root') w Here
      (λ p c k. survives_on P Q a known root root' same w p c k)
      (λ q k. alive_there P Q a known root root' same w q k)
      one s h

  shape_behind : (w : List ℕ) (u : Shape Place) → HasShape (moves Q) (start_of Q root') w u → (s : Shape Place) × SameShape Here s u × HasShape (moves P) (start_of P root) w s
  shape_behind w u h =
      let x = shape_on (moves Q) (moves P) (start_of Q root') (start_of P root) w (λ q p. Here p q)
      (λ q c k. survives_back P Q a known root root' same w q c k)
      (λ p k. let x = reach_on P Q a known root root' same w p k.0 k.1 in (x.0, x.1, (k.0, x.2, alive_on P Q a known root root' same p x.0 x.1 k.2)))
      (λ q p p' i j. one_back p p' q i j)
      u h in
      (x.0, turned_shape Here x.0 u x.1, x.2)

  pub more_states : (n : ℕ) → HasMoreStates (moves P) (start_of P root) n → HasMoreStates (moves Q) (start_of Q root') n
  more_states n h = more_states_on (moves P) (moves Q) (start_of P root) (start_of Q root') Here shape_ahead one_back n h

  pub as_many_states : (n : ℕ) → HasStates (moves P) (start_of P root) n → HasStates (moves Q) (start_of Q root') n
  as_many_states n h = states_on (moves P) (moves Q) (start_of P root) (start_of Q root') Here shape_ahead one_back shape_behind one n h

module _ (P Q : Grammar) (limits : Limits) (a : Alike P Q) (b : Alike Q P) (known : Known P) (known' : Known Q) (run : AllRun P) (run' : AllRun Q) where
  abbrev Roots : ℕ → ℕ → Type 0
  Roots = Both P Q a b known known'

  -- roots of stages
  abbrev Staged : ℕ → ℕ → Type 0
  Staged r q = Roots r q × IsAmong (roots_of P) r × IsAmong (roots_of Q) q

  states_on_stage : (r q : ℕ) → Roots r q → IsAmong (roots_of P) r → IsAmong (roots_of Q) q → HasTooManyStates limits P r → HasTooManyStates limits Q q
  states_on_stage r q x i j h = more_states P Q a known r q x.0 limits.states h

  -- a stage with too many states has a partner with too many
  pub states_first_on : (n : ℕ) → IsFirst (HasTooManyStates limits P) (roots_of P) n → (q : ℕ) × IsAmong (roots_of Q) q × HasTooManyStates limits Q q
  states_first_on n h =
      let f = first_among (HasTooManyStates limits P) (roots_of P) n h in
      let p = pair_on Roots (roots_of P) (roots_of Q) (roots P Q a b known known') f.0 f.1 in
      (p.0, p.1, states_on_stage f.0 p.0 p.2 f.1 p.1 f.2)

  pub states_there : (q : ℕ) → IsAmong (roots_of Q) q → HasTooManyStates limits Q q → (r : ℕ) × IsAmong (roots_of P) r × HasTooManyStates limits P r
  states_there q i h =
      let x = pair_on (Both Q P b a known' known) (roots_of Q) (roots_of P) (roots Q P b a known' known) q i in
      (x.0, x.1, more_states Q P b known' q x.0 x.2.0 limits.states h)

  back_on_stage : (r q : ℕ) → Staged r q → HasTooManyStates limits Q q → HasTooManyStates limits P r
  back_on_stage r q x h = more_states Q P b known' q r x.0.1 limits.states h

  all_staged : Pairwise Staged (roots_of P) (roots_of Q)
  all_staged = pairs_within Roots (roots_of P) (roots_of Q) (roots_of P) (roots_of Q) (λ r i. i) (λ q i. i) (roots P Q a b known known')

  -- the first stage with too many states has one number
  pub one_states : (n m : ℕ) → IsFirst (HasTooManyStates limits P) (roots_of P) n → IsFirst (HasTooManyStates limits Q) (roots_of Q) m → n ≡ m
  one_states n m h k =
      same_first Staged (HasTooManyStates limits P) (HasTooManyStates limits Q) (λ r q x t. states_on_stage r q x.0 x.1 x.2 t) back_on_stage (roots_of P) (roots_of Q) n m all_staged
      (first_of (HasTooManyStates limits P) (roots_of P) n h) (first_of (HasTooManyStates limits Q) (roots_of Q) m k)

  -- the stages have as many states in all
  states_in_all : (rs qs : List ℕ) (total : ℕ) → Pairwise Staged rs qs → HaveStatesInAll P rs total → HaveStatesInAll Q qs total
  unfolding Pairwise
  states_in_all [] [] total p h = h
  states_in_all [] (q ∷ qs) total p h = absurd p
  states_in_all (r ∷ rs) [] total p h = absurd p
  states_in_all (r ∷ rs) (q ∷ qs) total p (own, rest, x, y, e) =
      (own, rest, as_many_states P Q a known r q p.0.0.0 own x, states_in_all rs qs rest p.1 y, e)

  pub all_states : (total : ℕ) → HaveStatesInAll P (roots_of P) total → HaveStatesInAll Q (roots_of Q) total
  all_states total h = states_in_all (roots_of P) (roots_of Q) total all_staged h
