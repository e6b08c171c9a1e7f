-- From a spot to the node that goes as its place.
use Rattle.std.proofs.Common.{◌≡◌, ℕ, List, [], ◌∷◌, ◌++◌, Some, Result, Ok, Err, IfOk, IfErr, OnOk, IsErrAnd, refl, sym, ap, subst, ◌∙◌, append_assoc}
use Rattle.std.specs.Prelude.{slice_get}
use Rattle.kex_code.specs.Codes.{Begins}
use Rattle.kex_model.specs.Programs.{Grammar}
use Rattle.kex_model.specs.declared.frame.Frame.{Frame}
use Rattle.kex_model.specs.Moves.{Step, Allows, target_of}
use Rattle.kex_model.specs.Places.{Place, IsPlace, by_step, by_rest, moves}
use Rattle.kex_model.specs.Alike.{Goes}
use Rattle.kex_machine.specs.Nodes.{move_of}
use Rattle.kex_machine.specs.declared.MNode.{MNode}
use Rattle.kex_desugar.specs.declared.spot.Spot.{Spot}
use Rattle.kex_desugar.specs.declared.spot.Spot.TheVariants.{On}
use Rattle.kex_desugar.specs.declared.plan.Way.{Way}
use Rattle.kex_desugar.specs.declared.plan.Way.TheVariants.{Both}
use Rattle.kex_desugar.specs.declared.plan.NodePlan.{NodePlan}
use Rattle.kex_desugar.specs.Plans.{frames, plan_move}
use Rattle.kex_desugar.specs.Spots.{IsAt, IsReal, IsOnPlace, NodeOf}
use Rattle.kex_desugar.proofs.PlaceNumbers.{on_same, not_empty, at_more, one_at}

pub if_ok_two : {A E : Type 0} (P Q R : A → Type 0) (r : Result A E) → ((v : A) → P v → Q v → R v) → IfOk r P → IfOk r Q → IfOk r R
if_ok_two P Q R (Ok v) f h k = f v h k
if_ok_two P Q R (Err e) f h k = h

-- what a `?` hands on
pub err_as : {A E : Type 0} (P : E → Type 0) (r : Result A E) (x : E) → IsErrAnd r (λ y. y ≡ x) → P x → IfErr r P
err_as P (Ok a) x h k = tt
err_as P (Err y) x h k = subst P (sym h) k

pub on_ok : {A E : Type 0} (P Q : Type 0) (r : Result A E) → (P → Q) → OnOk r P → OnOk r Q
on_ok P Q (Ok a) f h = f h
on_ok P Q (Err e) f h = tt

pub begins_twice : {A : Type 0} (xs ys zs : List A) → Begins ys xs → Begins zs ys → Begins zs xs
begins_twice xs ys zs (m, e) (n, f) = (m ++ n, f ∙ ap (λ z. z ++ n) e ∙ append_assoc xs m n)

pub at_later : (xs ys : List Spot) → Begins ys xs → (q : Place) (r : ℕ) → IsAt xs q r → IsAt ys q r
at_later xs ys (more, e) q r h = subst (λ z. IsAt z q r) (sym e) (at_more xs more r q h)

-- a frame on a place
pub put_on : (ys : List Spot) (f : Frame) (q : Place) (r i : ℕ) → IsAt ys q r → slice_get ys i ≡ Some (On f r) → IsAt ys (f ∷ q) i
put_on ys f q r i (t, at, h) g = (On f r, g, (r, t, refl, at, h))

pub put_on_later : (xs ys : List Spot) → Begins ys xs → (f : Frame) (q : Place) (r i : ℕ) → IsAt xs q r → slice_get ys i ≡ Some (On f r) → IsAt ys (f ∷ q) i
put_on_later xs ys b f q r i h g = put_on ys f q r i (at_later xs ys b q r h) g

module _ (P : Grammar) (root : ℕ) where
  pub real_on : (xs : List Spot) (f : Frame) (q : Place) (r : ℕ) → IsAt xs q r → IsPlace P root (f ∷ q) → IsReal P root xs (On f r)
  real_on xs f q r (t, at, h) is = (f ∷ q, (r, t, refl, at, h), is)

  -- what is under a frame
  pub under : (xs : List Spot) (f : Frame) (r : ℕ) → IsReal P root xs (On f r) → (q : Place) × IsAt xs q r × IsPlace P root (f ∷ q)
  under xs f r ([], h, is) = absurd (not_empty f r (sym h))
  under xs f r (g ∷ q, (r', t, e, at, h), is) =
      let both : (g ≡ f) × (r' ≡ r) = on_same g f r' r (sym e) in
      (q, (t, ap (λ z. slice_get xs z) (sym both.1) ∙ at, h), subst (λ z. IsPlace P root (z ∷ q)) both.0 is)

  -- where a plan leads is a place
  pub on_place : (xs : List Spot) (f : Frame) (r : ℕ) (plan : NodePlan) (w : Way) → IsReal P root xs (On f r) → ((q : Place) → moves P (f ∷ q) ≡ plan_move plan q) → ((q : Place) → (k : Step Place) × Allows (plan_move plan q) k × (target_of k ≡ frames w ++ q)) → IsOnPlace P root xs w r
  on_place xs f r plan w real is step =
      let u = under xs f r real in
      let s = step u.0 in
      (u.0, u.1, subst (λ z. IsPlace P root z) s.2 (by_step s.0 u.2 (subst (λ m. Allows m s.0) (sym (is u.0)) s.1)))

  -- the frames of a way are put on a place one after another, the lower first
  pub lower_real : (xs : List Spot) (w : Way) (upper lower : Frame) (rest : ℕ) → w ≡ Both upper lower → IsOnPlace P root xs w rest → IsReal P root xs (On lower rest)
  lower_real xs w upper lower rest e (q, at, is) = real_on xs lower q rest at (by_rest (subst (λ z. IsPlace P root (frames z ++ q)) e is))

  pub upper_real : (xs ys : List Spot) → Begins ys xs → (w : Way) (upper lower : Frame) (rest under : ℕ) → w ≡ Both upper lower → slice_get ys under ≡ Some (On lower rest) → IsOnPlace P root xs w rest → IsReal P root ys (On upper under)
  upper_real xs ys b w upper lower rest under e g (q, at, is) = real_on ys upper (lower ∷ q) under (put_on_later xs ys b lower q rest under at g) (subst (λ z. IsPlace P root (frames z ++ q)) e is)

  pub on_place_later : (xs ys : List Spot) (w : Way) (r : ℕ) → Begins ys xs → IsOnPlace P root xs w r → IsOnPlace P root ys w r
  on_place_later xs ys w r b (q, at, is) = (q, at_later xs ys b q r at, is)

  -- the place under a frame had its number before
  pub had : (xs ys : List Spot) (f : Frame) (r : ℕ) → IsReal P root xs (On f r) → Begins ys xs → (q : Place) → IsAt ys q r → IsAt xs q r
  had xs ys f r real b q h =
      let u = under xs f r real in
      subst (λ z. IsAt xs z r) (one_at ys r u.0 q (at_later xs ys b u.0 r u.1) h) u.1

  pub node_by_plan : (ys : List Spot) (f : Frame) (r : ℕ) (plan : NodePlan) (m : MNode) → ((q : Place) → moves P (f ∷ q) ≡ plan_move plan q) → ((q : Place) → IsAt ys q r → Goes (IsAt ys) (plan_move plan q) (move_of (Some m))) → NodeOf P ys (On f r) m
  node_by_plan ys f r plan m is goes [] h = absurd (not_empty f r (sym h))
  node_by_plan ys f r plan m is goes (g ∷ q) (r', t, e, at, h) =
      let both : (f ≡ g) × (r ≡ r') = on_same f g r r' e in
      subst (λ z. Goes (IsAt ys) z (move_of (Some m))) (sym (is q) ∙ ap (λ z. moves P (z ∷ q)) both.0) (goes q (t, ap (λ z. slice_get ys z) both.1 ∙ at, h))
