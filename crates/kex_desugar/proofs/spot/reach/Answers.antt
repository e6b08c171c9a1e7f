use Rattle.std.proofs.Common.{ℕ, ◌∷◌, ◌++◌, subst, sym}
use Rattle.std.proofs.lemmas.Result.{IfErr-weaker}
use Rattle.kex_model.specs.Programs.{Grammar}
use Rattle.kex_model.specs.Places.{Place}
use Rattle.kex_desugar.specs.Plans.{frames}
use Rattle.kex_desugar.specs.Spots.{IsAt, IsOnPlace, IsReal, Real}
use Rattle.kex_desugar.specs.declared.spot.Spot.TheVariants.{On}
use Rattle.kex_desugar.proofs.SpotWays.{err_as, if_ok_two, lower_real, on_ok, put_on_later, upper_real}
use Rattle.kex_desugar.proofs.spot.reach.Goals as goal
use Rattle.kex_desugar.proofs.spot.reach.Goals.{In_ok-under-in-Both}

pub returns-in-Under-clause-number : goal.returns-in-Under-clause-number
returns-in-Under-clause-number c = if_ok_two _ _ _ c.intern.result
    (λ i number grown q h. subst (λ w. IsAt c.intern.new.spots.keys (frames w ++ q) i) (sym c.in-Under.is) (put_on_later c.args.spots.now.keys c.intern.new.spots.keys grown c.in-Under.frame q c.args.rest i h number))
    c.intern.ensures.number c.intern.ensures.grown

-- the lower frame has its number
lower : (c : In_ok-under-in-Both) (q : Place) → IsAt c.args.spots.now.keys q c.args.rest → IsAt c.intern-in-Both.new.spots.keys (c.in-Both.lower ∷ q) c.in_ok-under-in-Both.under
lower c q h = put_on_later c.args.spots.now.keys c.intern-in-Both.new.spots.keys c.in_ok-under-in-Both.ensures.grown c.in-Both.lower q c.args.rest c.in_ok-under-in-Both.under h c.in_ok-under-in-Both.ensures.number

pub returns-in_ok-under-in-Both-clause-number : goal.returns-in_ok-under-in-Both-clause-number
returns-in_ok-under-in-Both-clause-number c = if_ok_two _ _ _ c.intern-in-Both-2.result
    (λ i number grown q h. subst (λ w. IsAt c.intern-in-Both-2.new.spots.keys (frames w ++ q) i) (sym c.in-Both.is) (put_on_later c.intern-in-Both.new.spots.keys c.intern-in-Both-2.new.spots.keys grown c.in-Both.upper (c.in-Both.lower ∷ q) c.in_ok-under-in-Both.under i (lower (goal.at.returns-in_ok-under-in-Both-clause-number c).In_ok-under-in-Both q h) number))
    c.intern-in-Both-2.ensures.number c.intern-in-Both-2.ensures.grown

module _ (c : In_ok-under-in-Both) (P : Grammar) (root : ℕ) (place : IsOnPlace P root c.args.spots.now.keys c.args.way c.args.rest) where
  then_real : Real P root c.args.spots.now.keys → Real P root c.intern-in-Both.new.spots.keys
  then_real real = c.in_ok-under-in-Both.ensures.real P root real (lower_real P root c.args.spots.now.keys c.args.way c.in-Both.upper c.in-Both.lower c.args.rest c.in-Both.is place)

  real_above : IsReal P root c.intern-in-Both.new.spots.keys (On c.in-Both.upper c.in_ok-under-in-Both.under)
  real_above = upper_real P root c.args.spots.now.keys c.intern-in-Both.new.spots.keys c.in_ok-under-in-Both.ensures.grown c.args.way c.in-Both.upper c.in-Both.lower c.args.rest c.in_ok-under-in-Both.under c.in-Both.is c.in_ok-under-in-Both.ensures.number place

pub returns-in_err-under-in-Both-clause-refused : goal.returns-in_err-under-in-Both-clause-refused
returns-in_err-under-in-Both-clause-refused c =
    err_as _ c.from_residual.result c.in_err-under-in-Both.field-0.0 c.from_residual.ensures.1 (λ u P root real place. c.in_err-under-in-Both.ensures.refused u P root real (lower_real P root c.args.spots.now.keys c.args.way c.in-Both.upper c.in-Both.lower c.args.rest c.in-Both.is place))

pub returns-in_ok-under-in-Both-clause-real : goal.returns-in_ok-under-in-Both-clause-real
returns-in_ok-under-in-Both-clause-real c =
    let at = (goal.at.returns-in_ok-under-in-Both-clause-real c).In_ok-under-in-Both in
    on_ok _ _ c.intern-in-Both-2.result (λ h P root real place. h P root (then_real at P root place real) (real_above at P root place)) c.intern-in-Both-2.ensures.real

pub returns-in_ok-under-in-Both-clause-refused : goal.returns-in_ok-under-in-Both-clause-refused
returns-in_ok-under-in-Both-clause-refused c =
    let at = (goal.at.returns-in_ok-under-in-Both-clause-refused c).In_ok-under-in-Both in
    IfErr-weaker c.intern-in-Both-2.result _ _ (λ y h u P root real place. h u P root (then_real at P root place real) (real_above at P root place)) c.intern-in-Both-2.ensures.refused
