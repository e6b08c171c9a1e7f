-- The worked example of places: three that steps and rests close, and a rest that no walk reaches.
use Rattle.std.proofs.Common.{List, [], ◌∷◌, inl, inr, None, refl, subst}
use Rattle.kex_code.specs.Codes.{IsAmong}
use Rattle.kex_model.specs.declared.frame.Frame.TheVariants.{Pending}
use Rattle.kex_model.specs.Moves.{Move, accept, read, choose, forced, go, Step, Allows, reads, goes_left, goes_right, goes_forced, goes, target_of, Walk}
use Rattle.kex_model.specs.Places.{Place, IsPlace, at_start, by_step, by_rest, moves, start_of}
use Rattle.kex_model.specs.Worked.{stars, star_places, endless, behind_endless, PlacesAreClosed}
use Rattle.kex_model.proofs.AllPaths.{differ}

-- where a step leads, by the move that allows it
abbrev leads : Move Place → List Place
leads accept = []
leads (read set t) = t ∷ []
leads (choose l r) = l ∷ r ∷ []
leads (forced x t) = t ∷ []
leads (go e t) = t ∷ []

led : (m : Move Place) (k : Step Place) → Allows m k → IsAmong (leads m) (target_of k)
led _ _ (reads h) = inl refl
led _ _ goes_left = inl refl
led _ _ goes_right = inr (inl refl)
led _ _ goes_forced = inl refl
led _ _ goes = inl refl

-- all that a move leads to are among these
abbrev AllAmong : List Place → List Place → Type 0
AllAmong places [] = Unit {0}
AllAmong places (t ∷ ts) = IsAmong places t × AllAmong places ts

among : (places ts : List Place) (t : Place) → AllAmong places ts → IsAmong ts t → IsAmong places t
among places [] u h x = elim x [ ]
among places (t ∷ ts) u h (inl e) = subst (IsAmong places) e h.0
among places (t ∷ ts) u h (inr m) = among places ts u h.1 m

-- a list of places is closed when each move from one of them leads to some of them
abbrev IsClosed : (Place → Move Place) → List Place → List Place → Type 0
IsClosed ms places [] = Unit {0}
IsClosed ms places (p ∷ ps) = AllAmong places (leads (ms p)) × IsClosed ms places ps

closed_at : (ms : Place → Move Place) (places ps : List Place) (p : Place) → IsClosed ms places ps → IsAmong ps p → AllAmong places (leads (ms p))
closed_at ms places [] q h x = elim x [ ]
closed_at ms places (p ∷ ps) q h (inl e) = subst (λ z. AllAmong places (leads (ms z))) e h.0
closed_at ms places (p ∷ ps) q h (inr m) = closed_at ms places ps q h.1 m

step_on : (ms : Place → Move Place) (places : List Place) (p : Place) (k : Step Place) → IsClosed ms places places → IsAmong places p → Allows (ms p) k → IsAmong places (target_of k)
step_on ms places p k h m a = among places (leads (ms p)) (target_of k) (closed_at ms places places p h m) (led (ms p) k a)

walk_on : (ms : Place → Move Place) (places : List Place) (p q : Place) (ks : List (Step Place)) → IsClosed ms places places → IsAmong places p → Walk ms p ks q → IsAmong places q
walk_on ms places p q [] h m e = subst (IsAmong places) e m
walk_on ms places p q (k ∷ ks) h m w = walk_on ms places (target_of k) q ks h (step_on ms places p k h m w.0) w.1

-- the three places of a star

abbrev rest_of : Place → Place
rest_of [] = []
rest_of (f ∷ p) = p

star_closed : IsClosed (moves stars) star_places star_places
star_closed = ((inr (inl refl), (inr (inr (inl refl)), tt)), ((inl refl, tt), (tt, tt)))

star_rest : (q : Place) → IsAmong star_places q → IsAmong star_places (rest_of q)
star_rest q (inl e) = subst (λ z. IsAmong star_places (rest_of z)) e (inr (inr (inl refl)))
star_rest q (inr (inl e)) = subst (λ z. IsAmong star_places (rest_of z)) e (inl refl)
star_rest q (inr (inr (inl e))) = subst (λ z. IsAmong star_places (rest_of z)) e (inr (inr (inl refl)))
star_rest q (inr (inr (inr x))) = elim x [ ]

star_place : (p : Place) → IsPlace stars 1 p → IsAmong star_places p
star_place _ at_start = inl refl
star_place _ (by_step {p = p} k h a) = step_on (moves stars) star_places p k star_closed (star_place p h) a
star_place _ (by_rest {f = f} {p = p} h) = star_rest (f ∷ p) (star_place (f ∷ p) h)

star_places_are : (p : Place) → IsAmong star_places p → IsPlace stars 1 p
star_places_are p (inl e) = subst (IsPlace stars 1) e at_start
star_places_are p (inr (inl e)) = subst (IsPlace stars 1) e (by_step _ at_start goes_left)
star_places_are p (inr (inr (inl e))) = subst (IsPlace stars 1) e (by_step _ at_start goes_right)
star_places_are p (inr (inr (inr x))) = elim x [ ]

-- what steps reach where a call never ends

abbrev endless_places : List Place
endless_places =
    (Pending 5 0 None ∷ [])
    ∷ (Pending 3 0 None ∷ behind_endless)
    ∷ (Pending 2 0 None ∷ behind_endless)
    ∷ (Pending 0 0 None ∷ Pending 1 0 None ∷ behind_endless)
    ∷ (Pending 1 0 None ∷ behind_endless)
    ∷ []

endless_closed : IsClosed (moves endless) endless_places endless_places
endless_closed = (
  (inr (inl refl), tt),
  (
    (inr (inr (inl refl)), tt),
    (
      (inr (inr (inr (inl refl))), tt),
      (
        (inr (inr (inr (inr (inl refl)))), tt),
        ((inr (inr (inl refl)), tt), tt),
      ),
    ),
  ),
)

unreached : IsAmong endless_places behind_endless → ⊥
unreached (inl e) = differ e refl
unreached (inr (inl e)) = differ e refl
unreached (inr (inr (inl e))) = differ e refl
unreached (inr (inr (inr (inl e)))) = differ e refl
unreached (inr (inr (inr (inr (inl e))))) = differ e refl
unreached (inr (inr (inr (inr (inr x))))) = elim x [ ]

pub places_are_closed : PlacesAreClosed
places_are_closed = record {
  three = star_place;
  each = star_places_are;
  rest = by_rest (by_step _ at_start goes);
  unreached = λ ks w. unreached (walk_on (moves endless) endless_places (start_of endless 5) behind_endless ks endless_closed (inl refl) w);
}
