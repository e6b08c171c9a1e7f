-- Plans that all tell the same.
use Rattle.std.proofs.Common.{◌≡◌, List, [], ◌∷◌, ◌++◌, inl, inr, map, refl, ap₂, subst}
use Rattle.kex_code.specs.Codes.{IsAmong}
use Rattle.kex_plan.specs.declared.plan.Telling.{Telling}
use Rattle.kex_plan.specs.Plans.{AllTell, Planned, machine_of, teller, teller_of, tellers}

-- one plan more
pub tell_more : (k : Telling) (plans : List Planned) (plan : Planned) → AllTell k plans → plan.telling ≡ k → AllTell k (plans ++ plan ∷ [])
tell_more k plans plan each tells p i = by plans each i
  where
    by : (ps : List Planned) → AllTell k ps → IsAmong (ps ++ plan ∷ []) p → p.telling ≡ k
    by [] h (inl e) = subst (λ z. z.telling ≡ k) e tells
    by [] h (inr i) = absurd i
    by (q ∷ ps) h (inl e) = h p (inl e)
    by (q ∷ ps) h (inr i) = by ps (λ r j. h r (inr j)) i

-- by what the stages of such plans work
pub tellers_of : (k : Telling) (plans : List Planned) → AllTell k plans → map teller_of plans ≡ tellers k (map machine_of plans)
tellers_of k [] h = refl
tellers_of k (p ∷ ps) h =
    ap₂ (λ x xs. teller x p.machine ∷ xs) (h p (inl refl)) (tellers_of k ps (λ q i. h q (inr i)))
