use Rattle.std.proofs.Common.{◌++◌, ◌∷◌, [], ℕ, List, get_or, inl, inr, ⊎_elim, subst, sym, take}
use Rattle.std.proofs.lemmas.List.{take_all, take_more}
use Rattle.kex_machine.specs.Nodes.{Graph}
use Rattle.kex_cover.specs.Searches.{AreWaiting}
use Rattle.kex_part_tests.proofs.waiting.all_wait.Goals as goal

wait-both : (g : Graph) (xs ys : List ℕ) → AreWaiting g xs → AreWaiting g ys → AreWaiting g (xs ++ ys)
wait-both g [] ys a b = b
wait-both g (x ∷ xs) ys a b = λ p i. ⊎_elim (λ e. a p (inl e)) (λ j. wait-both g xs ys (λ q k. a q (inr k)) b p j) i

pub places-preserved : goal.places-preserved
places-preserved c =
    let xs = c.args.places.now in
    let i = c.places.place-index in
    subst (AreWaiting c.args.machine.now) (sym (take_more xs i 0 c.places-test.true))
    (wait-both c.args.machine.now (take i xs) (get_or xs i 0 ∷ []) c.places.invariant (c.is_waiting.ensures c.if-not-is_waiting.false))

pub returns : goal.returns
returns c = λ yes. subst (AreWaiting c.args.machine.now) (take_all c.places.place-index c.args.places.now c.places-test.false) c.places.invariant
