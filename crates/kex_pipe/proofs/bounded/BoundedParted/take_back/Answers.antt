use Rattle.std.proofs.Common.{◌≡◌, length, sym, subst}
use Rattle.kex_pipe.proofs.StandingOn.{stands-on}
use Rattle.kex_pipe.proofs.bounded.BoundedParted.take_back.Goals as goal

pub returns-clause-stands : goal.returns-clause-stands
returns-clause-stands g c = λ h s.
    let w = g.W.Worker in
    let old = c.args.self.now in
    let new = c.take_back.new.self in (
      stands-on (λ u e a. w.gives (w.machine old.worker) old.limit u e a) (λ u e a. w.gives (w.machine new) old.limit u e a) (λ u t. w.follows old.worker u t × (old.count ≡ length u)) (λ u t. w.follows new u t × (old.count ≡ length u)) old.stop old.over h
          (λ u e a k. subst (λ m. w.gives m old.limit u e a) (sym c.take_back.ensures.same) k)
          (λ u t k. (c.take_back.ensures.follows u t k.0, k.1)) s.0,
      s.1,
    )
