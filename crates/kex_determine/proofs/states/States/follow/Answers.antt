use Rattle.std.proofs.Common.{Some, sym, subst}
use Rattle.kex_determine.specs.Numbering.{IsMetIf, IsFollowed}
use Rattle.kex_determine.proofs.Targets.{followed}
use Rattle.kex_determine.proofs.states.States.follow.Goals as goal

pub returns-in_ok-target-in-Some-clause-ok : goal.returns-in_ok-target-in-Some-clause-ok
returns-in_ok-target-in-Some-clause-ok c = λ g xs n met.
    let m = subst (λ z. IsMetIf g z) c.in-Some.is met in
    let w = c.in_ok-target-in-Some.ensures.ok g xs m.0 n m.1 in
    let keys = c.enter.new.self.keys.keys in
    let trees = c.enter.new.self.trees.items in
    let target = c.in_ok-target-in-Some.target in
    let met_now = followed g keys trees xs w.0 c.in-Some.tree c.in-Some.update m.0 target m.1 w.1 in
    (w.0, subst (λ z. IsFollowed g keys trees xs z w.0 (Some (record { target = target; update = c.in-Some.update }))) (sym c.in-Some.is) met_now)
