use Rattle.std.proofs.Common.{sym, refl}
use Rattle.kex_model.specs.Moves.{nothing, goes}
use Rattle.kex_machine.specs.Nodes.{effect_of}
use Rattle.kex_action.proofs.walk.pass.Goals as goal

pub returns-in_ok-perform-in-Do-clause-some : goal.returns-in_ok-perform-in-Do-clause-some
returns-in_ok-perform-in-Do-clause-some c = record { effect = effect_of c.in-Do.effect; allowed = rw c.in-Do.is goes; did = sym (c.in_ok-perform-in-Do.ensures {u = tt}).ok }

pub returns-in-Skip-clause-some : goal.returns-in-Skip-clause-some
returns-in-Skip-clause-some c = record { effect = nothing; allowed = rw c.in-Skip.is goes; did = refl }
