use Rattle.kex_model.specs.Moves.{nothing, goes}
use Rattle.kex_machine.specs.Nodes.{effect_of}
use Rattle.kex_action.proofs.walk.passed.Goals as goal

pub returns-in-Do-clause-some : goal.returns-in-Do-clause-some
returns-in-Do-clause-some c = (effect_of c.in-Do.field-0, rw c.in-Do.is goes)

pub returns-in-Skip-clause-some : goal.returns-in-Skip-clause-some
returns-in-Skip-clause-some c = (nothing, rw c.in-Skip.is goes)
