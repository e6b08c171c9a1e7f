use Rattle.kex_lowering.proofs.States.{same_states}
use Rattle.kex_lowering.proofs.laws.nodes_have_states_of_places.Goals as goal

pub returns : goal.returns
returns c = λ P root m n kept. same_states P root m kept n
