use Rattle.kex_lowering.proofs.PairedNodes.{carries}
use Rattle.kex_lowering.proofs.laws.nodes_answer_as_places.Goals as goal

pub returns : goal.returns
returns c = carries
