use Rattle.kex_lowering.proofs.PairedNodes.{machine_answers}
use Rattle.kex_lowering.proofs.laws.machines_answer_as_places.Goals as goal

pub returns : goal.returns
returns c = machine_answers
