use Rattle.kex_lowering.proofs.BestCodes.{carries_best}
use Rattle.kex_lowering.proofs.PairedNodes.{carries}
use Rattle.kex_lowering.proofs.laws.nodes_tell_best_as_places.Goals as goal

pub returns : goal.returns
returns c = λ P root m kept. carries_best P root m (carries P root kept.whole m kept.of_places kept.trimmed)
