use Rattle.kex_lowering.proofs.BestCodes.{best_stands}
use Rattle.kex_lowering.proofs.laws.best_stages_stand.Goals as goal

pub returns : goal.returns
returns c = λ P root limit. best_stands P root limit
