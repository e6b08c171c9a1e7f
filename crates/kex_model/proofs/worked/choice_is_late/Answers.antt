use Rattle.kex_model.proofs.Examples.{choice_is_late}
use Rattle.kex_model.proofs.worked.choice_is_late.Goals as goal

pub returns : goal.returns
returns c = choice_is_late
