use Rattle.kex_model.proofs.Examples.{last_stop_is_reported}
use Rattle.kex_model.proofs.worked.last_stop_is_reported.Goals as goal

pub returns : goal.returns
returns c = last_stop_is_reported
