use Rattle.kex_model.proofs.Examples.{limit_stops}
use Rattle.kex_model.proofs.worked.limit_stops.Goals as goal

pub returns : goal.returns
returns c = limit_stops
