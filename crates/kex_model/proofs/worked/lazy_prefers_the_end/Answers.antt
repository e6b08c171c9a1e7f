use Rattle.kex_model.proofs.Examples.{lazy_prefers_the_end}
use Rattle.kex_model.proofs.worked.lazy_prefers_the_end.Goals as goal

pub returns : goal.returns
returns c = lazy_prefers_the_end
