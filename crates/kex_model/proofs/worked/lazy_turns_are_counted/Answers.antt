use Rattle.kex_model.proofs.Examples.{lazy_turns_are_counted}
use Rattle.kex_model.proofs.worked.lazy_turns_are_counted.Goals as goal

pub returns : goal.returns
returns c = lazy_turns_are_counted
