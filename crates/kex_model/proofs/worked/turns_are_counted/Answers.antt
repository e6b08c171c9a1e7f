use Rattle.kex_model.proofs.Examples.{turns_are_counted}
use Rattle.kex_model.proofs.worked.turns_are_counted.Goals as goal

pub returns : goal.returns
returns c = turns_are_counted
