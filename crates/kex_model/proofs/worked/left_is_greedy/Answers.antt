use Rattle.kex_model.proofs.Examples.{left_is_greedy}
use Rattle.kex_model.proofs.worked.left_is_greedy.Goals as goal

pub returns : goal.returns
returns c = left_is_greedy
