use Rattle.kex_model.proofs.Examples.{shape_forks}
use Rattle.kex_model.proofs.worked.shape_forks.Goals as goal

pub returns : goal.returns
returns c = shape_forks
