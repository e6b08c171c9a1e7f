use Rattle.kex_paths.proofs.InOrder.{determines}
use Rattle.kex_paths.proofs.laws.determined.Goals as goal

pub returns : goal.returns
returns c = determines
