use Rattle.kex_paths.proofs.InOrder.{determines_first}
use Rattle.kex_paths.proofs.laws.begun.Goals as goal

pub returns : goal.returns
returns c = determines_first
