use Rattle.kex_paths.proofs.InOrder.{a_shape}
use Rattle.kex_paths.proofs.laws.one_shape.Goals as goal

pub returns : goal.returns
returns c = a_shape
