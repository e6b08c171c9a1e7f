use Rattle.kex_lowering.proofs.PairedNodes.{shaped}
use Rattle.kex_lowering.proofs.laws.nodes_have_shapes_of_places.Goals as goal

pub returns : goal.returns
returns c = shaped
