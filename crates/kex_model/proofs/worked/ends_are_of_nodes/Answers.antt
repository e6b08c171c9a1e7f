use Rattle.kex_model.proofs.Examples.{ends_are_of_nodes}
use Rattle.kex_model.proofs.worked.ends_are_of_nodes.Goals as goal

pub returns : goal.returns
returns c = ends_are_of_nodes
