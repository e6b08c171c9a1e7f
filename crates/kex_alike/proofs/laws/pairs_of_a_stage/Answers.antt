use Rattle.kex_alike.proofs.StageMachines.{machines_ask}
use Rattle.kex_alike.proofs.laws.pairs_of_a_stage.Goals as goal

pub returns : goal.returns
returns c = machines_ask
