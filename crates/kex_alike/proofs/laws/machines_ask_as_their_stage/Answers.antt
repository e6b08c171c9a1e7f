use Rattle.kex_alike.proofs.StageMachines.{machines_ask_as_stage}
use Rattle.kex_alike.proofs.laws.machines_ask_as_their_stage.Goals as goal

pub returns : goal.returns
returns c = machines_ask_as_stage
