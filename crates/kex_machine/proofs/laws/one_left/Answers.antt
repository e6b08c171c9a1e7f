use Rattle.kex_machine.proofs.NodeAnswers.{same_left}
use Rattle.kex_machine.proofs.laws.one_left.Goals as goal

pub returns : goal.returns
returns c = same_left
