use Rattle.kex_lowering.proofs.Continuations.{viable_texts_go_on}
use Rattle.kex_lowering.proofs.laws.viable_texts_go_on.Goals as goal

pub returns : goal.returns
returns c = viable_texts_go_on
