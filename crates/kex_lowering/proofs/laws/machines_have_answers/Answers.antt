use Rattle.kex_lowering.proofs.Existence.{has_answers}
use Rattle.kex_lowering.proofs.laws.machines_have_answers.Goals as goal

pub returns : goal.returns
returns c = has_answers
