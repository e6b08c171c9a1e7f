use Rattle.kex_lowering.proofs.Existence.{stage_answers}
use Rattle.kex_lowering.proofs.laws.stages_have_answers.Goals as goal

pub returns : goal.returns
returns c = stage_answers
