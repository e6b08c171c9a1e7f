use Rattle.kex_model.proofs.Reports.{one_stage_answer}
use Rattle.kex_model.proofs.laws.one_answer.Goals as goal

pub returns : goal.returns
returns c = λ P root limit w e a b h k. one_stage_answer P root limit w e a b h k
