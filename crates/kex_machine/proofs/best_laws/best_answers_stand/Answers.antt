use Rattle.kex_machine.proofs.BestAnswers.{best_stand}
use Rattle.kex_machine.proofs.best_laws.best_answers_stand.Goals as goal

pub returns : goal.returns
returns c = λ g limit. best_stand g limit
