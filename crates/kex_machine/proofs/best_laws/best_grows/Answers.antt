use Rattle.kex_machine.proofs.BestAnswers.{best_grows_all}
use Rattle.kex_machine.proofs.best_laws.best_grows.Goals as goal

pub returns : goal.returns
returns c = λ g w v r t. best_grows_all g r t w v
