use Rattle.kex_machine.proofs.UncoveredPlaces as covered
use Rattle.kex_machine.proofs.best_laws.uncovered_comes.Goals as goal

pub returns : goal.returns
returns c = λ g w b r t. covered.uncovered_comes g r t w b
