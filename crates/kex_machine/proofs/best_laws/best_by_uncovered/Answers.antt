use Rattle.kex_machine.proofs.UncoveredPlaces as covered
use Rattle.kex_machine.proofs.best_laws.best_by_uncovered.Goals as goal

pub returns : goal.returns
returns c = λ g w r t. covered.best_is g r t w
