use Rattle.kex_machine.proofs.UncoveredPlaces as covered
use Rattle.kex_machine.proofs.best_laws.first_leads.Goals as goal

pub returns : goal.returns
returns c = λ g w x r t. covered.first_leads g r t w x
