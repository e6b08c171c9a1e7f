use Rattle.kex_model.proofs.PlaceExamples.{places_are_closed}
use Rattle.kex_model.proofs.worked.places_are_closed.Goals as goal

pub returns : goal.returns
returns c = places_are_closed
