use Rattle.kex_model.proofs.Examples.{returns_are_no_parses}
use Rattle.kex_model.proofs.worked.returns_are_no_parses.Goals as goal

pub returns : goal.returns
returns c = returns_are_no_parses
