use Rattle.kex_model.proofs.Examples.{empty_turns_are_no_parses}
use Rattle.kex_model.proofs.worked.empty_turns_are_no_parses.Goals as goal

pub returns : goal.returns
returns c = empty_turns_are_no_parses
