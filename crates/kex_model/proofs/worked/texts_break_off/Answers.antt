use Rattle.kex_model.proofs.Examples.{texts_break_off}
use Rattle.kex_model.proofs.worked.texts_break_off.Goals as goal

pub returns : goal.returns
returns c = texts_break_off
