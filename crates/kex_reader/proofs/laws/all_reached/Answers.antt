use Rattle.kex_reader.proofs.Reach.{each_reached}
use Rattle.kex_reader.proofs.laws.all_reached.Goals as goal

pub returns : goal.returns
returns c = each_reached
