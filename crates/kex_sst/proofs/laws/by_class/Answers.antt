use Rattle.kex_sst.proofs.Passes.{by_class}
use Rattle.kex_sst.proofs.laws.by_class.Goals as goal

pub returns : goal.returns
returns c = by_class
