use Rattle.kex_sst.proofs.Passes.{on}
use Rattle.kex_sst.proofs.laws.passes_on.Goals as goal

pub returns : goal.returns
returns c = on
