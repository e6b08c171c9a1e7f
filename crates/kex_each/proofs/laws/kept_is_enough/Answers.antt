use Rattle.kex_each.proofs.KeptLines as lemmas
use Rattle.kex_each.proofs.laws.kept_is_enough.Goals as goal

pub returns : goal.returns
returns c = lemmas.kept_enough
