use Rattle.kex_model.proofs.LeftBehind.{law}
use Rattle.kex_model.proofs.laws.left_behind.Goals as goal

pub returns : goal.returns
returns c = law
