use Rattle.kex_each.proofs.LineLists as lemmas
use Rattle.kex_each.proofs.laws.by_pieces.Goals as goal

pub returns : goal.returns
returns c = lemmas.by_pieces
