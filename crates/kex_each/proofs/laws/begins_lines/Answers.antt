use Rattle.kex_each.proofs.LineLists as lemmas
use Rattle.kex_each.proofs.laws.begins_lines.Goals as goal

pub returns : goal.returns
returns c = lemmas.begins_lines
