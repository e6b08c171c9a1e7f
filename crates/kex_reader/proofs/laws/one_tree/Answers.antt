use Rattle.kex_reader.proofs.Viable as viable
use Rattle.kex_reader.proofs.WrongWords.{one_wrong, not_both}
use Rattle.kex_reader.proofs.laws.one_tree.Goals as goal

pub returns-clause-tree : goal.returns-clause-tree
returns-clause-tree c = viable.one_tree

pub returns-clause-wrong : goal.returns-clause-wrong
returns-clause-wrong c = one_wrong

pub returns-clause-either : goal.returns-clause-either
returns-clause-either c = not_both
