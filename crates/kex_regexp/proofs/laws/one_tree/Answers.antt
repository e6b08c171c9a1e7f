use Rattle.kex_regexp.proofs.Viable.{one_tree}
use Rattle.kex_regexp.proofs.WrongBytes.{not_both, one_wrong}
use Rattle.kex_regexp.proofs.laws.one_tree.Goals as goal

pub returns-clause-tree : goal.returns-clause-tree
returns-clause-tree c = one_tree

pub returns-clause-wrong : goal.returns-clause-wrong
returns-clause-wrong c = one_wrong

pub returns-clause-either : goal.returns-clause-either
returns-clause-either c = not_both
