use Rattle.std.proofs.Common.{◌++◌, ◌∷◌, [], ap, ◌∙◌}
use Rattle.kex_tabfile.proofs.StateSteps.{first_trees}
use Rattle.kex_tabfile.proofs.state_trees.StateTrees.new.Goals as goal

pub returns-clause-first : goal.returns-clause-first
returns-clause-first c = λ shapes a first at.
    first_trees c.args.machine.now shapes a c.in_ok-tree.tree c.in_ok-tree._update c.push.new.self.items c.in_ok-tree.ensures.machine c.in_ok-tree.ensures.first (c.in_ok-push.ensures.items ∙ ap (λ z. z ++ c.in_ok-tree.tree ∷ []) c.new-trees.ensures.items) first at
