use Rattle.kex_compile.proofs.Alike.{alike}
use Rattle.kex_compile.proofs.ProgramAnswers.{accepts, answered, counted, meant, states_counted}
use Rattle.kex_compile.proofs.laws.meant.Goals as goal

pub returns-clause-accepted : goal.returns-clause-accepted
returns-clause-accepted c = λ limits text. accepts limits text (alike c.one_cut.ensures.tokens c.one_tree-2.ensures.tree c.one_tree.ensures.tree c.one_value.ensures text)

pub returns-clause-places : goal.returns-clause-places
returns-clause-places c = λ limits text. counted limits text (alike c.one_cut.ensures.tokens c.one_tree-2.ensures.tree c.one_tree.ensures.tree c.one_value.ensures text)

pub returns-clause-states : goal.returns-clause-states
returns-clause-states c = λ limits text. states_counted limits text (alike c.one_cut.ensures.tokens c.one_tree-2.ensures.tree c.one_tree.ensures.tree c.one_value.ensures text)

pub returns-clause-stages : goal.returns-clause-stages
returns-clause-stages c = λ limits text. meant limits text (alike c.one_cut.ensures.tokens c.one_tree-2.ensures.tree c.one_tree.ensures.tree c.one_value.ensures text)

pub returns-clause-pipelines : goal.returns-clause-pipelines
returns-clause-pipelines c = λ limits text. answered limits text (alike c.one_cut.ensures.tokens c.one_tree-2.ensures.tree c.one_tree.ensures.tree c.one_value.ensures text)
