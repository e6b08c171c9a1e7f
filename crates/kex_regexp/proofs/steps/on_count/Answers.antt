use Rattle.kex_regexp.proofs.ShownSteps.{count_on_steps, count_read_steps, count_wrong_steps}
use Rattle.kex_regexp.proofs.Parents.{none_added}
use Rattle.kex_regexp.proofs.steps.on_count.Goals as goal

pub returns-in-On-clause-step : goal.returns-in-On-clause-step
returns-in-On-clause-step c = λ nodes fs base es i h a x t q s. count_on_steps nodes base fs es i c.args.item c.in-On.count _ t h a q x (rw c.in-On.is at s)

pub returns-in-Read-clause-step : goal.returns-in-Read-clause-step
returns-in-Read-clause-step c = λ nodes fs base es i h a x t q s. count_read_steps nodes base fs es i (record { item = c.args.item; bounds = c.in-Read.bounds }) t h a x (rw c.in-Read.is at s)

pub returns-in-Wrong-clause-step : goal.returns-in-Wrong-clause-step
returns-in-Wrong-clause-step c = λ nodes fs base es i h a x t q s. count_wrong_steps nodes base fs es i t (rw c.in-Wrong.is at s)

pub returns-in-On-clause-nodes : goal.returns-in-On-clause-nodes
returns-in-On-clause-nodes c = λ nodes fs. none_added _ _ _ (λ n h. h)

pub returns-in-Read-clause-nodes : goal.returns-in-Read-clause-nodes
returns-in-Read-clause-nodes c = λ nodes fs. none_added _ _ _ (λ n h. h)
