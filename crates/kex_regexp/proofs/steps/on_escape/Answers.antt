use Rattle.kex_regexp.proofs.ShownSteps.{escape_on_steps, escape_read_steps, escape_wrong_steps}
use Rattle.kex_regexp.proofs.Parents.{none_added}
use Rattle.kex_regexp.proofs.steps.on_escape.Goals as goal

pub returns-in-On-clause-step : goal.returns-in-On-clause-step
returns-in-On-clause-step c = λ base fs es t h a s. escape_on_steps _ base fs es c.in-On.escaping _ t h a (rw c.in-On.is at s)

pub returns-in-Read-clause-step : goal.returns-in-Read-clause-step
returns-in-Read-clause-step c = λ base fs es t h a s. escape_read_steps _ _ base fs es _ c.in-Read.byte _ t _ c.leaf.ensures.adds h a (rw c.in-Read.is at s) c.single.ensures.bytes c.leaf.ensures.ok c.leaf.ensures.err

pub returns-in-Wrong-clause-step : goal.returns-in-Wrong-clause-step
returns-in-Wrong-clause-step c = λ base fs es t h a s. escape_wrong_steps _ base fs es t (rw c.in-Wrong.is at s)

pub returns-in-On-clause-nodes : goal.returns-in-On-clause-nodes
returns-in-On-clause-nodes c = λ fs. none_added _ _ _ (λ n h. h)
