use Rattle.kex_regexp.proofs.ShownSteps.{set_on_steps, set_read_steps, set_wrong_steps}
use Rattle.kex_regexp.proofs.Parents.{none_added}
use Rattle.kex_regexp.proofs.steps.on_set.Goals as goal

pub returns-in-On-clause-step : goal.returns-in-On-clause-step
returns-in-On-clause-step c = λ base fs es t h a s i. set_on_steps _ base fs es c.in-On.negated c.in-On.empty c.in-On.part _ t h a (rw c.in-On.is at s)

pub returns-in-Read-clause-step : goal.returns-in-Read-clause-step
returns-in-Read-clause-step c = λ base fs es t h a s i. set_read_steps _ _ base fs es c.args.set.now _ c.in-Read.negated _ t _ c.leaf.ensures.adds h a (rw c.in-Read.is at s) i c.read.ensures c.leaf.ensures.ok c.leaf.ensures.err

pub returns-in-Wrong-clause-step : goal.returns-in-Wrong-clause-step
returns-in-Wrong-clause-step c = λ base fs es t h a s i. set_wrong_steps _ base fs es t (rw c.in-Wrong.is at s)

pub returns-in-On-clause-nodes : goal.returns-in-On-clause-nodes
returns-in-On-clause-nodes c = λ fs. none_added _ _ _ (λ n h. h)
